use Rattle.std.proofs.Common.{◌∙◌, sym}
use Rattle.xpath_calls.proofs.FirstLemmas.{first_place_is, some_there}
use Rattle.xpath_calls.proofs.nodes.first_of.Goals as goal

pub returns-clause-some : goal.returns-clause-some
returns-clause-some g c = λ d h es a. first_place_is c.args.nodes.now c.here.result c.place_at.result
    (some_there c.args.nodes.now (sym c.if-is_empty.false ∙ c.is_empty.ensures)) c.place_at.ensures.is c.here.ensures.node d es a
