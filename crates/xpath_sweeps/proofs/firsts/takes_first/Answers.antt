use Rattle.std.proofs.Common.{ap}
use Rattle.xpath_grammar.specs.Tree.{tree_of, trees_of}
use Rattle.xpath_sweeps.proofs.Ones.{one_asked}
use Rattle.xpath_sweeps.proofs.firsts.takes_first.Goals as goal

pub returns-in-More : goal.returns-in-More
returns-in-More c = λ d es.
    one_asked (trees_of c.args.predicates.now) _ _ _ c.is_one.result (ap trees_of c.in-More.is) (ap tree_of c.deref.ensures) c.is_one.ensures d es
