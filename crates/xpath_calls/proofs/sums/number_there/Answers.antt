use Rattle.xpath_values.specs.Values.{string_value}
use Rattle.xpath_meaning.proofs.Nodes.{node_known_in}
use Rattle.xpath_calls.proofs.SumLemmas.{IsNumberOf, has_string, there_fits}
use Rattle.xpath_calls.proofs.sums.number_there.Goals as goal

pub number_seen-requires : goal.number_seen-requires
number_seen-requires g c = node_known_in _ _ _ _ c.table_of.ensures.bytes c.table_of.ensures.lists c.table_of.ensures.nav c.requires

pub returns : goal.returns
returns g c =
    let f : IsNumberOf c.args.scope.now c.args.place.node c.number_seen.result =
    λ d h e k. c.number_seen.ensures (string_value e) (has_string _ _ _ c.args.place.node c.table_of.ensures.bytes c.table_of.ensures.lists d h e k) in
    record { number = f; fits = there_fits c.args.scope.now c.args.place _ c.table_of.ensures.nav c.requires f }
