use Rattle.std.proofs.Common.{◌∙◌, ap, ◌++◌}
use Rattle.xpath_nodes.proofs.NodeFacts.{both_of}
use Rattle.xpath_nodes.proofs.ordering.united.Goals as goal

pub in_order-requires : goal.in_order-requires
in_order-requires g c =
    both_of _ _ _ _ c.nodes_in.ensures.of c.nodes_in-2.ensures.of (c.in-Ok.ensures.appended ∙ ap (λ xs. xs ++ c.nodes_in-2.result) c.held.view_is)
