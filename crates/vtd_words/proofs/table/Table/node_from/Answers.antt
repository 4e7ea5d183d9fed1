use Rattle.std.proofs.Common.{◌∙◌}
use Rattle.vtd_words.proofs.Owners.{node_found, node_there, none_found}
use Rattle.vtd_words.proofs.table.Table.node_from.Goals as goal

pub returns-in_err-kind-clause-node : goal.returns-in_err-kind-clause-node
returns-in_err-kind-clause-node g c = rw (← c.self.view_is) (λ nest s. c.from_residual.ensures
    ∙ none_found _ _ c.self.invariant.few c.args.at c.kind_from.result c.in_err-kind.was c.kind_from.ensures nest s)

pub returns-clause-node : goal.returns-clause-node
returns-clause-node g c = rw (← c.self.view_is) (λ nest s.
    node_found _ _ c.self.invariant.few c.args.at c.kind_from.result c.in_ok-kind.kind c.in_ok-kind.was c.kind_from.ensures nest s)

pub returns-clause-table : goal.returns-clause-table
returns-clause-table g c = rw (← c.self.view_is)
    (node_there _ _ c.self.invariant c.args.at c.kind_from.result c.in_ok-kind.kind c.in_ok-kind.was c.kind_from.ensures)
