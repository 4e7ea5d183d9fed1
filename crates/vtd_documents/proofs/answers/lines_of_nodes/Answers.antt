use Rattle.vtd_location.proofs.NavLaws.{nest_of_table}
use Rattle.vtd_documents.proofs.answers.lines_of_nodes.Goals as goal

pub returns : goal.returns
returns g c =
    let n = c.table.ensures.nav in
    let a = c.in_ok-nodes.ensures.answers n.nest n.shown in
    let l = c.in_ok-held.ensures n.nest (nest_of_table _ _ n.nest n.shown) a.value a.held.same a.held.within in
    (n.nest, n.shown.accepted, record { value = a.value; held = l; answers = a.answers })
