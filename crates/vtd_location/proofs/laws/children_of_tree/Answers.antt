use Rattle.vtd_location.proofs.NavLaws.{tells_children}
use Rattle.vtd_location.proofs.laws.children_of_tree.Goals as goal

pub returns : goal.returns
returns c = tells_children
