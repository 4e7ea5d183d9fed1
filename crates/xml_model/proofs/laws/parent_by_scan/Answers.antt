use Rattle.xml_model.proofs.NodeLaws.{parent_of_node}
use Rattle.xml_model.proofs.laws.parent_by_scan.Goals as goal

pub returns : goal.returns
returns c = parent_of_node
