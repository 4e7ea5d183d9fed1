use Rattle.xml_model.proofs.NodeLaws.{past_of_node}
use Rattle.xml_model.proofs.laws.ends_by_scan.Goals as goal

pub returns : goal.returns
returns c = past_of_node
