use Rattle.xml_model.proofs.NodeLaws.{holder_of_node}
use Rattle.xml_model.proofs.laws.holder_by_scan_decides.Goals as goal

pub returns : goal.returns
returns c = holder_of_node
