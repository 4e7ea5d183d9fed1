use Rattle.xml_model.proofs.NodeLaws.{records_of_node}
use Rattle.xml_model.proofs.laws.nodes_have_records.Goals as goal

pub returns : goal.returns
returns c = records_of_node
