use Rattle.xml_model.proofs.NodeLaws.{starts_of_nodes}
use Rattle.xml_model.proofs.laws.indexes_by_scan.Goals as goal

pub returns : goal.returns
returns c = starts_of_nodes
