use Rattle.xml_model.proofs.NodeLaws.{node_at_record}
use Rattle.xml_model.proofs.laws.kind_by_scan_decides.Goals as goal

pub returns : goal.returns
returns c = node_at_record
