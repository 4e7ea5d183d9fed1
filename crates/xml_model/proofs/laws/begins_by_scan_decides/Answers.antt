use Rattle.xml_model.proofs.NodeLaws.{begins_at_record}
use Rattle.xml_model.proofs.laws.begins_by_scan_decides.Goals as goal

pub returns : goal.returns
returns c = begins_at_record
