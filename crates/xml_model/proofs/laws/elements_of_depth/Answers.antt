use Rattle.xml_model.proofs.Depths.{depth_by_records}
use Rattle.xml_model.proofs.laws.elements_of_depth.Goals as goal

pub returns : goal.returns
returns c = depth_by_records
