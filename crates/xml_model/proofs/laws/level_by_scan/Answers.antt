use Rattle.xml_model.proofs.LevelScan.{by_scan}
use Rattle.xml_model.proofs.laws.level_by_scan.Goals as goal

pub returns : goal.returns
returns c = by_scan
