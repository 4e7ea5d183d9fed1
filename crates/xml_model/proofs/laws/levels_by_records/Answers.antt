use Rattle.xml_model.proofs.TreeLevels.{levels_are}
use Rattle.xml_model.proofs.laws.levels_by_records.Goals as goal

pub returns : goal.returns
returns c = levels_are
