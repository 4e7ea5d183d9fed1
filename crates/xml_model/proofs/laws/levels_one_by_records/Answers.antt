use Rattle.xml_model.proofs.TreeLevels.{levels_one_are}
use Rattle.xml_model.proofs.laws.levels_one_by_records.Goals as goal

pub returns : goal.returns
returns c = levels_one_are
