use Rattle.xml_model.proofs.TreeLevels.{children_are}
use Rattle.xml_model.proofs.laws.child_elements_by_records.Goals as goal

pub returns : goal.returns
returns c = children_are
