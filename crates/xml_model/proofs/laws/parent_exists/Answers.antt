use Rattle.xml_model.proofs.NodeLaws.{parent_there}
use Rattle.xml_model.proofs.laws.parent_exists.Goals as goal

pub returns : goal.returns
returns c = parent_there
