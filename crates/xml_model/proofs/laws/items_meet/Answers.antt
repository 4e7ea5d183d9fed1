use Rattle.xml_model.proofs.Proper.{walk_meets}
use Rattle.xml_model.proofs.laws.items_meet.Goals as goal

pub returns : goal.returns
returns c = walk_meets
