use Rattle.xml_model.proofs.Bridge.{one_walk}
use Rattle.xml_model.proofs.laws.one_walk.Goals as goal

pub returns : goal.returns
returns c = one_walk
