use Rattle.xml_model.proofs.Bridge.{no_refusal_from_accepted}
use Rattle.xml_model.proofs.laws.none_refuses_accepted.Goals as goal

pub returns : goal.returns
returns c = no_refusal_from_accepted
