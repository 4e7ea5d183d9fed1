use Rattle.xml_model.proofs.Bridge.{accepted_from_no_refusal}
use Rattle.xml_model.proofs.laws.accepted_where_none_refuses.Goals as goal

pub returns : goal.returns
returns c = accepted_from_no_refusal
