use Rattle.xml_model.proofs.OneRefusal.{one_refusal}
use Rattle.xml_model.proofs.laws.one_refusal.Goals as goal

pub returns : goal.returns
returns c = one_refusal
