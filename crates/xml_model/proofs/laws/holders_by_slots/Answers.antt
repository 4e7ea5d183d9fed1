use Rattle.xml_model.proofs.Slots.{holders_in_slots}
use Rattle.xml_model.proofs.laws.holders_by_slots.Goals as goal

pub returns : goal.returns
returns c = holders_in_slots
