use Rattle.std.proofs.Common.{refl}
use Rattle.vtd_cursor.proofs.SlotLemmas.{all_free}
use Rattle.vtd_cursor.proofs.slots.OpenElements.new.Goals as goal

pub returns-clause-slots : goal.returns-clause-slots
returns-clause-slots c = all_free 256 refl
