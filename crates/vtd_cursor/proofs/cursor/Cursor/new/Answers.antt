use Rattle.std.proofs.Common.{arith}
use Rattle.vtd_cursor.proofs.CursorLemmas.{root_holds}
use Rattle.vtd_cursor.proofs.cursor.Cursor.new.Goals as goal

pub invariant_of-result : goal.invariant_of-result
invariant_of-result g c = rw (c.new.ensures.items, c.table.ensures.value) (record { holds = root_holds _ _ c.table.ensures.nav; kept = tt; inline = omega (arith, c.new.ensures.capacity) })
