use Rattle.vtd_cursor.specs.Passes.{IsPassTo}
use Rattle.vtd_cursor.proofs.listed.end_all.Given as goal

abbrev pub invariant-loop-i : goal.invariant-loop-i
invariant-loop-i g l =
    IsPassTo l.table.bytes (g.W.Words.lists l.table.words) l.nodes l.spans l.elements.slots l.elements.bound l.i l.next
