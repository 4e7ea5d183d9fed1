use Rattle.vtd_cursor.specs.Passes.{IsClosing}
use Rattle.vtd_cursor.proofs.listed.end_open.Given as goal

abbrev pub invariant-ends : goal.invariant-ends
invariant-ends g l =
    IsClosing l.table.bytes (g.W.Words.lists l.table.words) l.initial.spans l.initial.elements.slots l.initial.elements.bound l.spans l.elements.slots
    l.elements.bound l.at l.piece.opened l.piece.end

abbrev pub decreases-ends : goal.decreases-ends
decreases-ends g l = l.elements.bound
