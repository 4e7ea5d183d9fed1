use Rattle.vtd_cursor.specs.Passes.{IsPassing}
use Rattle.vtd_cursor.proofs.listed.pass_to.Given as goal

abbrev pub invariant-loop-at : goal.invariant-loop-at
invariant-loop-at g l =
    IsPassing l.table.bytes (g.W.Words.lists l.table.words) l.initial.spans l.initial.elements.slots l.initial.elements.bound l.from l.spans
    l.elements.slots l.elements.bound l.at
