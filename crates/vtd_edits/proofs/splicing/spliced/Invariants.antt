use Rattle.vtd_edits.specs.Turns.{IsDone}
use Rattle.vtd_edits.proofs.splicing.spliced.Given as goal

abbrev pub invariant-loop-i : goal.invariant-loop-i
invariant-loop-i l = IsDone l.bytes l.edits.splices l.i l.done l.out.items
