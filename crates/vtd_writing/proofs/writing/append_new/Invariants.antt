use Rattle.vtd_writing.specs.Joins.{Joining}
use Rattle.vtd_writing.proofs.writing.append_new.Given as goal

abbrev pub invariant-loop-i : goal.invariant-loop-i
invariant-loop-i g l = Joining (g.F.Files.seen l.fn.files) (g.F.Files.seen l.files) l.joined.items l.bytes l.edits.splices l.i l.done
