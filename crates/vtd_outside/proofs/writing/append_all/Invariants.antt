use Rattle.std.proofs.Common.{◌-◌, length}
use Rattle.vtd_outside.specs.Written.{Appending}
use Rattle.vtd_outside.proofs.writing.append_all.Given as goal

abbrev pub invariant-loop-sent : goal.invariant-loop-sent
invariant-loop-sent g l = Appending (g.F.Files.seen l.fn.files) (g.F.Files.seen l.files) l.bytes l.sent

abbrev pub decreases-loop-sent : goal.decreases-loop-sent
decreases-loop-sent g l = length l.bytes - l.sent
