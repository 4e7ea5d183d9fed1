use Rattle.std.proofs.Common.{◌∙◌, arith, []}
use Rattle.vtd_location.proofs.Passing.{more_stored}
use Rattle.vtd_location.proofs.checking.finish.Goals as goal

pub returns-then-last-len : goal.returns-then-last-len
returns-then-last-len g c =
    let e = rw c.in_default-found.is at (c.settle-last.ensures.value []) in
    rw c.in_default.is (more_stored _ _ (omega (arith, c.if-last-len.true, c.len.ensures)) ∙ e)
