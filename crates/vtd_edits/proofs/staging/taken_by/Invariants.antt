use Rattle.std.proofs.Common.{◌≡◌, take}
use Rattle.vtd_edits.specs.Order.{taken_size}
use Rattle.vtd_edits.proofs.staging.taken_by.Given as goal

abbrev pub invariant-loop-splice : goal.invariant-loop-splice
invariant-loop-splice l = l.taken ≡ taken_size (take l.splice-index l.list)
