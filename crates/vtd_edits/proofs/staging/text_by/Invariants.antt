use Rattle.std.proofs.Common.{◌≡◌, take}
use Rattle.vtd_edits.specs.Splices.{text_size}
use Rattle.vtd_edits.proofs.staging.text_by.Given as goal

abbrev pub invariant-loop-splice : goal.invariant-loop-splice
invariant-loop-splice l = l.text ≡ text_size (take l.splice-index l.list)
