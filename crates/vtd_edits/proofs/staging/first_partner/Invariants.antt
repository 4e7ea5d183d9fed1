use Rattle.std.proofs.Common.{◌≡◌, ℕ, ◌<◌, ◌++◌, false}
use Rattle.vtd_edits.specs.Splices.{overlap, splice_at}
use Rattle.vtd_edits.proofs.staging.first_partner.Given as goal

abbrev pub invariant-loop-i : goal.invariant-loop-i
invariant-loop-i l =
    (k : ℕ) → k < l.i → overlap (splice_at (l.staged ++ l.list) l.later) (splice_at (l.staged ++ l.list) k) ≡ false
