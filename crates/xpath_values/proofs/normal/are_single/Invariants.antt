use Rattle.std.proofs.Common.{◌≡◌, ℕ, ◌+◌, ◌<◌, true, get_or}
use Rattle.xpath_values.specs.Normal.{IsSingle}
use Rattle.xpath_values.proofs.normal.are_single.Given as goal

abbrev pub invariant-loop-k : goal.invariant-loop-k
invariant-loop-k l = l.all ≡ true → (j : ℕ) → j + 1 < l.k → IsSingle (get_or l.bytes j 0) (get_or l.bytes (j + 1) 0)
