use Rattle.std.proofs.Common.{◌≡◌, ℕ, ◌<◌, length, get_or}
use Rattle.xpath_values.proofs.bytewise.unchanged.Given as goal

abbrev pub invariant-loop-b : goal.invariant-loop-b
invariant-loop-b l = record {
  size : length l.table ≡ 256;
  same : (k : ℕ) → k < l.b → get_or l.table k 0 ≡ k;
}
