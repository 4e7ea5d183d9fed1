use Rattle.std.proofs.Common.{◌≡◌, ℕ, ◌+◌, ◌%◌, ◌^◌, ◌<◌, ◌++◌, length, drop, filter, nat_lt, MatchOption}
use Rattle.vtd_edits.specs.Order.{apart_after, apart_to}
use Rattle.vtd_edits.proofs.staging.are_apart.Given as goal

abbrev pub invariant-loop-key : goal.invariant-loop-key
invariant-loop-key l = record {
  same : apart_to (l.staged ++ l.list) l.order l.count
      ≡ apart_after (l.staged ++ l.list) l.last (filter (λ (k : ℕ). nat_lt (k % 2 ^ 32) l.count) (drop l.key-index l.order));
  there : MatchOption l.last (Unit {0}) (λ k. k < length l.staged + length l.list);
}
