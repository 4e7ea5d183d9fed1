use Rattle.std.proofs.Common.{◌≡◌, ◌+◌, ◌-◌, ◌<◌, ◌≤◌, ◌++◌, length, true, false}
use Rattle.vtd_edits.specs.Order.{apart_to}
use Rattle.vtd_edits.proofs.staging.first_late.Given as goal

abbrev pub invariant-loop-low : goal.invariant-loop-low
invariant-loop-low l = record {
  order : l.low < l.high;
  within : l.high ≤ length l.staged + length l.list;
  apart : apart_to (l.staged ++ l.list) l.order l.low ≡ true;
  overlaps : apart_to (l.staged ++ l.list) l.order l.high ≡ false;
}

abbrev pub decreases-loop-low : goal.decreases-loop-low
decreases-loop-low l = l.high - l.low
