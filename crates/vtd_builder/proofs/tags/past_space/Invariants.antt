use Rattle.std.proofs.Common.{◌≡◌, ◌+◌, ◌-◌, ◌≤◌, drop, length}
use Rattle.std.specs.List.{prefix_len}
use Rattle.vtd_builder.specs.Cuts.{is_low}
use Rattle.vtd_builder.proofs.tags.past_space.Given as goal

abbrev pub invariant-loop-end : goal.invariant-loop-end
invariant-loop-end l = (l.end ≤ length l.bytes) × (l.end + prefix_len is_low (drop l.end l.bytes) ≡ l.at + prefix_len is_low (drop l.at l.bytes))

abbrev pub decreases-loop-end : goal.decreases-loop-end
decreases-loop-end l = length l.bytes - l.end
