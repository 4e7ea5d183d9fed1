use Rattle.std.proofs.Common.{◌≡◌, ◌+◌, ◌-◌, ◌≤◌, drop, length}
use Rattle.std.specs.List.{prefix_len}
use Rattle.xml_lanes.proofs.runs.near_end.Given as goal

abbrev pub invariant-loop-end : goal.invariant-loop-end
invariant-loop-end g l = (l.end ≤ length l.bytes) × (l.end + prefix_len (g.C.ByteClass.has l.class) (drop l.end l.bytes) ≡ l.at + prefix_len (g.C.ByteClass.has l.class) (drop l.at l.bytes))

abbrev pub decreases-loop-end : goal.decreases-loop-end
decreases-loop-end g l = length l.bytes - l.end
