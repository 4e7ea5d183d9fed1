use Rattle.std.proofs.Common.{◌≡◌, ◌+◌, ◌-◌, ◌≤◌, drop, length}
use Rattle.std.specs.List.{prefix_len}
use Rattle.xml_lanes.proofs.runs.far_end.Given as goal

abbrev pub invariant-loop-place : goal.invariant-loop-place
invariant-loop-place g l = (l.place ≤ length l.bytes) × (l.place + prefix_len (g.C.ByteClass.has l.class) (drop l.place l.bytes) ≡ l.at + prefix_len (g.C.ByteClass.has l.class) (drop l.at l.bytes))

abbrev pub decreases-loop-place : goal.decreases-loop-place
decreases-loop-place g l = length l.bytes - l.place
