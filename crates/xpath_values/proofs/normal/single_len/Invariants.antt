use Rattle.std.proofs.Common.{◌≤◌, ◌-◌, length}
use Rattle.xpath_values.specs.Normal.{AreSingle}
use Rattle.xpath_values.proofs.normal.single_len.Given as goal

abbrev pub invariant-loop-start : goal.invariant-loop-start
invariant-loop-start l = record {
  within : l.start ≤ length l.bytes;
  single : AreSingle l.bytes l.start;
}

abbrev pub decreases-loop-start : goal.decreases-loop-start
decreases-loop-start l = length l.bytes - l.start
