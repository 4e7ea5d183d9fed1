use Rattle.std.proofs.Common.{◌≡◌, ◌≤◌, ◌+◌, ◌-◌, length}
use Rattle.std.specs.List.{prefix_len}
use Rattle.xml_items.specs.Runs.{goes_on}
use Rattle.xml_items.proofs.classes.after_blocks.Given as goal

abbrev pub invariant-loop-rest : goal.invariant-loop-rest
invariant-loop-rest l = record {
  run : prefix_len (goes_on l.stops) l.bytes ≡ length l.bytes - length l.rest + prefix_len (goes_on l.stops) l.rest;
  shorter : length l.rest ≤ length l.bytes;
}

abbrev pub decreases-loop-rest : goal.decreases-loop-rest
decreases-loop-rest l = length l.rest
