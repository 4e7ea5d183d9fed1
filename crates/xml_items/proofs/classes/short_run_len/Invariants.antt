use Rattle.std.proofs.Common.{◌≡◌, ◌+◌, drop}
use Rattle.std.specs.List.{prefix_len}
use Rattle.xml_items.specs.Runs.{goes_on}
use Rattle.xml_items.proofs.classes.short_run_len.Given as goal

abbrev pub invariant-loop-i : goal.invariant-loop-i
invariant-loop-i l = l.i + prefix_len (goes_on l.stops) (drop l.i l.bytes) ≡ prefix_len (goes_on l.stops) l.bytes
