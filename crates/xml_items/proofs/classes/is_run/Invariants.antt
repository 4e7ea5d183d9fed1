use Rattle.std.proofs.Common.{◌≡◌, drop}
use Rattle.std.specs.Prelude.{◌&&◌}
use Rattle.std.specs.List.{list_all}
use Rattle.xml_items.specs.Runs.{goes_on}
use Rattle.xml_items.proofs.classes.is_run.Given as goal

abbrev pub invariant-loop-byte : goal.invariant-loop-byte
invariant-loop-byte l = (l.all && list_all (goes_on l.stops) (drop l.byte-index l.block)) ≡ list_all (goes_on l.stops) l.block
