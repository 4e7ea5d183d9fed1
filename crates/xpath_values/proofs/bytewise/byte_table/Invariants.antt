use Rattle.std.proofs.Common.{◌≡◌, ◌≤◌, length, drop}
use Rattle.std.specs.List.{slice_index}
use Rattle.xpath_values.specs.Translating.{IsBytewise}
use Rattle.xpath_values.proofs.bytewise.byte_table.Given as goal

abbrev pub invariant-loop-left : goal.invariant-loop-left
invariant-loop-left l = record {
  size : length l.table ≡ 256;
  within : l.left ≤ length l.fn.from;
  table : IsBytewise (drop l.left l.fn.from) (drop l.left l.fn.to) (slice_index l.table);
}

abbrev pub decreases-loop-left : goal.decreases-loop-left
decreases-loop-left l = l.left
