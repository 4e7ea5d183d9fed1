use Rattle.std.proofs.Common.{◌≡◌, drop}
use Rattle.xpath_sweeps.specs.Sweeps.{are_in_order, rise_from}
use Rattle.xpath_sweeps.proofs.scans.are_in_order.Given as goal

abbrev pub invariant-loop-i : goal.invariant-loop-i
invariant-loop-i l = record {
  so_far : rise_from l.low (drop l.i l.nodes) ≡ are_in_order l.nodes;
}
