use Rattle.std.proofs.Common.{length}
use Rattle.std.specs.Prelude.{IfOk}
use Rattle.std.specs.List.{AllByRecursion}
use Rattle.vtd_words.specs.Table.{IsNodeOf}
use Rattle.xpath_values.specs.Numbers.{IsNumber}
use Rattle.speed_values.proofs.sums.sum_of.Given as goal

abbrev pub invariant-loop-node : goal.invariant-loop-node
invariant-loop-node g l = record {
  all : AllByRecursion (λ x. IsNodeOf l.fn.table.bytes (g.W.Words.lists l.fn.table.words) x) l.left;
  total : IfOk l.sum.total IsNumber;
}

abbrev pub decreases-loop-node : goal.decreases-loop-node
decreases-loop-node g l = length l.left
