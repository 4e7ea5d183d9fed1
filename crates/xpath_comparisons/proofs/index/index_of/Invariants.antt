use Rattle.std.proofs.Common.{ℕ, List, length}
use Rattle.std.specs.List.{AllByRecursion}
use Rattle.vtd_words.specs.Table.{IsNodeOf}
use Rattle.xpath_values.specs.Seen.{HaveStrings, IsLeft}
use Rattle.xpath_comparisons.specs.Sets.{IsIndexing}
use Rattle.xpath_comparisons.proofs.index.index_of.Given as goal

abbrev pub invariant-loop-node : goal.invariant-loop-node
invariant-loop-node g l = record {
  all : AllByRecursion (λ x. IsNodeOf l.fn.table.bytes (g.W.Words.lists l.fn.table.words) x) l.left;
  same : (ts : List (List ℕ)) → HaveStrings l.fn.table.bytes (g.W.Words.lists l.fn.table.words) l.fn.nodes ts →
      IsLeft l.fn.table.bytes (g.W.Words.lists l.fn.table.words) l.left (IsIndexing _ l.index ts);
}

abbrev pub decreases-loop-node : goal.decreases-loop-node
decreases-loop-node g l = length l.left
