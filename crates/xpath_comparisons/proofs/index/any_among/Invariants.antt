use Rattle.std.proofs.Common.{◌≡◌, ℕ, List, length}
use Rattle.std.specs.List.{AllByRecursion}
use Rattle.std.specs.Prelude.{bytes_eq}
use Rattle.vtd_words.specs.Table.{IsNodeOf}
use Rattle.xpath_values.specs.Seen.{HaveStrings, IsLeft}
use Rattle.xpath_values.specs.Values.{some_pair}
use Rattle.xpath_comparisons.specs.Sets.{IsIndex}
use Rattle.xpath_comparisons.proofs.index.any_among.Given as goal

abbrev pub invariant-loop-node : goal.invariant-loop-node
invariant-loop-node g l = record {
  all : AllByRecursion (λ x. IsNodeOf l.fn.table.bytes (g.W.Words.lists l.fn.table.words) x) l.left;
  same : (ts us : List (List ℕ)) → HaveStrings l.fn.table.bytes (g.W.Words.lists l.fn.table.words) l.fn.nodes ts →
      IsIndex l.fn.index us →
      IsLeft l.fn.table.bytes (g.W.Words.lists l.fn.table.words) l.left (λ ss. some_pair bytes_eq ss us ≡ some_pair bytes_eq ts us);
}

abbrev pub decreases-loop-node : goal.decreases-loop-node
decreases-loop-node g l = length l.left
