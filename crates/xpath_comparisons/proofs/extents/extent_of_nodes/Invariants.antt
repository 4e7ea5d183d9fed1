use Rattle.std.proofs.Common.{◌≡◌, ℕ, List, length}
use Rattle.std.specs.List.{AllByRecursion}
use Rattle.std.specs.Prelude.{fold}
use Rattle.vtd_words.specs.Table.{IsNodeOf}
use Rattle.xpath_values.specs.Answers.{each, with}
use Rattle.xpath_values.specs.Numbers.{number_of_text}
use Rattle.xpath_values.specs.Seen.{HaveStrings, IsLeft}
use Rattle.xpath_comparisons.specs.Extents.{extended, extent_of}
use Rattle.xpath_comparisons.proofs.extents.extent_of_nodes.Given as goal

abbrev pub invariant-loop-node : goal.invariant-loop-node
invariant-loop-node g l = record {
  all : AllByRecursion (λ x. IsNodeOf l.fn.table.bytes (g.W.Words.lists l.fn.table.words) x) l.left;
  same : (ts : List (List ℕ)) → HaveStrings l.fn.table.bytes (g.W.Words.lists l.fn.table.words) l.fn.nodes ts →
      IsLeft l.fn.table.bytes (g.W.Words.lists l.fn.table.words) l.left
      (λ us. with (each number_of_text us) (fold extended l.extent) ≡ with (each number_of_text ts) extent_of);
}

abbrev pub decreases-loop-node : goal.decreases-loop-node
decreases-loop-node g l = length l.left
