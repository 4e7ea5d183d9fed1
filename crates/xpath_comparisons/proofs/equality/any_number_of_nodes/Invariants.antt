use Rattle.std.proofs.Common.{◌≡◌, ℕ, List, length}
use Rattle.std.specs.List.{AllByRecursion, list_any}
use Rattle.std.specs.Prelude.{◌||◌}
use Rattle.vtd_words.specs.Table.{IsNodeOf}
use Rattle.xpath_values.specs.Answers.{each, with}
use Rattle.xpath_values.specs.Numbers.{compare_numbers, number_of_text}
use Rattle.xpath_values.specs.Seen.{HaveStrings, IsLeft}
use Rattle.xpath_comparisons.proofs.equality.any_number_of_nodes.Given as goal

abbrev pub invariant-loop-node : goal.invariant-loop-node
invariant-loop-node g l = record {
  all : AllByRecursion (λ x. IsNodeOf l.fn.table.bytes (g.W.Words.lists l.fn.table.words) x) l.left;
  same : (ts : List (List ℕ)) → HaveStrings l.fn.table.bytes (g.W.Words.lists l.fn.table.words) l.fn.nodes ts →
      IsLeft l.fn.table.bytes (g.W.Words.lists l.fn.table.words) l.left
      (λ us. with (each number_of_text us) (λ xs. l.found || list_any (λ x. compare_numbers l.fn.how x l.fn.number) xs)
      ≡ with (each number_of_text ts) (list_any (λ x. compare_numbers l.fn.how x l.fn.number)));
}

abbrev pub decreases-loop-node : goal.decreases-loop-node
decreases-loop-node g l = length l.left
