use Rattle.std.proofs.Common.{◌≡◌, ℕ, List, length}
use Rattle.std.specs.List.{AllByRecursion, list_any}
use Rattle.std.specs.Prelude.{bytes_eq}
use Rattle.std.specs.Str.{chars}
use Rattle.vtd_words.specs.Table.{IsNodeOf}
use Rattle.xpath_values.specs.Seen.{HaveStrings, IsLeft}
use Rattle.xpath_values.specs.Values.{by_equality}
use Rattle.xpath_comparisons.proofs.sets.any_text.Given as goal

abbrev pub invariant-loop-node : goal.invariant-loop-node
invariant-loop-node g l = record {
  all : AllByRecursion (λ x. IsNodeOf l.fn.table.bytes (g.W.Words.lists l.fn.table.words) x) l.left;
  same : (ts : List (List ℕ)) → HaveStrings l.fn.table.bytes (g.W.Words.lists l.fn.table.words) l.fn.nodes ts →
      IsLeft l.fn.table.bytes (g.W.Words.lists l.fn.table.words) l.left
      (λ us. list_any (λ t. by_equality l.fn.how (bytes_eq t (chars l.fn.text))) us
      ≡ list_any (λ t. by_equality l.fn.how (bytes_eq t (chars l.fn.text))) ts);
}

abbrev pub decreases-loop-node : goal.decreases-loop-node
decreases-loop-node g l = length l.left
