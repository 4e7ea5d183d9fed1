use Rattle.std.proofs.Common.{◌≡◌, ◌≤◌}
use Rattle.xpath_grammar.specs.Checking.{weight}
use Rattle.xpath_grammar.specs.Tree.{negate, tree_of}
use Rattle.xpath_meaning.specs.Context.{Context}
use Rattle.xpath_meaning.specs.Meaning.{mean}
use Rattle.xpath_eval.specs.Signs.{signed}
use Rattle.xpath_eval.proofs.signs.after_signs.Given as goal

abbrev pub invariant-loop-part : goal.invariant-loop-part
invariant-loop-part l = record {
  same : (c : Context) → mean (signed l.is_odd (tree_of l.part)) c ≡ mean (negate (tree_of l.inner)) c;
  within : weight (tree_of l.part) ≤ weight (tree_of l.inner);
}
