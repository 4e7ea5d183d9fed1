use Rattle.std.proofs.Common.{◌≡◌}
use Rattle.xpath_grammar.specs.Tree.{tree_of}
use Rattle.xpath_grammar.specs.Checking.{first_word, weight}
use Rattle.xpath_grammar.proofs.parts.leaf.Given as goal

abbrev pub invariant-loop-part : goal.invariant-loop-part
invariant-loop-part l = first_word (tree_of l.prefix) ≡ first_word (tree_of l.expr)

abbrev pub decreases-loop-part : goal.decreases-loop-part
decreases-loop-part l = weight (tree_of l.prefix)
