use Rattle.std.proofs.Common.{sym, ◌∙◌}
use Rattle.xpath_grammar.specs.Tree.{tree_of}
use Rattle.xpath_grammar.proofs.FirstFault.{prefix_smaller, prefix_word}
use Rattle.xpath_grammar.proofs.parts.leaf.Goals as goal

pub loop-part-smaller : goal.loop-part-smaller
loop-part-smaller c = prefix_smaller (tree_of c.loop-part.prefix.now) (tree_of c.in-Some.part.now) (sym c.in-Some.ensures)

pub loop-part-preserved : goal.loop-part-preserved
loop-part-preserved c = sym (prefix_word (tree_of c.loop-part.prefix.now) (tree_of c.in-Some.part.now) (sym c.in-Some.ensures)) ∙ c.loop-part.invariant
