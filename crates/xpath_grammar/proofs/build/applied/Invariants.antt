use Rattle.std.proofs.Common.{◌≡◌, vec_len}
use Rattle.xpath_grammar.specs.Tree.{tree_of}
use Rattle.xpath_grammar.specs.Cutting.{applied, AreBinary}
use Rattle.xpath_grammar.proofs.build.applied.Given as goal

abbrev pub invariant-loop-token : goal.invariant-loop-token
invariant-loop-token l = record {
  binary : AreBinary l.after.items;
  same : applied (tree_of l.left) l.after.items ≡ applied (tree_of l.initial.left) l.initial.after.items;
}

abbrev pub decreases-loop-token : goal.decreases-loop-token
decreases-loop-token l = vec_len l.after
