use Rattle.std.proofs.Common.{◌≡◌}
use Rattle.xpath_grammar.specs.Tree.{tree_of}
use Rattle.xpath_grammar.specs.Cutting.{negations}
use Rattle.xpath_grammar.proofs.build.negated_times.Given as goal

abbrev pub invariant-loop : goal.invariant-loop
invariant-loop l = tree_of l.all ≡ negations l.counter (tree_of l.initial.all)
