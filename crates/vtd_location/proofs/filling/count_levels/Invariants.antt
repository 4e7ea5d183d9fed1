use Rattle.vtd_location.specs.Counting.{Counting}
use Rattle.vtd_location.proofs.filling.count_levels.Given as goal

abbrev pub invariant-loop-at : goal.invariant-loop-at
invariant-loop-at g l = Counting (g.W.Words.lists l.words).records l.counts l.at
