use Rattle.vtd_location.specs.ScanningOne.{levels_one_in, ScanningOne}
use Rattle.vtd_location.proofs.checking_one.compare_one.Given as goal

abbrev pub invariant-loop-at : goal.invariant-loop-at
invariant-loop-at g l = ScanningOne (levels_one_in (g.V.Words.lists l.stored)) (g.W.Words.lists l.words).records l.lanes l.at
