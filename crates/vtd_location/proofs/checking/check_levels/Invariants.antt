use Rattle.vtd_location.specs.Nav.{levels_in}
use Rattle.vtd_location.specs.Scanning.{Scanning}
use Rattle.vtd_location.proofs.checking.check_levels.Given as goal

abbrev pub invariant-loop-at : goal.invariant-loop-at
invariant-loop-at g l = Scanning (levels_in (g.W.Words.lists l.words)) (g.W.Words.lists l.words).records l.lanes l.at
