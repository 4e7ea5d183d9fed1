use Rattle.vtd_location.specs.Filling.{FilledTo}
use Rattle.vtd_location.proofs.filling.fill_levels.Given as goal

abbrev pub invariant-loop-at : goal.invariant-loop-at
invariant-loop-at l = FilledTo l.initial.words.lists.records l.words l.waiting l.at
