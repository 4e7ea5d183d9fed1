use Rattle.vtd_namespaces.specs.Undeclared.{NoneDeclared}
use Rattle.vtd_namespaces.proofs.declarations.declarations_end.Given as goal

abbrev pub invariant-loop-at : goal.invariant-loop-at
invariant-loop-at g l = NoneDeclared (g.W.Words.lists l.words).records l.at
