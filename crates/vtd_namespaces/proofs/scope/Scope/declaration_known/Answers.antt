use Rattle.vtd_namespaces.proofs.ScopeLemmas.{declaration_there}
use Rattle.vtd_namespaces.proofs.scope.Scope.declaration_known.Goals as goal

pub returns-clause-declares : goal.returns-clause-declares
returns-clause-declares g c = declaration_there _ _ c.bytes.ensures.table c.nearest_known.result (rw (← c.words.ensures.value) c.nearest_known.ensures.declares)
