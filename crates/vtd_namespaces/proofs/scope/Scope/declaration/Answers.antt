use Rattle.vtd_namespaces.proofs.ScopeLemmas.{declaration_there}
use Rattle.vtd_namespaces.proofs.scope.Scope.declaration.Goals as goal

pub returns-clause-declares : goal.returns-clause-declares
returns-clause-declares g c = declaration_there _ _ c.bytes.ensures.table c.declaration_for.result (rw (← c.words.ensures.value) c.declaration_for.ensures.declares)
