use Rattle.vtd_namespaces.proofs.UndeclaredLemmas.{none_in_scope}
use Rattle.vtd_namespaces.proofs.laws.plain_documents.Goals as goal

pub returns : goal.returns
returns c = none_in_scope
