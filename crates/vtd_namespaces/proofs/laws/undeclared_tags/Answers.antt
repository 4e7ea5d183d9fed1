use Rattle.vtd_namespaces.proofs.UndeclaredLemmas.{element_declares_none}
use Rattle.vtd_namespaces.proofs.laws.undeclared_tags.Goals as goal

pub returns : goal.returns
returns c = element_declares_none
