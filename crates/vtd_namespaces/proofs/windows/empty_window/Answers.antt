use Rattle.vtd_namespaces.proofs.NotedLemmas.{nothing_in}
use Rattle.vtd_namespaces.proofs.windows.empty_window.Goals as goal

pub returns-clause-none : goal.returns-clause-none
returns-clause-none c = nothing_in 8192
