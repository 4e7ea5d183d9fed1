use Rattle.vtd_revisions.proofs.Exact.{one_redone, one_undone, some_redone, some_undone}
use Rattle.vtd_revisions.proofs.laws.one_state.Goals as goal

pub returns-clause-one_undone : goal.returns-clause-one_undone
returns-clause-one_undone c = one_undone

pub returns-clause-one_redone : goal.returns-clause-one_redone
returns-clause-one_redone c = one_redone

pub returns-clause-some_undone : goal.returns-clause-some_undone
returns-clause-some_undone c = some_undone

pub returns-clause-some_redone : goal.returns-clause-some_redone
returns-clause-some_redone c = some_redone
