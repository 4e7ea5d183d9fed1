use Rattle.vtd_running.proofs.Outcomes.{one_outcome}
use Rattle.vtd_running.proofs.laws.one_outcome.Goals as goal

pub returns : goal.returns
returns c = one_outcome
