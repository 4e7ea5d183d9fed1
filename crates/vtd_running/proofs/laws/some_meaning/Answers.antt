use Rattle.vtd_running.proofs.Outcomes.{some_meaning}
use Rattle.vtd_running.proofs.laws.some_meaning.Goals as goal

pub returns : goal.returns
returns c = some_meaning
