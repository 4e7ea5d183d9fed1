use Rattle.vtd_history.proofs.Backs.{back_back}
use Rattle.vtd_history.proofs.laws.back_and_back.Goals as goal

pub returns : goal.returns
returns c = back_back
