use Rattle.vtd_index.proofs.Verdicts.{one_index}
use Rattle.vtd_index.proofs.laws.one_index.Goals as goal

pub returns : goal.returns
returns c = one_index
