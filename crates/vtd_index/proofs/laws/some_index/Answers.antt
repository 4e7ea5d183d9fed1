use Rattle.vtd_index.proofs.Verdicts.{some_index}
use Rattle.vtd_index.proofs.laws.some_index.Goals as goal

pub returns : goal.returns
returns c = some_index
