use Rattle.vtd_index.proofs.Verdicts.{one_version}
use Rattle.vtd_index.proofs.laws.one_version.Goals as goal

pub returns : goal.returns
returns c = one_version
