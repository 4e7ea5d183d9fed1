use Rattle.vtd_index.proofs.Verdicts.{prefixes_refused}
use Rattle.vtd_index.proofs.laws.prefixes_refused.Goals as goal

pub returns : goal.returns
returns c = prefixes_refused
