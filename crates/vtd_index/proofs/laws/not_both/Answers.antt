use Rattle.vtd_index.proofs.Verdicts.{not_both}
use Rattle.vtd_index.proofs.laws.not_both.Goals as goal

pub returns : goal.returns
returns c = not_both
