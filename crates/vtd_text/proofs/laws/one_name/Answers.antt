use Rattle.vtd_text.proofs.OneName.{one_name}
use Rattle.vtd_text.proofs.laws.one_name.Goals as goal

pub returns : goal.returns
returns c = one_name
