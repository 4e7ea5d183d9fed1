use Rattle.vtd_script.proofs.RunLaws.{some_meaning}
use Rattle.vtd_script.proofs.laws.some_meaning.Goals as goal

pub returns : goal.returns
returns c = some_meaning
