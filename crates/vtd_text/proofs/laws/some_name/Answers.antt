use Rattle.vtd_text.proofs.NameFacts.{name_found}
use Rattle.vtd_text.proofs.laws.some_name.Goals as goal

pub returns : goal.returns
returns c = name_found
