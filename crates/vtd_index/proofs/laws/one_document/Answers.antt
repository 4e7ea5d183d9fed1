use Rattle.vtd_index.proofs.Verdicts.{one_document}
use Rattle.vtd_index.proofs.laws.one_document.Goals as goal

pub returns : goal.returns
returns c = one_document
