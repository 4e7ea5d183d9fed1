use Rattle.vtd_index.proofs.Verdicts.{one_fault}
use Rattle.vtd_index.proofs.laws.one_fault.Goals as goal

pub returns : goal.returns
returns c = one_fault
