use Rattle.vtd_history.proofs.Exact.{one_of_bytes}
use Rattle.vtd_history.proofs.laws.one_of_bytes.Goals as goal

pub returns : goal.returns
returns c = one_of_bytes
