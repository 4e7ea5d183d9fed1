use Rattle.vtd_queries.proofs.Answers.{one_operation}
use Rattle.vtd_queries.proofs.laws.one_operation.Goals as goal

pub returns : goal.returns
returns c = one_operation
