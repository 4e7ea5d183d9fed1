use Rattle.vtd_index.proofs.Verdicts.{some_answer}
use Rattle.vtd_index.proofs.laws.some_answer.Goals as goal

pub returns : goal.returns
returns c = some_answer
