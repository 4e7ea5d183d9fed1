use Rattle.vtd_queries.proofs.Answers.{one_value, one_list}
use Rattle.vtd_queries.proofs.laws.one_answer.Goals as goal

pub returns-clause-value : goal.returns-clause-value
returns-clause-value c = one_value

pub returns-clause-nodes : goal.returns-clause-nodes
returns-clause-nodes c = one_list
