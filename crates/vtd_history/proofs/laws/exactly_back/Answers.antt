use Rattle.vtd_history.proofs.Exact.{redoes_change, undoes_change}
use Rattle.vtd_history.proofs.laws.exactly_back.Goals as goal

pub returns-clause-undo : goal.returns-clause-undo
returns-clause-undo c = undoes_change

pub returns-clause-redo : goal.returns-clause-redo
returns-clause-redo c = redoes_change
