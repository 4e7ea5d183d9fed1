use Rattle.vtd_revisions.proofs.Exact.{redo_of_undo, undo_of_change, undo_of_redo, undone_reached}
use Rattle.vtd_revisions.proofs.laws.exactly_back.Goals as goal

pub returns-clause-undo : goal.returns-clause-undo
returns-clause-undo c = undo_of_change

pub returns-clause-redo : goal.returns-clause-redo
returns-clause-redo c = redo_of_undo

pub returns-clause-again : goal.returns-clause-again
returns-clause-again c = undo_of_redo

pub returns-clause-reached : goal.returns-clause-reached
returns-clause-reached c = undone_reached
