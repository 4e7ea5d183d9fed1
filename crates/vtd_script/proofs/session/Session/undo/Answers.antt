use Rattle.std.proofs.Common.{Err, ap}
use Rattle.vtd_history.specs.declared.history.UndoFault.{UndoFault}
use Rattle.vtd_script.proofs.ChangeParts.{prepares_undo, stops_undo}
use Rattle.vtd_script.proofs.session.Session.undo.Goals as goal

pub returns-in-Ok-undo-clause-known : goal.returns-in-Ok-undo-clause-known
returns-in-Ok-undo-clause-known c = λ files.
    prepares_undo _ _ _ _ files c.ready.result c.in-Ok.lines.items c.self.view_is c.in-Ok-undo.ensures.undone c.ready.ensures.change
    c.ready.ensures.lines c.in-Ok.ensures

pub returns-in-Err-NoUndo-clause-known : goal.returns-in-Err-NoUndo-clause-known
returns-in-Err-NoUndo-clause-known c = λ files.
    stops_undo _ _ _ _ files c.self.view_is (c.in-Err-NoUndo.ensures.none.0 (ap (λ (x : UndoFault). Err x) c.in-Err-NoUndo.field-0-is)) c.in-Err-NoUndo.ensures.unchanged
