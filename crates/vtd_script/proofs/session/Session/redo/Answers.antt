use Rattle.std.proofs.Common.{Err, ap}
use Rattle.vtd_history.specs.declared.history.RedoFault.{RedoFault}
use Rattle.vtd_script.proofs.ChangeParts.{prepares_redo, stops_redo}
use Rattle.vtd_script.proofs.session.Session.redo.Goals as goal

pub returns-in-Ok-redo-clause-known : goal.returns-in-Ok-redo-clause-known
returns-in-Ok-redo-clause-known c = λ files.
    prepares_redo _ _ _ _ files c.ready.result c.in-Ok.lines.items c.self.view_is c.in-Ok-redo.ensures.redone c.ready.ensures.change
    c.ready.ensures.lines c.in-Ok.ensures

pub returns-in-Err-NoRedo-clause-known : goal.returns-in-Err-NoRedo-clause-known
returns-in-Err-NoRedo-clause-known c = λ files.
    stops_redo _ _ _ _ files c.self.view_is (c.in-Err-NoRedo.ensures.none.0 (ap (λ (x : RedoFault). Err x) c.in-Err-NoRedo.field-0-is)) c.in-Err-NoRedo.ensures.unchanged
