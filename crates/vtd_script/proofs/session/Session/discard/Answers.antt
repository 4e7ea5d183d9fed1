use Rattle.vtd_script.proofs.ChangeParts.{prepares_discard, staged_as}
use Rattle.vtd_script.proofs.session.Session.discard.Goals as goal

pub returns-clause-known : goal.returns-clause-known
returns-clause-known c = λ files.
    prepares_discard _ _ files c.ready.result c.in-Ok.lines.items (staged_as _ _ _ _ _ c.self.view_is c.in-Ok-discard.ensures.discarded)
    c.ready.ensures.change c.ready.ensures.lines c.in-Ok.ensures
