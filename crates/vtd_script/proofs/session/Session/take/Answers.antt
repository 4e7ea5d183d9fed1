use Rattle.vtd_script.proofs.ChangeParts.{opened_as}
use Rattle.vtd_script.proofs.session.Session.take.Goals as goal

pub returns-clause-work : goal.returns-clause-work
returns-clause-work c = opened_as _ _ _ _ _ c.self.view_is c.in-Ok.ensures.opened
