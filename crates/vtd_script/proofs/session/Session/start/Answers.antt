use Rattle.vtd_script.proofs.ChangeParts.{first_of}
use Rattle.vtd_script.proofs.session.Session.start.Goals as goal

pub returns-in-Ok-clause-started : goal.returns-in-Ok-clause-started
returns-in-Ok-clause-started c = first_of _ _ _ c.over.ensures c.in-Ok.ensures.built
