use Rattle.vtd_script.proofs.Parts.{prepares_listed}
use Rattle.vtd_script.proofs.session.Session.list_elements.Goals as goal

pub returns-in-Ok-clause-known : goal.returns-in-Ok-clause-known
returns-in-Ok-clause-known c = λ files.
    prepares_listed _ c.in-Ok.lines.items _ c.ready.result c.document.ensures c.ready.ensures.change c.ready.ensures.lines c.in-Ok.ensures
