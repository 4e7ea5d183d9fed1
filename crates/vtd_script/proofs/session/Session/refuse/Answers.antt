use Rattle.std.proofs.Common.{◌∙◌}
use Rattle.vtd_script.proofs.Parts.{refuse_unsent}
use Rattle.vtd_script.proofs.session.Session.refuse.Goals as goal

pub returns-clause-known : goal.returns-clause-known
returns-clause-known g c = λ sent to. refuse_unsent _ c.args.refusal sent c.deref.result.now c.in-Err.field-0 _ _ to (c.deref.ensures.value
    ∙ c.in-Ok.ensures) c.in-Err.ensures.taken c.in-Err.ensures.cause.failed
