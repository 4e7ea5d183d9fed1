use Rattle.std.proofs.Common.{◌∙◌}
use Rattle.vtd_script.proofs.Parts.{complete_failed, complete_sent, complete_unsent}
use Rattle.vtd_script.proofs.session.Session.complete.Goals as goal

pub returns-in-Err-clause-known : goal.returns-in-Err-clause-known
returns-in-Err-clause-known g c = λ map sent files to. complete_failed _ _ c.args.ready _ c.in-Err.field-0 _ _ sent _ (c.in-Err.ensures.known map files) to

pub returns-in-Ok-clause-known : goal.returns-in-Ok-clause-known
returns-in-Ok-clause-known g c = λ map sent files to.
    complete_sent _ _ c.args.ready _ c.in_default.field-0 c.in-Ok.field-0 _ _ sent c.as_slice.result.now _ _ (c.in_default.ensures.known map files) to
    (c.as_slice.ensures.value ∙ c.lines.view_is) c.in-Ok.ensures.taken

pub returns-clause-known : goal.returns-clause-known
returns-clause-known g c = λ map sent files to.
    complete_unsent _ _ c.args.ready _ c.in_default.field-0 c.in-Err-send.field-0 _ _ sent c.as_slice.result.now _ _ (c.in_default.ensures.known map files) to
    (c.as_slice.ensures.value ∙ c.lines.view_is) c.in-Err-send.ensures.taken c.in-Err-send.ensures.cause.failed
