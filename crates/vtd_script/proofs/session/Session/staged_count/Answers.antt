use Rattle.std.proofs.Common.{List, length, ap, ◌∙◌}
use Rattle.vtd_edits.specs.declared.splice.Splice.{Splice}
use Rattle.vtd_script.specs.States.{Work}
use Rattle.vtd_script.proofs.session.Session.staged_count.Goals as goal

pub returns : goal.returns
returns c =
    c.count.ensures.value ∙ ap (λ (xs : List Splice). length xs) c.edits.ensures.splices ∙ ap (λ (w : Work). length w.staged) c.self.view_is
