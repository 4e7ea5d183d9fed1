use Rattle.std.proofs.Common.{List, ℕ, length, ap, ap₂, sym, ◌∙◌}
use Rattle.std.proofs.lemmas.Result.{IfOk-weaker}
use Rattle.vtd_edits.specs.Splices.{spliced}
use Rattle.vtd_edits.specs.declared.splice.Splice.{Splice}
use Rattle.vtd_script.specs.States.{Work}
use Rattle.vtd_script.proofs.session.Session.new_bytes.Goals as goal

pub spliced-requires : goal.spliced-requires
spliced-requires c =
    ap (λ (b : List ℕ). length b) (c.bytes.ensures.value ∙ c.document.ensures ∙ sym (ap (λ (w : Work). w.bytes) c.self.view_is)) ∙ sym c.edits.ensures.len

pub returns : goal.returns
returns c =
    IfOk-weaker c.spliced.result _ _ (λ out h. h ∙ ap₂ (λ (b : List ℕ) (xs : List Splice). spliced b xs) (c.bytes.ensures.value ∙ c.document.ensures)
    (c.edits.ensures.splices ∙ ap (λ (w : Work). w.staged) c.self.view_is)) c.spliced.ensures
