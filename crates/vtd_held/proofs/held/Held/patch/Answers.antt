use Rattle.std.proofs.Common.{◌≡◌, IfErr, sym, ap, subst, ◌∙◌}
use Rattle.xml_model.specs.Accepted.{IsRefusal}
use Rattle.xml_model.specs.declared.DocFault.{DocFault}
use Rattle.vtd_builder.specs.declared.document.BuildFault.TheVariants as faults
use Rattle.vtd_history.specs.Steps.{with_range}
use Rattle.vtd_revisions.specs.Timelines.{Timeline}
use Rattle.vtd_held.specs.declared.held.Kept.{Kept}
use Rattle.vtd_held.specs.Holding.{timeline_in}
use Rattle.vtd_held.proofs.held.Held.patch.Goals as goal

pub returns-clause-refused : goal.returns-clause-refused
returns-clause-refused c =
    let s = c.args.segment in
    let same : c.in-Built.revisions ≡ c.args.self.now =
    ap (λ (k : Kept). timeline_in k) (sym c.in-Built.is) ∙ c.settle.ensures.timeline ∙ c.self.view_is in
    subst
    (λ (t : Timeline). IfErr c.patch.result (λ e. (fault : DocFault) → e ≡ faults.Doc fault
    → IsRefusal (with_range s.start s.end s.bytes t.bytes) fault))
    same c.patch.ensures.refused
