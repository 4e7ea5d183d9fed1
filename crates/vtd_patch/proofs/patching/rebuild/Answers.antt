use Rattle.std.proofs.Common.{ℕ, List, ap, subst, ◌∙◌}
use Rattle.xml_model.specs.Accepted.{IsRefusal}
use Rattle.vtd_builder.specs.Exchanges.{with_range}
use Rattle.vtd_patch.proofs.patching.rebuild.Goals as goal

pub returns-in-Err-default-Doc-clause-refused : goal.returns-in-Err-default-Doc-clause-refused
returns-in-Err-default-Doc-clause-refused c =
    let d = c.in-Err-default-Doc in
    let x = c.args.change.now in (
      c.requires.short,
      subst (λ (l : List ℕ). IsRefusal l d.fault)
          (c.in-Ok.ensures ∙ ap (λ (l : List ℕ). with_range x.start x.end x.text l) c.bytes.ensures.value)
          (d.ensures.refused d.fault d.field-0-1-is),
    )
