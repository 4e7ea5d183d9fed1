use Rattle.std.proofs.Common.{◌∙◌, sym, ap₂, refl, true, false}
use Rattle.xml_model.specs.declared.Kind.TheVariants as kinds
use Rattle.xpath_steps.specs.Merges.{is_first}
use Rattle.xpath_steps.proofs.MergeLemmas.{begins, both, drop_here, neither, only_one, only_other}
use Rattle.xpath_steps.proofs.merge.first_of.Goals as goal

pub returns-in-true-true-clause-step : goal.returns-in-true-true-clause-step
returns-in-true-true-clause-step c = λ es r P Q h k.
    both P Q es _ _
    (begins P Q es r true true (c.in-true-true.ensures.first ∙ ap₂ is_first h k) (c.in-true-true.ensures'.first ∙ ap₂ is_first k h))
    _ _ _ _
    (sym (drop_here c.args.one.now c.args.at (record { kind = kinds.Root; at = 0 }) (c.in-true-true.ensures.within refl)) ∙ h)
    (sym (drop_here c.args.other.now c.args.from (record { kind = kinds.Root; at = 0 }) (c.in-true-true.ensures'.within refl)) ∙ k)

pub returns-in-true-false-clause-step : goal.returns-in-true-false-clause-step
returns-in-true-false-clause-step c = λ es r P Q h k.
    only_one P Q es _ _
    (begins P Q es r true false (c.in-true-false.ensures.first ∙ ap₂ is_first h k) (c.in-true-false.ensures'.first ∙ ap₂ is_first k h))
    _ _ _
    (sym (drop_here c.args.one.now c.args.at (record { kind = kinds.Root; at = 0 }) (c.in-true-false.ensures.within refl)) ∙ h) k

pub returns-in-false-true-clause-step : goal.returns-in-false-true-clause-step
returns-in-false-true-clause-step c = λ es r P Q h k.
    only_other P Q es _ _
    (begins P Q es r false true (c.in-false-true.ensures.first ∙ ap₂ is_first h k) (c.in-false-true.ensures'.first ∙ ap₂ is_first k h))
    _ _ _ h
    (sym (drop_here c.args.other.now c.args.from (record { kind = kinds.Root; at = 0 }) (c.in-false-true.ensures'.within refl)) ∙ k)

pub returns-in-false-false-clause-step : goal.returns-in-false-false-clause-step
returns-in-false-false-clause-step c = λ es r P Q h k.
    neither P Q es _ _
    (begins P Q es r false false (c.in-false-false.ensures.first ∙ ap₂ is_first h k) (c.in-false-false.ensures'.first ∙ ap₂ is_first k h))
    _ _ h k
