use Rattle.std.proofs.Common.{◌≡◌, ◌∙◌, ◌++◌, true, false, ap, sym, refl}
use Rattle.std.proofs.lemmas.Result.{IfOk-weaker}
use Rattle.xml_model.specs.Laws.{is_child_kind, is_child_thing}
use Rattle.xml_model.specs.Names.{passes}
use Rattle.xml_model.proofs.Things.{child_kind}
use Rattle.xpath_axes.specs.Tests.{node_test}
use Rattle.xpath_steps.specs.Waits.{flagged}
use Rattle.xpath_steps.proofs.ForwardLemmas.{is_flagged, not_flagged}
use Rattle.xpath_steps.proofs.forward.append_flagged.Goals as goal

pub returns-then-not-is_child-clause-appended : goal.returns-then-not-is_child-clause-appended
returns-then-not-is_child-clause-appended g c = λ nest s e w.
    let kind : is_child_thing e.what ≡ false =
    child_kind e.what ∙ ap is_child_kind w.1 ∙ sym c.is_child.ensures ∙ c.if-not-is_child.true in
    not_flagged c.args.held.now.items (passes (node_test c.args.test.now) false) e false (flagged c.args.flags.now c.args.here.level) kind refl

pub returns-then-not-has-clause-appended : goal.returns-then-not-has-clause-appended
returns-then-not-has-clause-appended g c = λ nest s e w.
    let kind : is_child_thing e.what ≡ true =
    child_kind e.what ∙ ap is_child_kind w.1 ∙ sym c.is_child.ensures ∙ c.if-not-is_child.false in
    not_flagged c.args.held.now.items (passes (node_test c.args.test.now) false) e true (flagged c.args.flags.now c.args.here.level) kind
    (sym c.has.ensures ∙ c.if-not-has.true)

pub returns-clause-appended : goal.returns-clause-appended
returns-clause-appended g c = IfOk-weaker c.append_if.result _ _
    (λ done h nest s e w.
    let kind : is_child_thing e.what ≡ true =
    child_kind e.what ∙ ap is_child_kind w.1 ∙ sym c.is_child.ensures ∙ c.if-not-is_child.false in
    h nest s e w ∙ ap (λ xs. c.args.held.now.items ++ xs)
    (is_flagged (passes (node_test c.args.test.now) false) e true (flagged c.args.flags.now c.args.here.level) kind refl
    (sym c.has.ensures ∙ c.if-not-has.false)))
    c.append_if.ensures.appended
