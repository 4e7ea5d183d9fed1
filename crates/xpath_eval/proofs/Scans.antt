-- Two steps that are taken at once.
use Rattle.std.proofs.Common.{◌≡◌, Bool, true, false, ◌&&◌, List, Ok, Err, refl, sym, ◌∙◌, ap, subst}
use Rattle.xml_model.specs.declared.Axis.TheVariants as axes
use Rattle.xml_model.specs.declared.Node.{Node}
use Rattle.xml_model.specs.Tree.{Entry}
use Rattle.xpath_tokens.specs.declared.StepAxis.{StepAxis}
use Rattle.xpath_tokens.specs.declared.StepAxis.TheVariants.{Known}
use Rattle.xpath_grammar.specs.declared.expr.Step.{Step}
use Rattle.xpath_grammar.specs.declared.expr.StepTest.{StepTest}
use Rattle.xpath_grammar.specs.declared.expr.StepTest.TheVariants as written
use Rattle.xpath_grammar.specs.Tree.{Trees, Walk, none, more, go, trees_of}
use Rattle.xpath_values.specs.declared.ValueFault.{ValueFault}
use Rattle.xpath_values.specs.declared.ValueFault.TheVariants.{NoMemory}
use Rattle.xpath_values.specs.Answers.{Answer, and_then}
use Rattle.xpath_meaning.specs.Context.{Context}
use Rattle.xpath_meaning.specs.Meaning.{filtered, step_from, walked}
use Rattle.xpath_meaning.specs.Meets.{Meets}
use Rattle.xpath_meaning.specs.Scope.{ScopeOf, AreNodes, Finds}
use Rattle.xpath_laws.specs.Fused.{are_positionless}
use Rattle.xpath_sweeps.specs.Sweeps.{are_in_order, is_any_node, is_none, is_scan, is_sweep, is_to_children, is_to_selves}
use Rattle.xpath_eval.proofs.Meanings.{finds_then, same_fault}

left_of : (a b : Bool) → (a && b) ≡ true → a ≡ true
left_of true b h = refl
left_of false b h = h

right_of : (a b : Bool) → (a && b) ≡ true → b ≡ true
right_of true b h = h
right_of false b h = absurd cc

then_assoc : {X Y Z : Type 0} (m : Answer X) (f : X → Answer Y) (g : Y → Answer Z) → and_then (and_then m f) g ≡ and_then m (λ x. and_then (f x) g)
then_assoc (Ok x) f g = refl
then_assoc (Err e) f g = refl

selves_is : (a : StepAxis) → is_to_selves a ≡ true → a ≡ Known axes.DescendantOrSelf
selves_is (Known axes.DescendantOrSelf) h = refl
selves_is (Known _) h = absurd cc
selves_is _ h = absurd cc

children_is : (a : StepAxis) → is_to_children a ≡ true → a ≡ Known axes.Child
children_is (Known axes.Child) h = refl
children_is (Known _) h = absurd cc
children_is _ h = absurd cc

any_is : (t : StepTest) → is_any_node t ≡ true → t ≡ written.Node
any_is written.Node h = refl
any_is _ h = absurd cc

none_is : (ps : Trees) → is_none ps ≡ true → ps ≡ none
none_is none h = refl
none_is (more p ps) h = absurd cc

-- what the two steps find
abbrev pub two_steps : StepTest → Trees → Context → List Entry → Answer (List Entry)
two_steps test ps c es = and_then (step_from (filtered none) (Known axes.DescendantOrSelf) written.Node c es) (step_from (filtered ps) (Known axes.Child) test c)

same_walk : (a b : StepAxis) (t u : StepTest) (ps qs : Trees) (w : Walk) (c : Context) (es : List Entry) → a ≡ Known axes.DescendantOrSelf →
    t ≡ written.Node → ps ≡ none → b ≡ Known axes.Child →
    and_then (two_steps u qs c es) (walked w c) ≡ walked (go a t ps (go b u qs w)) c es
same_walk a b t u ps qs w c es e1 e2 e3 e4 =
    then_assoc (step_from (filtered none) (Known axes.DescendantOrSelf) written.Node c es) (step_from (filtered qs) (Known axes.Child) u c) (walked w c)
    ∙ sym (ap (λ x. walked (go x t ps (go b u qs w)) c es) e1 ∙ ap (λ x. walked (go (Known axes.DescendantOrSelf) x ps (go b u qs w)) c es) e2
    ∙ ap (λ x. walked (go (Known axes.DescendantOrSelf) written.Node x (go b u qs w)) c es) e3 ∙ ap (λ x. walked (go (Known axes.DescendantOrSelf) written.Node none (go x u qs w)) c es) e4)

scan_walk : (ns : List Node) (step after : Step) (w : Walk) (c : Context) (es : List Entry) → is_scan ns step after ≡ true →
    and_then (two_steps after.test (trees_of after.predicates) c es) (walked w c) ≡ walked (go step.axis step.test (trees_of step.predicates) (go after.axis after.test (trees_of after.predicates) w)) c es
scan_walk ns step after w c es h =
    let first = left_of _ _ h in
    let second = right_of (is_to_selves step.axis && (is_any_node step.test && is_none (trees_of step.predicates))) _ h in
    let third = right_of (is_to_selves step.axis) _ first in
    same_walk step.axis after.axis step.test after.test (trees_of step.predicates) (trees_of after.predicates) w c es
    (selves_is _ (left_of _ _ first)) (any_is _ (left_of _ _ third)) (none_is _ (right_of (is_any_node step.test) _ third)) (children_is _ (left_of _ _ second))

pub scan_sweeps : (ns : List Node) (step after : Step) → is_scan ns step after ≡ true → is_sweep ns (trees_of after.predicates) ≡ true
scan_sweeps ns step after h =
    right_of (is_to_children after.axis) _ (right_of (is_to_selves step.axis && (is_any_node step.test && is_none (trees_of step.predicates))) _ h)

pub sweep_positionless : (ns : List Node) (ps : Trees) → is_sweep ns ps ≡ true → are_positionless ps ≡ true
sweep_positionless ns ps h = left_of _ _ h

pub sweep_ordered : (ns : List Node) (ps : Trees) → is_sweep ns ps ≡ true → are_in_order ns ≡ true
sweep_ordered ns ps h = right_of (are_positionless ps) _ h

pub scan_on : (s : ScopeOf) (ns found : List Node) (step after : Step) (w : Walk) (r : Answer (List Node)) → is_scan ns step after ≡ true →
    Finds s ns (Ok found) (two_steps after.test (trees_of after.predicates)) → Finds s found r (walked w) →
    Finds s ns r (walked (go step.axis step.test (trees_of step.predicates) (go after.axis after.test (trees_of after.predicates) w)))
scan_on s ns found step after w r h one two =
    let k : Finds s ns r (λ c es. and_then (two_steps after.test (trees_of after.predicates) c es) (walked w c)) = finds_then (walked w) r one two in
    record { yields = λ c hc es a. subst (Meets (AreNodes c.document) r) (scan_walk ns step after w c es h) (k.yields c hc es a) }

pub scan_fault : (s : ScopeOf) (ns : List Node) (step after : Step) (w : Walk) (e : ValueFault) → is_scan ns step after ≡ true →
    Finds s ns (Err e) (two_steps after.test (trees_of after.predicates)) →
    Finds s ns (Err e) (walked (go step.axis step.test (trees_of step.predicates) (go after.axis after.test (trees_of after.predicates) w)))
scan_fault s ns step after w e h one = record {
  yields = λ c hc es a.
      same_fault (AreNodes c.document) (AreNodes c.document) e (two_steps after.test (trees_of after.predicates) c es)
      (walked (go step.axis step.test (trees_of step.predicates) (go after.axis after.test (trees_of after.predicates) w)) c es)
      (λ d q. sym (scan_walk ns step after w c es h) ∙ ap (λ m. and_then m (walked w c)) q) (one.yields c hc es a);
}

-- the two steps, one after the other
pub in_turn : (s : ScopeOf) (ns held : List Node) (test : StepTest) (ps : Trees) (r : Answer (List Node)) →
    Finds s ns (Ok held) (step_from (filtered none) (Known axes.DescendantOrSelf) written.Node) →
    Finds s held r (step_from (filtered ps) (Known axes.Child) test) →
    Finds s ns r (two_steps test ps)
in_turn s ns held test ps r one two = finds_then (step_from (filtered ps) (Known axes.Child) test) r one two

pub no_memory : (s : ScopeOf) (ns : List Node) (f : Context → List Entry → Answer (List Entry)) → Finds s ns (Err NoMemory) f
no_memory s ns f = record { yields = λ c hc es a. tt }

scan_is : (ns slice : List Node) (step step' after after' : Step) (b : Bool) → slice ≡ ns → step' ≡ step → after' ≡ after →
    b ≡ is_scan slice step' after' → b ≡ true → is_scan ns step after ≡ true
scan_is ns slice step step' after after' b e1 e3 e4 e5 e6 =
    sym (ap (λ x. is_scan x step' after') e1 ∙ ap (λ x. is_scan ns x after') e3 ∙ ap (λ x. is_scan ns step x) e4) ∙ sym e5 ∙ e6

scan_of : (s : ScopeOf) (ns slice : List Node) (r : Answer (List Node)) (after : Step) (test : StepTest) (ps : Trees) → slice ≡ ns → test ≡ after.test →
    ps ≡ trees_of after.predicates →
    Finds s slice r (two_steps test ps) → Finds s ns r (two_steps after.test (trees_of after.predicates))
scan_of s ns slice r after test ps e1 e2 e3 one =
    subst (λ x. Finds s x r (two_steps after.test (trees_of after.predicates))) e1
    (subst (λ x. Finds s slice r (two_steps x (trees_of after.predicates))) e2 (subst (λ x. Finds s slice r (two_steps test x)) e3 one))

pub scanned_fault : (s : ScopeOf) (ns slice slice' : List Node) (step step' after after' : Step) (test : StepTest) (ps : Trees) (w rest whole : Walk) (b : Bool) (e : ValueFault) → slice ≡ ns → slice' ≡ ns → step' ≡ step → after' ≡ after →
    b ≡ is_scan slice step' after' → b ≡ true → test ≡ after.test → ps ≡ trees_of after.predicates →
    whole ≡ go step.axis step.test (trees_of step.predicates) rest → rest ≡ go after.axis after.test (trees_of after.predicates) w →
    Finds s slice' (Err e) (two_steps test ps) → Finds s ns (Err e) (walked whole)
scanned_fault s ns slice slice' step step' after after' test ps w rest whole b e e1 e2 e3 e4 e5 e6 e7 e8 e9 e10 one =
    let h : is_scan ns step after ≡ true = scan_is ns slice step step' after after' b e1 e3 e4 e5 e6 in
    subst (λ x. Finds s ns (Err e) (walked x)) (sym (e9 ∙ ap (go step.axis step.test (trees_of step.predicates)) e10))
    (scan_fault s ns step after w e h (scan_of s ns slice' (Err e) after test ps e2 e7 e8 one))

pub scanned_on : (s : ScopeOf) (ns slice slice' found : List Node) (step step' after after' : Step) (test : StepTest) (ps : Trees) (w w' rest whole : Walk) (b : Bool) (r : Answer (List Node)) → slice ≡ ns → slice' ≡ ns → step' ≡ step → after' ≡ after →
    b ≡ is_scan slice step' after' → b ≡ true → test ≡ after.test → ps ≡ trees_of after.predicates →
    whole ≡ go step.axis step.test (trees_of step.predicates) rest → rest ≡ go after.axis after.test (trees_of after.predicates) w → w' ≡ w →
    Finds s slice' (Ok found) (two_steps test ps) → Finds s found r (walked w') → Finds s ns r (walked whole)
scanned_on s ns slice slice' found step step' after after' test ps w w' rest whole b r e1 e2 e3 e4 e5 e6 e7 e8 e9 e10 e11 one two =
    let h : is_scan ns step after ≡ true = scan_is ns slice step step' after after' b e1 e3 e4 e5 e6 in
    subst (λ x. Finds s ns r (walked x)) (sym (e9 ∙ ap (go step.axis step.test (trees_of step.predicates)) e10))
    (scan_on s ns found step after w r h (scan_of s ns slice' (Ok found) after test ps e2 e7 e8 one) (subst (λ x. Finds s found r (walked x)) e11 two))
