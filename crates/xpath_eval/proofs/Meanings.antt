-- How what is meant goes together.
use Rattle.std.proofs.Common.{◌≡◌, ℕ, List, [], ◌∷◌, ◌++◌, length, refl, sym, ap, subst, Ok, Err, append_assoc}
use Rattle.xml_model.specs.declared.Node.{Node}
use Rattle.xml_model.specs.Tree.{Entry}
use Rattle.xpath_values.specs.declared.ValueFault.{ValueFault}
use Rattle.xpath_values.specs.declared.ValueFault.TheVariants.{Fraction, Infinite, Range, NoMemory}
use Rattle.xpath_values.specs.Answers.{Answer, and_then, with}
use Rattle.xpath_meaning.specs.Meets.{Meets, IsHeldFor}
use Rattle.xpath_values.specs.declared.Value.{Value}
use Rattle.xpath_values.specs.Values.{Meant, IsHeld}
use Rattle.xpath_meaning.specs.declared.scope.Place.{Place}
use Rattle.xpath_tokens.specs.declared.StepAxis.{StepAxis}
use Rattle.xpath_grammar.specs.declared.expr.StepTest.{StepTest}
use Rattle.xpath_grammar.specs.Tree.{Tree, Trees, Walk, call, more, go}
use Rattle.xpath_meaning.specs.Context.{Context}
use Rattle.xpath_meaning.specs.Functions.{function_named}
use Rattle.xpath_meaning.specs.Meaning.{mean, listed, filtered, walked, kept, step_from, answered}
use Rattle.xpath_meaning.specs.Scope.{ScopeOf, IsScope, IsContext, AreNodes, Finds, Means, ListMeans, AreHeld, Answers}
use Rattle.xpath_meaning.proofs.ArgumentLemmas.{one_more}

-- what is found from what was found
pub finds_then : {s : ScopeOf} {ns ms : List Node} {f : Context → List Entry → Answer (List Entry)} (g : Context → List Entry → Answer (List Entry)) (r : Answer (List Node)) → Finds s ns (Ok ms) f → Finds s ms r g → Finds s ns r (λ c es. and_then (f c es) (g c))
finds_then {s} {ns} {ms} {f} g r one two = record { yields = λ c h es k. this c h es k }
  where
    this : (c : Context) → IsScope s c → (es : List Entry) → AreNodes c.document ns es → Meets (AreNodes c.document) r (and_then (f c es) (g c))
    this c h es k =
        let y : IsHeldFor (AreNodes c.document) ms (f c es) = one.yields c h es k in
        subst (λ m. Meets (AreNodes c.document) r (and_then m (g c))) (sym y.meant_is) (two.yields c h y.value y.held)

-- Arguments.

-- a list with no more expressions
pub list_end : (s : ScopeOf) (p : Place) (done : List Value) → ListMeans s p done (Ok done) (λ c. Ok [])
list_end s p done = record { yields = λ c hc vs a. record { value = vs ++ []; meant_is = refl; held = subst (AreHeld c.document done) (sym (append_nil vs)) a } }
  where
    append_nil : (ns : List Meant) → ns ++ [] ≡ ns
    append_nil [] = refl
    append_nil (n ∷ ns) = ap (λ ms. n ∷ ms) (append_nil ns)

with_more : (m : Answer (List Meant)) (xs ys : List Meant) → with (with m (λ zs. ys ++ zs)) (λ zs. xs ++ zs) ≡ with m (λ zs. (xs ++ ys) ++ zs)
with_more (Ok zs) xs ys = ap Ok (sym (append_assoc xs ys zs))
with_more (Err e) xs ys = refl

-- one more expression, and then the others
pub list_more : (s : ScopeOf) (p : Place) (done longer : List Value) (h : Value) (f : Context → Answer Meant) (m : Context → Answer (List Meant)) (r : Answer (List Value)) → Means s p (Ok h) f → longer ≡ done ++ h ∷ [] → ListMeans s p longer r m → ListMeans s p done r (λ c. and_then (f c) (λ v. with (m c) (λ ws. v ∷ ws)))
list_more s p done longer h f m r one e rest = record { yields = λ c hc vs a. this c hc vs a }
  where
    this : (c : Context) → IsContext s p c → (vs : List Meant) → AreHeld c.document done vs → Meets (AreHeld c.document) r (with (and_then (f c) (λ v. with (m c) (λ ws. v ∷ ws))) (λ ws. vs ++ ws))
    this c hc vs a =
        let y : IsHeldFor (IsHeld c.document) h (f c) = one.yields c hc in
        let k = rest.yields c hc (vs ++ y.value ∷ []) (subst (λ ms. AreHeld c.document ms (vs ++ y.value ∷ [])) (sym e) (one_more c.document done h vs y.value a y.held)) in
        subst (λ n. Meets (AreHeld c.document) r (with (and_then n (λ v. with (m c) (λ ws. v ∷ ws))) (λ ws. vs ++ ws))) (sym y.meant_is)
        (subst (Meets (AreHeld c.document) r) (sym (with_more (m c) vs (y.value ∷ []))) k)

-- the arguments of a call
pub list_whole : (s : ScopeOf) (p : Place) (none : List Value) (r : Answer (List Value)) (m : Context → Answer (List Meant)) → none ≡ [] → ListMeans s p none r m → (c : Context) → IsContext s p c → Meets (AreHeld c.document) r (m c)
list_whole s p none r m e k c hc =
    subst (Meets (AreHeld c.document) r) (with_none (m c)) (k.yields c hc [] (subst (λ ms. AreHeld c.document ms []) (sym e) (record { same = refl; among = tt })))
  where
    with_none : (n : Answer (List Meant)) → with n (λ zs. [] ++ zs) ≡ n
    with_none (Ok xs) = refl
    with_none (Err d) = refl

-- The parts of an expression, as they are read.

pub go_on : (s : ScopeOf) (ns slice found : List Node) (axis axis' : StepAxis) (test test' : StepTest) (ps ps' : Trees) (w w' whole : Walk) (r : Answer (List Node)) → slice ≡ ns → axis' ≡ axis → test' ≡ test → ps' ≡ ps → w' ≡ w → whole ≡ go axis test ps w
    → Finds s slice (Ok found) (step_from (filtered ps') axis' test') → Finds s found r (walked w') → Finds s ns r (walked whole)
go_on s ns slice found axis axis' test test' ps ps' w w' whole r e1 e2 e3 e4 e5 e6 one two =
    subst (λ x. Finds s ns r (walked x)) (sym e6)
    (finds_then (walked w) r
    (subst (λ x. Finds s x (Ok found) (step_from (filtered ps) axis test)) e1
    (subst (λ x. Finds s slice (Ok found) (step_from (filtered ps) axis x)) e3
    (subst (λ x. Finds s slice (Ok found) (step_from (filtered ps) x test')) e2
    (subst (λ x. Finds s slice (Ok found) (step_from (filtered x) axis' test')) e4 one))))
    (subst (λ x. Finds s found r (walked x)) e5 two))

-- a fault stays, whatever it is of
pub same_fault : {X Y V W : Type 0} (R : X → V → Type 0) (S : Y → W → Type 0) (e : ValueFault) (m : Answer V) (n : Answer W) → ((d : ValueFault) → m ≡ Err d → n ≡ Err d) → Meets R (Err e) m → Meets S (Err e) n
same_fault R S Fraction m n f y = f Fraction y
same_fault R S Infinite m n f y = f Infinite y
same_fault R S Range m n f y = f Range y
same_fault R S NoMemory m n f y = tt

pub go_fault : (s : ScopeOf) (ns slice : List Node) (axis axis' : StepAxis) (test test' : StepTest) (ps ps' : Trees) (w whole : Walk) (e : ValueFault) → slice ≡ ns → axis' ≡ axis → test' ≡ test → ps' ≡ ps → whole ≡ go axis test ps w
    → Finds s slice (Err e) (step_from (filtered ps') axis' test') → Finds s ns (Err e) (walked whole)
go_fault s ns slice axis axis' test test' ps ps' w whole e e1 e2 e3 e4 e6 one =
    let k : Finds s ns (Err e) (step_from (filtered ps) axis test) =
    subst (λ x. Finds s x (Err e) (step_from (filtered ps) axis test)) e1
    (subst (λ x. Finds s slice (Err e) (step_from (filtered ps) axis x)) e3
    (subst (λ x. Finds s slice (Err e) (step_from (filtered ps) x test')) e2
    (subst (λ x. Finds s slice (Err e) (step_from (filtered x) axis' test')) e4 one))) in
    subst (λ x. Finds s ns (Err e) (walked x)) (sym e6)
    (record {
      yields = λ c hc es a.
          same_fault (AreNodes c.document) (AreNodes c.document) e (step_from (filtered ps) axis test c es) (walked (go axis test ps w) c es)
          (λ d q. ap (λ m. and_then m (walked w c)) q) (k.yields c hc es a);
    })

pub filter_on : (s : ScopeOf) (ns slice found : List Node) (e e' : Tree) (ps ps' whole : Trees) (r : Answer (List Node)) → slice ≡ ns → e' ≡ e → ps' ≡ ps → whole ≡ more e ps
    → Finds s slice (Ok found) (λ c es. kept (mean e') c (length es) 1 es) → Finds s found r (filtered ps') → Finds s ns r (filtered whole)
filter_on s ns slice found e e' ps ps' whole r e1 e2 e3 e4 one two =
    subst (λ x. Finds s ns r (filtered x)) (sym e4)
    (finds_then (filtered ps) r
    (subst (λ x. Finds s x (Ok found) (λ c es. kept (mean e) c (length es) 1 es)) e1
    (subst (λ x. Finds s slice (Ok found) (λ c es. kept (mean x) c (length es) 1 es)) e2 one))
    (subst (λ x. Finds s found r (filtered x)) e3 two))

pub list_on : (s : ScopeOf) (p : Place) (done behind : List Value) (h : Value) (e e' : Tree) (es es' whole : Trees) (r : Answer (List Value)) → e' ≡ e → es' ≡ es → whole ≡ more e es → behind ≡ done ++ h ∷ []
    → Means s p (Ok h) (mean e') → ListMeans s p behind r (listed es') → ListMeans s p done r (listed whole)
list_on s p done behind h e e' es es' whole r e1 e2 e3 e4 one two =
    subst (λ x. ListMeans s p done r (listed x)) (sym e3)
    (list_more s p done behind h (mean e) (listed es) r (subst (λ x. Means s p (Ok h) (mean x)) e1 one) e4 (subst (λ x. ListMeans s p behind r (listed x)) e2 two))

pub call_fault : (s : ScopeOf) (p : Place) (before : List Value) (e : ValueFault) (name : List ℕ) (es : Trees) (t : Tree) → before ≡ [] → ListMeans s p before (Err e) (listed es) → t ≡ call name es → Means s p (Err e) (mean t)
call_fault s p before e name es t none k is = subst (λ x. Means s p (Err e) (mean x)) (sym is) (record {
  yields = λ c hc.
      same_fault (AreHeld c.document) (IsHeld c.document) e (listed es c) (mean (call name es) c) (λ d q. ap (λ m. and_then m (answered (function_named name) c)) q) (list_whole s p before (Err e) (listed es) none k c hc);
})

pub call_gives : (s : ScopeOf) (p : Place) (before vs : List Value) (r : Answer Value) (name : List ℕ) (es : Trees) (t : Tree) → before ≡ [] → ListMeans s p before (Ok vs) (listed es) → t ≡ call name es
    → Answers s p vs r (answered (function_named name)) → Means s p r (mean t)
call_gives s p before vs r name es t none k is gives = subst (λ x. Means s p r (mean x)) (sym is) (record { yields = λ c hc. this c hc })
  where
    this : (c : Context) → IsContext s p c → Meets (IsHeld c.document) r (mean (call name es) c)
    this c hc =
        let y : IsHeldFor (AreHeld c.document) vs (listed es c) = list_whole s p before (Ok vs) (listed es) none k c hc in
        subst (λ m. Meets (IsHeld c.document) r (and_then m (answered (function_named name) c))) (sym y.meant_is) (gives.yields c hc y.value y.held)
