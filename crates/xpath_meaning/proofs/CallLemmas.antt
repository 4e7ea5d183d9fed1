-- What functions answer, from what their arguments mean.
use Rattle.std.proofs.Common.{◌≡◌, ℕ, List, [], ◌∷◌, Some, None, Ok, Err, sym, ◌∙◌, ap, ap₂, subst}
use Rattle.std.specs.Prelude.{IfOk}
use Rattle.std.specs.Option.{unwrap_or}
use Rattle.std.specs.List.{slice_get}
use Rattle.xpath_values.specs.declared.Value.{Value}
use Rattle.xpath_values.specs.Answers.{Answer}
use Rattle.xpath_values.specs.Values.{Meant, nodes, string_of, string_value, IsHeld}
use Rattle.xpath_meaning.specs.declared.scope.Place.{Place}
use Rattle.xpath_meaning.specs.Context.{Context}
use Rattle.xpath_meaning.specs.Functions.{argument, own}
use Rattle.xpath_meaning.specs.Scope.{ScopeOf, IsScope, IsContext, AreHeld}
use Rattle.xpath_meaning.proofs.ArgumentLemmas.{ArgumentIs, argument_is, argument_none}

-- a text is that of an argument
abbrev pub IsTextAt : ScopeOf → List Value → ℕ → List ℕ → Type 0
IsTextAt s hs i t = (c : Context) → IsScope s c → (vs : List Meant) → AreHeld c.document hs vs → t ≡ string_of (argument i vs)

pub two_texts : (s : ScopeOf) (hs : List Value) (i j : ℕ) (r : Answer (List ℕ)) (one other : List ℕ) (f : List ℕ → List ℕ → List ℕ) → IfOk r (λ t. t ≡ f one other) → IsTextAt s hs i one → IsTextAt s hs j other →
    IfOk r (λ t. (c : Context) → IsScope s c → (vs : List Meant) → AreHeld c.document hs vs → t ≡ f (string_of (argument i vs)) (string_of (argument j vs)))
two_texts s hs i j (Ok t) one other f k e d = λ c h vs a. k ∙ ap₂ f (e c h vs a) (d c h vs a)
two_texts s hs i j (Err x) one other f k e d = tt

-- a further text before them
pub one_more_text : (s : ScopeOf) (hs : List Value) (r : Answer (List ℕ)) (text : List ℕ) (f : List ℕ → List ℕ → List ℕ → List ℕ) →
    IfOk r (λ t. (c : Context) → IsScope s c → (vs : List Meant) → AreHeld c.document hs vs → t ≡ f text (string_of (argument 1 vs)) (string_of (argument 2 vs))) → IsTextAt s hs 0 text →
    IfOk r (λ t. (c : Context) → IsScope s c → (vs : List Meant) → AreHeld c.document hs vs → t ≡ f (string_of (argument 0 vs)) (string_of (argument 1 vs)) (string_of (argument 2 vs)))
one_more_text s hs (Ok t) text f k e = λ c h vs a. k c h vs a ∙ ap (λ x. f x (string_of (argument 1 vs)) (string_of (argument 2 vs))) (e c h vs a)
one_more_text s hs (Err x) text f k e = tt

pub context_string : (s : ScopeOf) (p : Place) (x : Value) (r : Answer (List ℕ)) → ((c : Context) → IsContext s p c → IsHeld c.document x (nodes (c.node ∷ []))) →
    IfOk r (λ t. (c : Context) → IsScope s c → (v : Meant) → IsHeld c.document x v → t ≡ string_of v) → IfOk r (λ t. (c : Context) → IsContext s p c → t ≡ string_value c.node)
context_string s p x (Ok t) h k = λ c i. k c i.scope (nodes (c.node ∷ [])) (h c i)
context_string s p x (Err e) h k = tt

pub own_found : (s : ScopeOf) (p : Place) (hs : List Value) (h : Value) (r : Answer (List ℕ)) → slice_get hs 0 ≡ Some h →
    IfOk r (λ t. (c : Context) → IsScope s c → (v : Meant) → IsHeld c.document h v → t ≡ string_of v) →
    IfOk r (λ t. (c : Context) → IsContext s p c → (vs : List Meant) → AreHeld c.document hs vs → t ≡ string_of (own c vs))
own_found s p hs h (Ok t) e k = λ c i vs a.
    let r : ArgumentIs c.document h vs 0 = argument_is c.document hs vs 0 h a e in
    subst (λ o. t ≡ string_of (unwrap_or o (nodes (c.node ∷ [])))) (sym r.is) (k c i.scope r.value r.held)
own_found s p hs h (Err x) e k = tt

pub own_not_found : (s : ScopeOf) (p : Place) (hs : List Value) (r : Answer (List ℕ)) → slice_get hs 0 ≡ None →
    IfOk r (λ t. (c : Context) → IsContext s p c → t ≡ string_value c.node) →
    IfOk r (λ t. (c : Context) → IsContext s p c → (vs : List Meant) → AreHeld c.document hs vs → t ≡ string_of (own c vs))
own_not_found s p hs (Ok t) e k = λ c i vs a. subst (λ o. t ≡ string_of (unwrap_or o (nodes (c.node ∷ [])))) (sym (argument_none c.document hs vs 0 a e)) (k c i)
own_not_found s p hs (Err x) e k = tt
