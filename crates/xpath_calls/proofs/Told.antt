-- Answers of functions, from what is found of the document's values.
use Rattle.std.proofs.Common.{◌≡◌, ℕ, Bool, List, Ok, Err, refl, sym, ap, subst}
use Rattle.std.specs.Prelude.{IfOk, IfErr}
use Rattle.xml_model.specs.Tree.{Entry}
use Rattle.xpath_values.specs.declared.Number.{Number}
use Rattle.xpath_values.specs.declared.Value.{Value}
use Rattle.xpath_values.specs.declared.Value.TheVariants as held
use Rattle.xpath_values.specs.declared.ValueFault.{ValueFault}
use Rattle.xpath_values.specs.declared.ValueFault.TheVariants.{Fraction, Infinite, Range, NoMemory}
use Rattle.xpath_values.specs.Answers.{Answer, and_then, with, Yields}
use Rattle.xpath_values.specs.Values.{Meant, truth, number, text, IsHeld}
use Rattle.xpath_meaning.specs.Meets.{Meets}
use Rattle.xpath_meaning.specs.Context.{Context}
use Rattle.xpath_meaning.specs.declared.scope.Place.{Place}
use Rattle.xpath_meaning.specs.declared.function.Function.{Function}
use Rattle.xpath_meaning.specs.Functions.{called}
use Rattle.xpath_meaning.specs.Scope.{ScopeOf, IsScope, IsContext, Answers, AreHeld}

-- what is exact is yielded
pub exact : {X : Type 0} (r m : Answer X) → r ≡ m → Yields r m
exact (Ok x) m e = e
exact (Err Fraction) m e = e
exact (Err Infinite) m e = e
exact (Err Range) m e = e
exact (Err NoMemory) m e = tt

pub full : {X : Type 0} (e : ValueFault) (m : Answer X) → e ≡ NoMemory → Yields (Err e) m
full e m h = rw h tt

-- a value is made of what is yielded
made : {X : Type 0} (document : List Entry) (hold : X → Value) (meant : X → Meant) → ((x : X) → IsHeld document (hold x) (meant x)) →
    (v : Answer Value) (r m : Answer X) → v ≡ with r hold → Yields r m → Meets (IsHeld document) v (with m meant)
made document hold meant k v (Ok x) m e y = subst (λ n. Meets (IsHeld document) v (with n meant)) y (rw e (record {
  value = meant x;
  meant_is = refl;
  held
      = k x;
}))
made document hold meant k v (Err Fraction) m e y = subst (λ n. Meets (IsHeld document) v (with n meant)) y (rw e refl)
made document hold meant k v (Err Infinite) m e y = subst (λ n. Meets (IsHeld document) v (with n meant)) y (rw e refl)
made document hold meant k v (Err Range) m e y = subst (λ n. Meets (IsHeld document) v (with n meant)) y (rw e refl)
made document hold meant k v (Err NoMemory) m e y = rw e tt

-- of every context of a place, and all values that are held
abbrev pub Each : ScopeOf → Place → List Value → (Context → List Meant → Type 0) → Type 0
Each s p hs P = (c : Context) → IsContext s p c → (vs : List Meant) → AreHeld c.document hs vs → P c vs

-- the same of every context of a scope
abbrev pub Every : ScopeOf → List Value → (Context → List Meant → Type 0) → Type 0
Every s hs P = (c : Context) → IsScope s c → (vs : List Meant) → AreHeld c.document hs vs → P c vs

pub number_told : (s : ScopeOf) (p : Place) (hs : List Value) (v : Answer Value) (r : Answer Number) (f : Context → List Meant → Answer Number) →
    v ≡ with r held.Number →
    Each s p hs (λ c vs. Yields r (f c vs)) → Answers s p hs v (λ c vs. with (f c vs) number)
number_told s p hs v r f e k = record {
  yields = λ c d vs a. made c.document held.Number number (λ x. record { same = refl; among = tt }) v r (f c vs) e (k
      c d vs a);
}

pub text_told : (s : ScopeOf) (p : Place) (hs : List Value) (v : Answer Value) (r : Answer (List ℕ)) (f : Context → List Meant → Answer (List ℕ)) →
    v ≡ with r held.Text →
    Each s p hs (λ c vs. Yields r (f c vs)) → Answers s p hs v (λ c vs. with (f c vs) text)
text_told s p hs v r f e k = record {
  yields = λ c d vs a. made c.document held.Text text (λ x. record { same = refl; among = tt }) v r (f c vs) e (k c d
      vs a);
}

pub truth_told : (s : ScopeOf) (p : Place) (hs : List Value) (v : Answer Value) (r : Answer Bool) (f : Context → List Meant → Answer Bool) →
    v ≡ with r held.Truth →
    Each s p hs (λ c vs. Yields r (f c vs)) → Answers s p hs v (λ c vs. with (f c vs) truth)
truth_told s p hs v r f e k = record {
  yields = λ c d vs a. made c.document held.Truth truth (λ x. record { same = refl; among = tt }) v r (f c vs) e (k c
      d vs a);
}

-- what is there, or there was no memory
pub fine : {X : Type 0} (s : ScopeOf) (p : Place) (hs : List Value) (r : Answer X) (f : Context → List Meant → X) → IfErr r (λ e. e ≡ NoMemory) →
    IfOk r (λ x. Each s p hs (λ c vs. x ≡ f c vs)) → Each s p hs (λ c vs. Yields r (Ok (f c vs)))
fine s p hs (Ok x) f m k = λ c d vs a. ap Ok (k c d vs a)
fine s p hs (Err e) f m k = λ c d vs a. full e (Ok (f c vs)) m

pub fine_all : {X : Type 0} (s : ScopeOf) (p : Place) (hs : List Value) (r : Answer X) (f : Context → List Meant → X) → IfErr r (λ e. e ≡ NoMemory) →
    IfOk r (λ x. Every s hs (λ c vs. x ≡ f c vs)) → Each s p hs (λ c vs. Yields r (Ok (f c vs)))
fine_all s p hs (Ok x) f m k = λ c d vs a. ap Ok (k c d.scope vs a)
fine_all s p hs (Err e) f m k = λ c d vs a. full e (Ok (f c vs)) m

-- what is meant may be written in another way
pub answers_same : (s : ScopeOf) (p : Place) (hs : List Value) (v : Answer Value) (f g : Context → List Meant → Answer Meant) →
    ((c : Context) (vs : List Meant) → f c vs ≡ g c vs) → Answers s p hs v f → Answers s p hs v g
answers_same s p hs v f g e k = record { yields = λ c d vs a. subst (Meets (IsHeld c.document) v) (e c vs) (k.yields c d vs a) }

pub text_after : (r : Answer Number) (f : Number → Answer (List ℕ)) → with (and_then r f) text ≡ and_then r (λ x. with (f x) text)
text_after (Ok x) f = refl
text_after (Err e) f = refl

pub of_function : (s : ScopeOf) (p : Place) (hs : List Value) (v : Answer Value) (k m : Function) → k ≡ m →
    Answers s p hs v (called m) → Answers s p hs v (called k)
of_function s p hs v k m e a = subst (λ f. Answers s p hs v (called f)) (sym e) a
