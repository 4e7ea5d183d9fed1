-- What meets what is meant.
use Rattle.std.proofs.Common.{◌≡◌, ℕ, Bool, true, false, List, Ok, Err, refl, subst}
use Rattle.std.specs.Prelude.{IfOk, IfErr}
use Rattle.xml_model.specs.Tree.{Entry}
use Rattle.xpath_values.specs.declared.Number.{Number}
use Rattle.xpath_values.specs.declared.Value.{Value}
use Rattle.xpath_values.specs.declared.Value.TheVariants as held
use Rattle.xpath_values.specs.declared.ValueFault.{ValueFault}
use Rattle.xpath_values.specs.declared.ValueFault.TheVariants.{Fraction, Infinite, Range, NoMemory}
use Rattle.xpath_values.specs.Answers.{Answer, and_then, with, Gives}
use Rattle.xpath_values.specs.Values.{Meant, truth, number, text, IsHeld}
use Rattle.xpath_meaning.specs.Meets.{Meets}
use Rattle.xpath_meaning.specs.Context.{Context}
use Rattle.xpath_meaning.specs.declared.scope.Place.{Place}
use Rattle.xpath_meaning.specs.Scope.{ScopeOf, IsContext, Answers, AreHeld}

pub meets_fault : {X Y : Type 0} (R : X → Y → Type 0) (e : ValueFault) (m : Answer Y) → m ≡ Err e → Meets R (Err e) m
meets_fault R Fraction m h = h
meets_fault R Infinite m h = h
meets_fault R Range m h = h
meets_fault R NoMemory m h = tt

pub truths_meet : (document : List Entry) (r : Answer Value) (b : Answer Bool) → r ≡ with b held.Truth → Meets (IsHeld document) r (with b truth)
truths_meet document r (Ok b) h = rw h (record { value = truth b; meant_is = refl; held = record { same = refl; among = tt } })
truths_meet document r (Err e) h = rw h (meets_fault (IsHeld document) e (Err e) refl)

pub numbers_meet : (document : List Entry) (r : Answer Value) (n : Answer Number) → r ≡ with n held.Number → Meets (IsHeld document) r (with n number)
numbers_meet document r (Ok n) h = rw h (record { value = number n; meant_is = refl; held = record { same = refl; among = tt } })
numbers_meet document r (Err e) h = rw h (meets_fault (IsHeld document) e (Err e) refl)

pub text_meets : (document : List Entry) (r : Answer Value) (t : List ℕ) → IfOk r (λ h. h ≡ held.Text t) → IfErr r (λ e. e ≡ NoMemory) → Meets (IsHeld document) r (Ok (text t))
text_meets document (Ok h) t k m = record { value = text t; meant_is = refl; held = record { same = k; among = tt } }
text_meets document (Err e) t k m = rw m tt

-- what a call gives, where it takes memory or not
pub given : (b : Bool) (r m : Answer Bool) → Gives b r m → (document : List Entry) (v : Answer Value) → v ≡ with r held.Truth → Meets (IsHeld document) v (with m truth)
given true (Ok x) m g document v h = subst (λ k. Meets (IsHeld document) v (with k truth)) g (truths_meet document v (Ok x) h)
given true (Err Fraction) m g document v h = subst (λ k. Meets (IsHeld document) v (with k truth)) g (truths_meet document v (Err Fraction) h)
given true (Err Infinite) m g document v h = subst (λ k. Meets (IsHeld document) v (with k truth)) g (truths_meet document v (Err Infinite) h)
given true (Err Range) m g document v h = subst (λ k. Meets (IsHeld document) v (with k truth)) g (truths_meet document v (Err Range) h)
given true (Err NoMemory) m g document v h = rw h tt
given false r m g document v h = subst (λ k. Meets (IsHeld document) v (with k truth)) g (truths_meet document v r h)

-- two numbers, one after the other
pub both_numbers : (a b : Answer Number) (f : Number → Number → Answer Number) →
    with (and_then a (λ x. and_then b (f x))) number ≡ and_then a (λ x. and_then b (λ y. with (f x y) number))
both_numbers (Err e) b f = refl
both_numbers (Ok x) (Err e) f = refl
both_numbers (Ok x) (Ok y) f = refl

pub one_number : (a : Answer Number) (f : Number → Number) → with (with a f) number ≡ with a (λ x. number (f x))
one_number (Err e) f = refl
one_number (Ok x) f = refl

-- Answers of functions.

pub fault_answers : (s : ScopeOf) (p : Place) (hs : List Value) (r : Answer Value) (f : Context → List Meant → Answer Meant) (e : ValueFault) → e ≡ NoMemory → r ≡ Err e → Answers s p hs r f
fault_answers s p hs r f e h k = record { yields = λ c d vs a. rw (k, h) tt }

pub truth_answers : (s : ScopeOf) (p : Place) (hs : List Value) (r : Answer Value) (f : Context → List Meant → Answer Meant) (b : Bool) → r ≡ with (Ok b) held.Truth →
    ((c : Context) → IsContext s p c → (vs : List Meant) → AreHeld c.document hs vs → Ok (truth b) ≡ f c vs) → Answers s p hs r f
truth_answers s p hs r f b h k = record { yields = λ c d vs a. subst (Meets (IsHeld c.document) r) (k c d vs a) (truths_meet c.document r (Ok b) h) }

pub number_answers : (s : ScopeOf) (p : Place) (hs : List Value) (r : Answer Value) (f : Context → List Meant → Answer Meant) (n : Answer Number) → r ≡ with n held.Number →
    ((c : Context) → IsContext s p c → (vs : List Meant) → AreHeld c.document hs vs → with n number ≡ f c vs) → Answers s p hs r f
number_answers s p hs r f n h k = record { yields = λ c d vs a. subst (Meets (IsHeld c.document) r) (k c d vs a) (numbers_meet c.document r n h) }

pub text_answers : (s : ScopeOf) (p : Place) (hs : List Value) (r : Answer Value) (f : Context → List Meant → Answer Meant) (t : List ℕ) → IfOk r (λ h. h ≡ held.Text t) → IfErr r (λ e. e ≡ NoMemory) →
    ((c : Context) → IsContext s p c → (vs : List Meant) → AreHeld c.document hs vs → Ok (text t) ≡ f c vs) → Answers s p hs r f
text_answers s p hs r f t h m k = record { yields = λ c d vs a. subst (Meets (IsHeld c.document) r) (k c d vs a) (text_meets c.document r t h m) }
