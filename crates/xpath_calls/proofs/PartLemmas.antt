-- Parts of a text by numbers that are converted.
use Rattle.std.proofs.Common.{◌≡◌, ℕ, List, Some, None, Ok, Err, refl, sym, ◌∙◌, ap, subst}
use Rattle.std.specs.Prelude.{IfOk, IfErr, Option}
use Rattle.std.specs.List.{slice_get}
use Rattle.xpath_values.specs.declared.Number.{Number}
use Rattle.xpath_values.specs.declared.Value.{Value}
use Rattle.xpath_values.specs.declared.ValueFault.{ValueFault}
use Rattle.xpath_values.specs.declared.ValueFault.TheVariants.{NoMemory}
use Rattle.xpath_values.specs.Answers.{Answer, and_then, with, Yields}
use Rattle.xpath_values.specs.Texts as texts
use Rattle.xpath_values.specs.Values.{Meant, number_of, string_of, IsHeld}
use Rattle.xpath_meaning.specs.Context.{Context}
use Rattle.xpath_meaning.specs.Functions.{argument, substring_of}
use Rattle.xpath_meaning.specs.Scope.{ScopeOf, IsScope}
use Rattle.xpath_meaning.proofs.ArgumentLemmas.{ArgumentIs, argument_is, argument_none}
use Rattle.xpath_calls.specs.Parts.{number_if}
use Rattle.xpath_calls.proofs.Told.{Every, exact, full}

-- what is made of an argument's text
pub one_text : (s : ScopeOf) (hs : List Value) (i : ℕ) (r : Answer (List ℕ)) (t : List ℕ) (f : List ℕ → List ℕ) → IfOk r (λ x. x ≡ f t) →
    Every s hs (λ c vs. t ≡ string_of (argument i vs)) →
    IfOk r (λ x. Every s hs (λ c vs. x ≡ f (string_of (argument i vs))))
one_text s hs i (Ok x) t f k e = λ c h vs a. k ∙ ap f (e c h vs a)
one_text s hs i (Err x) t f k e = tt

-- a number that is there
pub number_there : (s : ScopeOf) (hs : List Value) (h : Value) (i : ℕ) (r : Answer Number) → slice_get hs i ≡ Some h →
    ((c : Context) → IsScope s c → (v : Meant) → IsHeld c.document h v → r ≡ number_of v) → Every s hs (λ c vs. with r Some ≡ number_if (slice_get vs i))
number_there s hs h i r e k c d vs a =
    let x : ArgumentIs c.document h vs i = argument_is c.document hs vs i h a e in
    ap (λ m. with m Some) (k c d x.value x.held) ∙ sym (ap number_if x.is)

pub no_number : (s : ScopeOf) (hs : List Value) (i : ℕ) → slice_get hs i ≡ None → Every s hs (λ c vs. Ok None ≡ number_if (slice_get vs i))
no_number s hs i e c d vs a = sym (ap number_if (argument_none c.document hs vs i a e))

by_number : (t : List ℕ) (from : Number) (v : Option Meant) → substring_of t from v ≡ with (number_if v) (texts.substring t from)
by_number t from None = refl
by_number t from (Some v) = this (number_of v)
  where
    this : (r : Answer Number) → with r (λ count. texts.substring t from (Some count)) ≡ with (with r Some) (texts.substring t from)
    this (Ok x) = refl
    this (Err e) = refl

pub part_found : (s : ScopeOf) (hs : List Value) (from : Number) (count : Option Number) (r : Answer (List ℕ)) →
    Every s hs (λ c vs. Ok count ≡ number_if (slice_get vs 2)) →
    IfOk r (λ t. Every s hs (λ c vs. t ≡ texts.substring (string_of (argument 0 vs)) from count)) → IfErr r (λ e. e ≡ NoMemory) →
    Every s hs (λ c vs. Yields r (substring_of (string_of (argument 0 vs)) from (slice_get vs 2)))
part_found s hs from count (Ok t) n k m c d vs a =
    ap Ok (k c d vs a) ∙ ap (λ r. with r (texts.substring (string_of (argument 0 vs)) from)) (n c d vs a)
    ∙ sym (by_number (string_of (argument 0 vs)) from (slice_get vs 2))
part_found s hs from count (Err e) n k m c d vs a = full e (substring_of (string_of (argument 0 vs)) from (slice_get vs 2)) m

pub part_fault : (s : ScopeOf) (hs : List Value) (from : Number) (e : ValueFault) → Every s hs (λ c vs. Err e ≡ number_if (slice_get vs 2)) →
    Every s hs (λ c vs. Yields (Err e) (substring_of (string_of (argument 0 vs)) from (slice_get vs 2)))
part_fault s hs from e n c d vs a =
    exact (Err e) (substring_of (string_of (argument 0 vs)) from (slice_get vs 2))
    (ap (λ r. with r (texts.substring (string_of (argument 0 vs)) from)) (n c d vs a) ∙ sym (by_number (string_of (argument 0 vs)) from (slice_get vs 2)))

-- a part of what was converted first
pub first_converted : (s : ScopeOf) (hs : List Value) (from : Number) (r : Answer (List ℕ)) (f : Number → Context → List Meant →
    Answer (List ℕ)) (g : List Meant → Answer Number) →
    Every s hs (λ c vs. Ok from ≡ g vs) → Every s hs (λ c vs. Yields r (f from c vs)) → Every s hs (λ c vs. Yields r (and_then (g vs) (λ x. f x c vs)))
first_converted s hs from r f g e k c d vs a = subst (λ m. Yields r (and_then m (λ x. f x c vs))) (e c d vs a) (k c d vs a)

pub first_fault : (s : ScopeOf) (hs : List Value) (x : ValueFault) (f : Number → Context → List Meant → Answer (List ℕ)) (g : List Meant → Answer Number) →
    Every s hs (λ c vs. Err x ≡ g vs) → Every s hs (λ c vs. Yields (Err x) (and_then (g vs) (λ y. f y c vs)))
first_fault s hs x f g e c d vs a = exact (Err x) (and_then (g vs) (λ y. f y c vs)) (ap (λ m. and_then m (λ y. f y c vs)) (e c d vs a))
