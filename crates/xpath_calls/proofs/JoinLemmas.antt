-- Arguments joined.
use Rattle.std.proofs.Common.{◌≡◌, ℕ, zero, suc, ◌<◌, ◌≤◌, ◌+◌, List, [], ◌∷◌, ◌++◌, map, drop, length, Ok, Err, refl, sym, ◌∙◌, ap, subst, arith}
use Rattle.std.specs.Prelude.{OnOk}
use Rattle.std.specs.List.{flat_map}
use Rattle.std.proofs.lemmas.List.{length-map, append_assoc}
use Rattle.xpath_values.specs.declared.Value.{Value}
use Rattle.xpath_values.specs.Answers.{Answer}
use Rattle.xpath_values.specs.Values.{Meant, held_as, string_of}
use Rattle.xpath_meaning.specs.Functions.{argument}
use Rattle.xpath_meaning.specs.Scope.{ScopeOf}
use Rattle.xpath_calls.proofs.Told.{Every}

-- all of it is what is joined, and the arguments from an index on
pub record IsJoined (s : ScopeOf) (hs : List Value) (i : ℕ) (t : List ℕ) : Type 0 where
  pub whole : Every s hs (λ c vs. flat_map string_of vs ≡ t ++ flat_map string_of (drop i vs))

pub begins : (s : ScopeOf) (hs : List Value) (t : List ℕ) → t ≡ [] → IsJoined s hs 0 t
begins s hs t e = record { whole = λ c d vs a. rw e refl }

drop_front : (i : ℕ) (vs : List Meant) → i < length vs → drop i vs ≡ argument i vs ∷ drop (suc i) vs
drop_front i [] h = absurd (omega arith)
drop_front zero (v ∷ vs) h = refl
drop_front (suc i) (v ∷ vs) h = drop_front i vs (omega arith)

same_length : (hs : List Value) (vs : List Meant) → hs ≡ map held_as vs → length hs ≡ length vs
same_length hs vs e = ap length e ∙ length-map vs held_as

pub goes_on : (s : ScopeOf) (hs : List Value) (i : ℕ) (t u : List ℕ) → i < length hs → IsJoined s hs i t →
    Every s hs (λ c vs. u ≡ t ++ string_of (argument i vs)) → IsJoined s hs (i + 1) u
goes_on s hs i t u l k e =
    let one : suc i ≡ i + 1 = omega arith in
    subst (λ j. IsJoined s hs j u) one (record {
      whole = λ c d vs a.
          k.whole c d vs a ∙ ap (λ xs. t ++ flat_map string_of xs) (drop_front i vs (omega (arith, same_length hs vs a.same)))
          ∙ sym (append_assoc t (string_of (argument i vs)) (flat_map string_of (drop (suc i) vs)))
          ∙ sym (ap (λ x. x ++ flat_map string_of (drop (suc i) vs)) (e c d vs a));
    })

drop_all : (i : ℕ) (vs : List Meant) → length vs ≤ i → drop i vs ≡ []
drop_all zero [] h = refl
drop_all (suc i) [] h = refl
drop_all zero (v ∷ vs) h = absurd (omega arith)
drop_all (suc i) (v ∷ vs) h = drop_all i vs (omega arith)

nothing_more : (t : List ℕ) → t ++ [] ≡ t
nothing_more [] = refl
nothing_more (c ∷ t) = ap (λ x. c ∷ x) (nothing_more t)

pub ends : (s : ScopeOf) (hs : List Value) (i : ℕ) (t : List ℕ) → length hs ≤ i → IsJoined s hs i t → Every s hs (λ c vs. t ≡ flat_map string_of vs)
ends s hs i t l k c d vs a =
    sym (k.whole c d vs a ∙ ap (λ xs. t ++ flat_map string_of xs) (drop_all i vs (omega (arith, l, same_length hs vs a.same))) ∙ nothing_more t)

pub pushed : {X : Type 0} (s : ScopeOf) (hs : List Value) (i : ℕ) (r : Answer X) (old new more : List ℕ) → OnOk r (new ≡ old ++ more) →
    Every s hs (λ c vs. more ≡ string_of (argument i vs)) →
    OnOk r (Every s hs (λ c vs. new ≡ old ++ string_of (argument i vs)))
pushed s hs i (Ok x) old new more k e = λ c d vs a. k ∙ ap (λ t. old ++ t) (e c d vs a)
pushed s hs i (Err x) old new more k e = tt
