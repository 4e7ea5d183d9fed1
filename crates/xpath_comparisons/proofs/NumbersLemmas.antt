-- Numbers of node-sets compared.
use Rattle.std.proofs.Common.{◌≡◌, ℕ, Bool, true, false, List, [], ◌∷◌, Ok, Err, refl, sym, ◌∙◌, ap}
use Rattle.std.specs.Prelude.{◌||◌, ◌&&◌, not}
use Rattle.std.specs.List.{list_any}
use Rattle.std.specs.Int.RustNames.{int_le}
use Rattle.xml_model.specs.declared.Node.{Node}
use Rattle.vtd_words.specs.Lists.{Lists}
use Rattle.xpath_tokens.specs.declared.Comparison.{Comparison}
use Rattle.xpath_values.specs.declared.Number.{Number}
use Rattle.xpath_values.specs.declared.Number.TheVariants.{Nan, Millionths}
use Rattle.xpath_values.specs.Answers.{Answer, and_then, with, each}
use Rattle.xpath_values.specs.Numbers.{compare_numbers, number_of_text}
use Rattle.xpath_values.specs.Seen.{HasString, IsLeft}
use Rattle.xpath_values.specs.Values.{some_pair}
use Rattle.xpath_values.proofs.SeenLemmas.{next_left}
use Rattle.xpath_comparisons.specs.Comparing.{equality_of}

or_assoc : (a b c : Bool) → ((a || b) || c) ≡ (a || (b || c))
or_assoc true b c = refl
or_assoc false b c = refl

or_false : (a : Bool) → (a || false) ≡ a
or_false true = refl
or_false false = refl

-- one more number is found
abbrev pub IsFound : (Number → Bool) → Bool → Answer Bool → List (List ℕ) → Type 0
IsFound test found whole us = with (each number_of_text us) (λ xs. found || list_any test xs) ≡ whole

found_more : (test : Number → Bool) (found : Bool) (x : Number) (a : Answer (List Number))
    → with a (λ xs. (found || test x) || list_any test xs) ≡ with (with a (λ xs. x ∷ xs)) (λ xs. found || list_any test xs)
found_more test found x (Ok xs) = ap Ok (or_assoc found (test x) (list_any test xs))
found_more test found x (Err e) = refl

pub number_found : (bytes : List ℕ) (lists : Lists) (left rest : List Node) (node : Node) (test : Number → Bool) (found new : Bool) (whole : Answer Bool) (x : Number)
    → left ≡ node ∷ rest → ((t : List ℕ) → HasString bytes lists node t → Ok x ≡ number_of_text t) → new ≡ (found || test x)
    → IsLeft bytes lists left (IsFound test found whole) → IsLeft bytes lists rest (IsFound test new whole)
number_found bytes lists left rest node test found new whole x e g h i =
    let n = next_left bytes lists left rest node (IsFound test found whole) e i in
    let a : Answer (List Number) = each number_of_text n.after.texts in
    record {
      texts = n.after.texts;
      shown = n.after.shown;
      holds =
          ap (λ b. with a (λ xs. b || list_any test xs)) h ∙ found_more test found x a
          ∙ ap (λ y. with (and_then y (λ z. with a (λ xs. z ∷ xs))) (λ xs. found || list_any test xs)) (g n.text n.string)
          ∙ n.after.holds;
    }

-- Equality with one number.

and_swap : (a b : Bool) → (a && b) ≡ (b && a)
and_swap true true = refl
and_swap true false = refl
and_swap false true = refl
and_swap false false = refl

swapped : (unequal : Bool) (x y : Number) → compare_numbers (equality_of unequal) x y ≡ compare_numbers (equality_of unequal) y x
swapped true (Millionths x) (Millionths y) = ap not (and_swap (int_le x y) (int_le y x))
swapped true (Millionths x) Nan = refl
swapped true Nan (Millionths y) = refl
swapped true Nan Nan = refl
swapped false (Millionths x) (Millionths y) = and_swap (int_le x y) (int_le y x)
swapped false (Millionths x) Nan = refl
swapped false Nan (Millionths y) = refl
swapped false Nan Nan = refl

any_same : (f g : Number → Bool) → ((x : Number) → f x ≡ g x) → (xs : List Number) → list_any f xs ≡ list_any g xs
any_same f g h [] = refl
any_same f g h (x ∷ xs) = ap (λ b. b || list_any f xs) (h x) ∙ ap (λ b. g x || b) (any_same f g h xs)

pub left_number : (unequal : Bool) (x : Number) (a : Answer (List Number))
    → with a (list_any (λ y. compare_numbers (equality_of unequal) y x)) ≡ with a (λ ys. some_pair (compare_numbers (equality_of unequal)) (x ∷ []) ys)
left_number unequal x (Ok ys) =
    ap Ok (any_same (λ y. compare_numbers (equality_of unequal) y x) (compare_numbers (equality_of unequal) x) (λ y. swapped unequal y x) ys
    ∙ sym (or_false (list_any (compare_numbers (equality_of unequal) x) ys)))
left_number unequal x (Err e) = refl

pub right_number : (how : Comparison) (y : Number) (a : Answer (List Number))
    → with a (list_any (λ x. compare_numbers how x y)) ≡ and_then a (λ xs. Ok (some_pair (compare_numbers how) xs (y ∷ [])))
right_number how y (Ok xs) =
    ap Ok (any_same (λ x. compare_numbers how x y) (λ x. compare_numbers how x y || false) (λ x. sym (or_false (compare_numbers how x y))) xs)
right_number how y (Err e) = refl
