-- Comparisons by kind, where one side is a number.
use Rattle.std.proofs.Common.{◌≡◌, ℕ, Bool, true, false, cond, List, Ok, refl, sym, ◌∙◌, ap, subst}
use Rattle.std.specs.Prelude.{◌||◌, ◌&&◌}
use Rattle.std.specs.List.{list_any}
use Rattle.xpath_values.specs.declared.Number.{Number}
use Rattle.xpath_values.specs.declared.Value.{Value}
use Rattle.xpath_values.specs.declared.Value.TheVariants as held
use Rattle.xpath_values.specs.Answers.{Answer, Gives, with}
use Rattle.xpath_values.specs.Numbers.{compare_numbers}
use Rattle.xpath_values.specs.Seen.{truth_seen}
use Rattle.xpath_values.specs.Values.{by_equality, same_truth}
use Rattle.xpath_tokens.specs.declared.Comparison.{Comparison}
use Rattle.xpath_comparisons.specs.Comparing.{by_kind, by_numbers, by_strings, strings_seen, equality_of, is_equal, is_nodes, is_number, is_truth, numbers_seen}
use Rattle.xpath_comparisons.specs.Comparing.{takes_memory}
use Rattle.xpath_comparisons.proofs.NumbersLemmas.{left_number, right_number}
use Rattle.xpath_comparisons.proofs.SetLemmas.{or_parts}

and_false : (a : Bool) → (a && false) ≡ false
and_false true = refl
and_false false = refl

pub plainly : (b : Bool) (a m : Answer Bool) → b ≡ false → a ≡ m → Gives b a m
plainly true a m e h = absurd (cc)
plainly false a m e h = h

kind_number : (t n : Bool) (a b c : Answer Bool) → t ≡ false → n ≡ true → b ≡ cond t a (cond n b c)
kind_number true n a b c e f = absurd (cc)
kind_number false true a b c e f = refl
kind_number false false a b c e f = absurd (cc)

abbrev by_truth : Comparison → Value → Value → Answer Bool
by_truth how x y = Ok (by_equality how (same_truth (truth_seen x) (truth_seen y)))

left_case : (unequal : Bool) (r : Value) (x : Number) (ts us : List (List ℕ)) (a : Answer Bool) → is_truth r ≡ false
    → a ≡ with (numbers_seen r us) (list_any (λ y. compare_numbers (equality_of unequal) y x))
    → Gives (takes_memory (equality_of unequal) (held.Number x) r) a (by_kind (equality_of unequal) (held.Number x) ts r us)
left_case unequal r x ts us a t h =
    plainly (is_equal (equality_of unequal) && false) a (by_kind (equality_of unequal) (held.Number x) ts r us) (and_false (is_equal (equality_of unequal)))
    (h ∙ left_number unequal x (numbers_seen r us)
    ∙ kind_number (is_truth r) true (by_truth (equality_of unequal) (held.Number x) r) (by_numbers (equality_of unequal) (held.Number x) ts r us)
    (Ok (by_strings (equality_of unequal) (strings_seen (held.Number x) ts) (strings_seen r us))) t refl)

pub left_is_number : (unequal : Bool) (l r : Value) (x : Number) (ts us : List (List ℕ)) (a : Answer Bool) → (is_truth l || is_truth r) ≡ false
    → l ≡ held.Number x → a ≡ with (numbers_seen r us) (list_any (λ y. compare_numbers (equality_of unequal) y x))
    → Gives (takes_memory (equality_of unequal) l r) a (by_kind (equality_of unequal) l ts r us)
left_is_number unequal l r x ts us a t e h =
    let P : Value → Type 0 = λ v. Gives (takes_memory (equality_of unequal) v r) a (by_kind (equality_of unequal) v ts r us) in
    subst P (sym e) (left_case unequal r x ts us a (or_parts (is_truth l) (is_truth r) t).1 h)

right_case : (unequal : Bool) (l : Value) (y : Number) (ts us : List (List ℕ)) (a : Answer Bool) → is_truth l ≡ false → is_number l ≡ false
    → a ≡ with (numbers_seen l ts) (list_any (λ x. compare_numbers (equality_of unequal) x y))
    → Gives (takes_memory (equality_of unequal) l (held.Number y)) a (by_kind (equality_of unequal) l ts (held.Number y) us)
right_case unequal l y ts us a t n h =
    plainly (is_equal (equality_of unequal) && (is_nodes l && false)) a (by_kind (equality_of unequal) l ts (held.Number y) us)
    (ap (λ b. is_equal (equality_of unequal) && b) (and_false (is_nodes l)) ∙ and_false (is_equal (equality_of unequal)))
    (h ∙ right_number (equality_of unequal) y (numbers_seen l ts)
    ∙ kind_number (is_truth l || false) (is_number l || true) (by_truth (equality_of unequal) l (held.Number y))
    (by_numbers (equality_of unequal) l ts (held.Number y) us)
    (Ok (by_strings (equality_of unequal) (strings_seen l ts) (strings_seen (held.Number y) us)))
    (ap (λ b. b || false) t) (ap (λ b. b || true) n))

pub right_is_number : (unequal : Bool) (l r : Value) (y : Number) (ts us : List (List ℕ)) (a : Answer Bool) → (is_truth l || is_truth r) ≡ false
    → is_number l ≡ false → r ≡ held.Number y → a ≡ with (numbers_seen l ts) (list_any (λ x. compare_numbers (equality_of unequal) x y))
    → Gives (takes_memory (equality_of unequal) l r) a (by_kind (equality_of unequal) l ts r us)
right_is_number unequal l r y ts us a t n e h =
    let P : Value → Type 0 = λ v. Gives (takes_memory (equality_of unequal) l v) a (by_kind (equality_of unequal) l ts v us) in
    subst P (sym e) (right_case unequal l y ts us a (or_parts (is_truth l) (is_truth r) t).0 n h)
