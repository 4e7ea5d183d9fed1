-- Comparisons as they are made: over what is held, beside the string-values of its nodes.
use Rattle.std.specs.Prelude.{ℕ, Bool, true, false, cond, ◌||◌, ◌&&◌, List, [], ◌∷◌, bytes_eq, Ok}
use Rattle.xpath_tokens.specs.declared.Comparison.{Comparison}
use Rattle.xpath_tokens.specs.declared.Comparison.TheVariants.{Equal, Unequal}
use Rattle.xpath_values.specs.declared.Number.{Number}
use Rattle.xpath_values.specs.declared.Value.{Value}
use Rattle.xpath_values.specs.declared.Value.TheVariants as held
use Rattle.xpath_values.specs.Answers.{Answer, and_then, with, each}
use Rattle.xpath_values.specs.Numbers.{compare_numbers, number_of_text}
use Rattle.xpath_values.specs.Seen.{string_seen, number_seen, truth_seen}
use Rattle.xpath_values.specs.Values.{by_equality, is_equality, is_some_list, same_truth, some_pair}

abbrev pub is_truth : Value → Bool
is_truth (held.Truth b) = true
is_truth _ = false

abbrev pub is_number : Value → Bool
is_number (held.Number x) = true
is_number _ = false

abbrev pub is_nodes : Value → Bool
is_nodes (held.Nodes xs) = true
is_nodes _ = false

abbrev pub is_equal : Comparison → Bool
is_equal Equal = true
is_equal _ = false

-- two node-sets are compared by =
abbrev pub takes_memory : Comparison → Value → Value → Bool
takes_memory how x y = is_equal how && (is_nodes x && is_nodes y)

-- a node-set beside a boolean is compared as a boolean
abbrev pub beside : Value → Value → Value
beside (held.Truth b) (held.Nodes xs) = held.Truth (is_some_list xs)
beside _ x = x

abbrev pub strings_seen : Value → List (List ℕ) → List (List ℕ)
strings_seen (held.Nodes xs) ts = ts
strings_seen x ts = string_seen x ts ∷ []

abbrev pub numbers_seen : Value → List (List ℕ) → Answer (List Number)
numbers_seen (held.Nodes xs) ts = each number_of_text ts
numbers_seen x ts = with (number_seen x ts) (λ n. n ∷ [])

abbrev pub by_numbers : Comparison → Value → List (List ℕ) → Value → List (List ℕ) → Answer Bool
by_numbers how x ts y us =
    and_then (numbers_seen x ts) (λ xs. with (numbers_seen y us) (λ ys. some_pair (compare_numbers how) xs ys))

abbrev pub by_strings : Comparison → List (List ℕ) → List (List ℕ) → Bool
by_strings how ts us = some_pair (λ s t. by_equality how (bytes_eq s t)) ts us

abbrev pub by_kind : Comparison → Value → List (List ℕ) → Value → List (List ℕ) → Answer Bool
by_kind how x ts y us =
    cond (is_truth x || is_truth y) (Ok (by_equality how (same_truth (truth_seen x) (truth_seen y))))
    (cond (is_number x || is_number y) (by_numbers how x ts y us)
    (Ok (by_strings how (strings_seen x ts) (strings_seen y us))))

abbrev pub compared : Comparison → Value → List (List ℕ) → Value → List (List ℕ) → Answer Bool
compared how x ts y us =
    cond (is_equality how) (by_kind how x ts y us) (by_numbers how (beside y x) ts (beside x y) us)

-- = or !=
abbrev pub equality_of : Bool → Comparison
equality_of true = Unequal
equality_of false = Equal
