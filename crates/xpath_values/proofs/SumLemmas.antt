-- A sum step by step is the sum of the numbers.
use Rattle.std.proofs.Common.{◌≡◌, Bool, true, false, ◌||◌, List, [], ◌∷◌, Ok, refl, ◌∙◌, ap}
use Rattle.std.specs.Prelude.{fold}
use Rattle.std.specs.List.{list_any}
use Rattle.xpath_values.specs.declared.Number.{Number}
use Rattle.xpath_values.specs.declared.sums.Sum.{Sum}
use Rattle.xpath_values.specs.Answers.{Answer}
use Rattle.xpath_values.specs.Numbers.{is_nan, plus, add_all, sum_of, counted}
use Rattle.xpath_values.specs.Sums.{sum_start, sum_next, sum_value}

abbrev state : Bool → Answer Number → Sum
state b t = record { nan = b; total = t }

or_false : (a : Bool) → a ≡ (a || false)
or_false true = refl
or_false false = refl

or_assoc : (a b c : Bool) → ((a || b) || c) ≡ (a || (b || c))
or_assoc true b c = refl
or_assoc false b c = refl

added : (b : Bool) (t : Answer Number) (xs : List Number) → fold sum_next (state b t) xs ≡ state (b || list_any is_nan xs) (add_all t xs)
added b t [] = ap (λ c. state c t) (or_false b)
added b t (x ∷ xs) =
    added (b || is_nan x) (plus t x) xs
    ∙ ap (λ c. state c (add_all (plus t x) xs)) (or_assoc b (is_nan x) (list_any is_nan xs))

pub sum_found : (xs : List Number) → sum_value (fold sum_next sum_start xs) ≡ sum_of xs
sum_found xs = ap sum_value (added false (Ok (counted 0)) xs)
