-- A number's text as it is written, place by place.
use Rattle.std.specs.Prelude.{ℕ, ◌*◌, ◌%◌, ◌==◌, Bool, true, false, cond, List, [], ◌∷◌, ◌++◌}
use Rattle.xpath_values.specs.Numbers.{digit_at}

-- the digit with a unit, where it or one after it is not 0
abbrev pub place : ℕ → ℕ → List ℕ
place r unit = cond (r % (10 * unit) == 0) [] (digit_at r unit ∷ [])

-- the six places, those left out that are 0 to the end
abbrev pub places : ℕ → List ℕ
places r = ((((place r 100000 ++ place r 10000) ++ place r 1000) ++ place r 100) ++ place r 10) ++ place r 1

-- the same, after a point where there are some
abbrev pub point_and_places : ℕ → List ℕ
point_and_places r = cond (r == 0) [] ((46 ∷ []) ++ places r)

abbrev pub minus : Bool → List ℕ
minus true = 45 ∷ []
minus false = []
