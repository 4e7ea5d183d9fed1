-- The number that a spelling stands for, in millionths: this project's own, in place of XPath's floating point.
use Rattle.std.specs.Prelude.{ℕ, ◌+◌, ◌*◌, ◌-◌, ◌/◌, ◌==◌, Bool, cond, not, nat_lt, List, [], ◌∷◌, drop, Result, Ok}
use Rattle.std.specs.Prelude.{Err}
use Rattle.std.specs.List.{list_any}
use Rattle.xpath_tokens.specs.declared.numbers.NumberFault.{NumberFault}
use Rattle.xpath_tokens.specs.declared.numbers.NumberFault.TheVariants.{Fraction, Range}

-- the greatest number, 9007199254740991, in millionths: the limit of whole numbers in XPath's floating point
abbrev pub greatest : ℕ
greatest = 9007199254740991000000

-- the digits before the point
abbrev pub whole_digits : List ℕ → List ℕ
whole_digits [] = []
whole_digits (c ∷ cs) = cond (c == 46) [] (c ∷ whole_digits cs)

-- the digits after the point
abbrev pub places : List ℕ → List ℕ
places [] = []
places (c ∷ cs) = cond (c == 46) cs (places cs)

-- the whole number that digits spell, after the digits of another
abbrev pub spelled : ℕ → List ℕ → ℕ
spelled v [] = v
spelled v (c ∷ cs) = spelled (10 * v + (c - 48)) cs

-- what digits after a point add, where a 1 in the first of them adds a unit, and in each further one a tenth of that
abbrev pub added : ℕ → List ℕ → ℕ
added unit [] = 0
added unit (c ∷ cs) = unit * (c - 48) + added (unit / 10) cs

-- the number in millionths; what is finer adds nothing
abbrev pub millionths : List ℕ → ℕ
millionths t = 1000000 * spelled 0 (whole_digits t) + added 100000 (places t)

-- a digit after the sixth place is not 0
abbrev pub is_finer : List ℕ → Bool
is_finer t = list_any (λ d. not (d == 48)) (drop 6 (places t))

-- Fraction, where the number is no whole number of millionths; else Range, where it is above the greatest
abbrev pub number_value : List ℕ → Result ℕ NumberFault
number_value t =
    cond (is_finer t) (Err Fraction) (cond (nat_lt greatest (millionths t)) (Err Range) (Ok (millionths t)))
