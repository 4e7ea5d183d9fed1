-- A number that is written in few digits.
use Rattle.std.specs.Prelude.{◌≡◌, ℕ, ◌<◌, Bool, true, false, List, ◌∷◌}
use Rattle.std.specs.List.{list_all}
use Rattle.xpath_tokens.specs.Numbers.{spelled}
use Rattle.xpath_tokens.specs.Tokens.{is_decimal_digit}

-- the text is digits, and spells a number of at most 15 of them
pub record HasWhole (t : List ℕ) (n : ℕ) : Type 0 where
  pub digits : list_all is_decimal_digit t ≡ true
  pub value : n ≡ spelled 0 t
  pub small : n < 1000000000000000

-- a text with a minus before it, or without
abbrev pub signed_digits : Bool → List ℕ → List ℕ
signed_digits true t = 45 ∷ t
signed_digits false t = t
