-- How a text is translated, and a language compared, from the first character on.
use Rattle.std.specs.Prelude.{◌≡◌, ◌≤◌, ◌<◌, ℕ, Bool, true, false, cond, ◌&&◌, ◌==◌, List, [], ◌∷◌, Option, Some, None}
use Rattle.std.specs.Prelude.{option_to_list}
use Rattle.std.specs.Char.{eq_ignore_ascii_case}

-- what becomes of a character, by the two texts read side by side
abbrev pub becomes : List ℕ → List ℕ → ℕ → List ℕ
becomes [] to c = c ∷ []
becomes (d ∷ from) [] c = cond (d == c) [] (becomes from [] c)
becomes (d ∷ from) (e ∷ to) c = cond (d == c) (e ∷ []) (becomes from to c)

-- a change of bytes is what becomes of each character of ASCII, and every other byte stays
pub record IsBytewise (from to : List ℕ) (change : ℕ → ℕ) : Type 0 where
  pub changed : (c : ℕ) → c < 128 → becomes from to c ≡ change c ∷ []
  pub ascii : (c : ℕ) → c < 128 → change c < 128
  pub others : (c : ℕ) → 128 ≤ c → c < 256 → change c ≡ c

-- one byte becomes another
abbrev pub swap : ℕ → ℕ → ℕ → ℕ
swap from to b = cond (from == b) to b

-- what is noted of a character: another one or none, and where nothing is noted, this
abbrev pub noted : Option (Option ℕ) → List ℕ → List ℕ
noted None other = other
noted (Some o) other = option_to_list o

-- what follows the name of a language in one of its kinds: nothing, or a hyphen
abbrev pub goes_on : List ℕ → Bool
goes_on [] = true
goes_on (c ∷ cs) = c == 45

abbrev pub agrees : List ℕ → List ℕ → Bool
agrees value [] = goes_on value
agrees [] (d ∷ language) = false
agrees (c ∷ value) (d ∷ language) = eq_ignore_ascii_case c d && agrees value language
