-- How a text is normalized, from its first character on.
use Rattle.std.specs.Prelude.{◌≡◌, ◌≢◌, ◌⊎◌, ◌+◌, ◌<◌, ◌≤◌, ℕ, Bool, true, false, List, [], ◌∷◌, ◌++◌, drop, filter}
use Rattle.std.specs.Prelude.{slice_index, take}
use Rattle.xml_model.specs.Chars.{is_space}
use Rattle.xpath_values.specs.Texts.{parts, words, joined, spaced, is_some_text}

-- in a word: the rest of it, and then the other words
abbrev pub in_word : List (List ℕ) → List ℕ
in_word [] = []
in_word (w ∷ ws) = w ++ spaced (filter is_some_text ws)

-- what is left to write: before the first word, in a word, and in the white space after one
abbrev pub left : Bool → Bool → List ℕ → List ℕ
left false gap t = joined (words t)
left true false t = in_word (parts t)
left true true t = spaced (words t)

-- what is due before a character of a word
abbrev pub due : Bool → Bool → List ℕ
due true true = 32 ∷ []
due _ _ = []

-- after the bytes up to place i, in a word before the first: those up to place e stay, and a space may follow
pub record Stays (bytes : List ℕ) (e i : ℕ) : Type 0 where
  pub low : e ≤ i
  pub near : i ≤ e + 1
  pub space : e < i → slice_index bytes e ≡ 32
  pub same : left true false bytes ≡ take e bytes ++ left true false (drop e bytes)

-- a byte before another is no white space, or a space before none
abbrev pub IsSingle : ℕ → ℕ → Type 0
IsSingle b after = (is_space b ≡ false) ⊎ ((b ≡ 32) × (after ≢ 32))

-- the first n bytes are
abbrev pub AreSingle : List ℕ → ℕ → Type 0
AreSingle bytes n = (k : ℕ) → k < n → IsSingle (slice_index bytes k) (slice_index bytes (k + 1))
