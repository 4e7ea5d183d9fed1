-- Words that are offered to a sink one after another (this project's own).
use Rattle.std.specs.Prelude.{◌≡◌, ℕ, suc, ◌+◌, ◌<◌, ◌^◌, Bool, true, false, cond, List, [], ◌∷◌, ◌++◌, map, length}
use Rattle.std.specs.Prelude.{take, slice_index, Result, Ok, Err}
use Rattle.std.specs.List.{AllByRecursion}
use Rattle.xml_model.specs.Items.{first_place}
use Rattle.xml_model.specs.Nest.{Forest}
use Rattle.xml_model.specs.Records.{Record, records, word}
use Rattle.vtd_words.specs.Packed.{fits}
use Rattle.vtd_words.specs.Table.{parts_of_record}

-- the words of the records of a nest of the bytes
abbrev pub record_words : List ℕ → Forest → List ℕ
record_words bytes nest = map word (records nest (first_place bytes))

-- the word at k is the first that the test refuses, each after what was taken at first and the words before it
pub record IsFirstRefused (refuses : List ℕ → ℕ → Bool) (taken words : List ℕ) (k : ℕ) : Type 0 where
  pub within : k < length words
  pub refused : refuses (taken ++ take k words) (slice_index words k) ≡ true
  pub before : (j : ℕ) → j < k → refuses (taken ++ take j words) (slice_index words j) ≡ false

-- what was taken, and the answer: how many words there were so far, or the number of the word that was refused
pub record Outcome : Type 0 where
  pub taken : List ℕ
  pub answer : Result ℕ ℕ

abbrev pub outcome : List ℕ → Result ℕ ℕ → Outcome
outcome taken answer = record { taken = taken; answer = answer }

-- the words are offered in order, up to the first that the test refuses; so many words were there before
abbrev pub offer : (List ℕ → ℕ → Bool) → List ℕ → ℕ → List ℕ → Outcome
offer refuses taken count [] = outcome taken (Ok count)
offer refuses taken count (w ∷ ws) = cond (refuses taken w) (outcome taken (Err count)) (offer refuses (taken
    ++ w ∷ []) (suc count) ws)

-- each record fits its word, and all of them can be counted
pub record CanOffer (count : ℕ) (tokens : List Record) : Type 0 where
  pub fit : AllByRecursion (λ r. fits (parts_of_record r) ≡ true) tokens
  pub counted : count + length tokens < 2 ^ 32
