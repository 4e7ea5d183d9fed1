-- Stored records that are compared with those of a document (this project's own): what a private sink refuses.
use Rattle.std.specs.Prelude.{ℕ, Bool, not, ◌&&◌, ◌==◌, nat_lt, List, length, slice_index}

-- a word is not the stored one after those that were taken
abbrev pub is_other : List ℕ → List ℕ → ℕ → Bool
is_other stored taken word =
    not (nat_lt (length taken) (length stored) && slice_index stored (length taken) == word)
