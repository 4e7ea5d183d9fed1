-- A document with a range of its bytes and the records of that range exchanged (this project's own).
use Rattle.std.specs.Prelude.{ℕ, ◌-◌, ◌++◌, ℤ, pos, ◌-ℤ◌, List, length, take, drop}
use Rattle.vtd_words.specs.Lists.{Lists}
use Rattle.vtd_words.specs.Exchanged.{exchanged, renumbered_lists}

-- bytes with others in the place of a range
abbrev pub with_range : ℕ → ℕ → List ℕ → List ℕ → List ℕ
with_range start end new bytes = take start bytes ++ (new ++ drop end bytes)

-- by how much a count grows
abbrev pub growth : ℕ → ℕ → ℤ
growth new old = pos new -ℤ pos old

-- the words with other records for those from first to past, after which the offsets are moved by the growth of the
-- bytes, and the indexes by that of the records
abbrev pub with_records : ℕ → ℕ → List ℕ → ℤ → Lists → Lists
with_records first past new shift lists =
    renumbered_lists past (growth (length new) (past - first)) (exchanged first past new shift lists)
