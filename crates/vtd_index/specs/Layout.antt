-- The index files of a document and its words, of two versions (this project's own).
use Rattle.std.specs.Prelude.{ℕ, ◌+◌, ◌-◌, ◌*◌, ◌/◌, List, [], ◌∷◌, length, replicate, codes}
use Rattle.std.specs.List.{concat}
use Rattle.xml_model.specs.Levels.{LevelsOne}
use Rattle.vtd_words.specs.Lists.{Lists}
use Rattle.vtd_words.specs.Numbers.{number_bytes, bytes_of}

-- the least multiple of 8 from a number on
abbrev pub padded : ℕ → ℕ
padded n = (n + 7) / 8 * 8

-- The index file of bytes and words. Numbers have their highest byte first: the lengths have 4 bytes, and so has a word
-- of level 5; any other word has 8.
unfoldable pub file_of : List ℕ → Lists → List ℕ
file_of bytes words = concat (
    codes "VTDIDX02"
    ∷ number_bytes 4 (length bytes)
    ∷ number_bytes 4 (length words.records)
    ∷ number_bytes 4 (length words.level1)
    ∷ number_bytes 4 (length words.level2)
    ∷ number_bytes 4 (length words.level3)
    ∷ number_bytes 4 (length words.level4)
    ∷ number_bytes 4 (length words.level5)
    ∷ replicate 4 0
    ∷ bytes
    ∷ replicate (padded (length bytes) - length bytes) 0
    ∷ bytes_of 8 words.records
    ∷ bytes_of 8 words.level1
    ∷ bytes_of 8 words.level2
    ∷ bytes_of 8 words.level3
    ∷ bytes_of 8 words.level4
    ∷ bytes_of 4 words.level5
    ∷ [])

-- The file of the first version, of bytes, records and three levels: the lengths have 4 bytes, and so has a word of the
-- third level; any other word has 8.
unfoldable pub file_one : List ℕ → List ℕ → LevelsOne → List ℕ
file_one bytes records levels = concat (
    codes "VTDIDX01"
    ∷ number_bytes 4 (length bytes)
    ∷ number_bytes 4 (length records)
    ∷ number_bytes 4 (length levels.level1)
    ∷ number_bytes 4 (length levels.level2)
    ∷ number_bytes 4 (length levels.level3)
    ∷ replicate 4 0
    ∷ bytes
    ∷ replicate (padded (length bytes) - length bytes) 0
    ∷ bytes_of 8 records
    ∷ bytes_of 8 levels.level1
    ∷ bytes_of 8 levels.level2
    ∷ bytes_of 4 levels.level3
    ∷ [])
