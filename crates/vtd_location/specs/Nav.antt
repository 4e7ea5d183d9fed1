-- Documents that no check refuses, with their records and levels (this project's own).
use Rattle.std.specs.Prelude.{◌≡◌, ℕ, ◌<◌, ◌^◌, List, map, length}
use Rattle.xml_model.specs.Items.{first_place}
use Rattle.xml_model.specs.Levels.{Levels, levels}
use Rattle.xml_model.specs.Nest.{Forest}
use Rattle.xml_model.specs.Records.{Record, records, word}
use Rattle.xml_model.specs.Accepted.{Accepted}
use Rattle.vtd_words.specs.Lists.{Lists}

-- the levels among the lists of words
abbrev pub levels_in : Lists → Levels
levels_in lists = record {
  level1 = lists.level1;
  level2 = lists.level2;
  level3 = lists.level3;
  level4 = lists.level4;
  level5 = lists.level5;
}

-- the levels are those of records
abbrev pub HasLevels : Lists → List Record → Type 0
HasLevels lists rs = levels_in lists ≡ levels rs

-- the nest of a document that is accepted whole, by all eight layers, whose records the words are, with their levels
pub record IsNavOf (bytes : List ℕ) (lists : Lists) (nest : Forest) : Type 0 where
  pub accepted : Accepted 8 bytes nest
  pub recorded : lists.records ≡ map word (records nest (first_place bytes))
  pub leveled : HasLevels lists (records nest (first_place bytes))

-- a document of fewer than 2 to the power 30 bytes that is accepted whole, beside words that are its records and levels
pub record IsNav (bytes : List ℕ) (lists : Lists) : Type 0 where
  pub few : length bytes < 2 ^ 30
  pub nest : Forest
  pub shown : IsNavOf bytes lists nest
