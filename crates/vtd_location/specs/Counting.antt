-- What private functions promise: levels that are counted so far.
use Rattle.std.specs.Prelude.{◌≡◌, ℕ, List, length, take}
use Rattle.xml_model.specs.declared.Counts.{Counts}
use Rattle.xml_model.specs.Levels.{CountsLevels, LevelsAtMost}
use Rattle.xml_model.specs.Records.{Record}
use Rattle.vtd_words.specs.Table.{Shows}

-- before record n
pub record Counting (words : List ℕ) (c : Counts) (n : ℕ) : Type 0 where
  pub records : c.records ≡ length words
  pub few : LevelsAtMost n c
  pub levels : (rs : List Record) → Shows words rs → CountsLevels c (take n rs)
