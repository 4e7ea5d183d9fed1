-- What private functions promise: the three levels of the first version that are compared with stored ones, by one scan
-- of the records.
use Rattle.std.specs.Prelude.{◌≡◌, ℕ, ◌≤◌, List, drop, Option, None}
use Rattle.xml_model.specs.Records.{Record}
use Rattle.xml_model.specs.Levels.{LevelsOne, tags_from}
use Rattle.xml_model.specs.LevelScan.{level_from}
use Rattle.vtd_words.specs.Lists.{Lists}
use Rattle.vtd_words.specs.Table.{Shows}
use Rattle.vtd_location.specs.Differences.{differ, or_differ}
use Rattle.vtd_location.specs.Scanning.{end_of, last_of, value_of, ScanTo}
use Rattle.vtd_location.specs.declared.checking_one.LanesOne.{LanesOne}
use Rattle.vtd_location.specs.declared.checking.CacheDiff.{CacheDiff}

-- the three levels among lists of words, the last in place of the fifth, whose entries are indexes too
abbrev pub levels_one_in : Lists → LevelsOne
levels_one_in lists = record { level1 = lists.level1; level2 = lists.level2; level3 = lists.level5 }

-- how far the scans have come before record n
pub record LanesOneTo (l : LanesOne) (n : ℕ) : Type 0 where
  pub one : ScanTo l.one n
  pub two : ScanTo l.two n
  pub three : l.three.settled ≤ n
  pub last : l.three.waiting ≡ None

-- of the records that the words show
pub record ScanningOneOf (stored : LevelsOne) (rs : List Record) (l : LanesOne) (n : ℕ) : Type 0 where
  pub one : value_of stored.level1 1 l.one n (drop n rs) ≡ differ 0 stored.level1 (level_from 1 0 0 rs)
  pub two : value_of stored.level2 2 l.two n (drop n rs) ≡ differ 0 stored.level2 (level_from 2 0 0 rs)
  pub three : last_of stored.level3 3 l.three n (drop n rs) ≡ differ 0 stored.level3 (tags_from 3 0 rs)

-- the scans will answer, before record n, what comparing each level would
pub record ScanningOne (stored : LevelsOne) (records : List ℕ) (l : LanesOne) (n : ℕ) : Type 0 where
  pub to : LanesOneTo l n
  pub each : (rs : List Record) → Shows records rs → ScanningOneOf stored rs l n

-- the first difference that the scans answer
abbrev pub difference_of_one : LevelsOne → LanesOne → Option CacheDiff
difference_of_one stored l =
    or_differ 1 (end_of stored.level1 l.one)
    (or_differ 2 (end_of stored.level2 l.two)
    (or_differ 3 (end_of stored.level3 l.three) None))
