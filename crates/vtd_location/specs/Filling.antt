-- What filling levels asks, and what its private functions promise.
use Rattle.std.specs.Prelude.{◌≡◌, ℕ, suc, ◌+◌, ◌-◌, ◌<◌, ◌≤◌, ◌^◌, cond, ◌==◌, List}
use Rattle.std.specs.Prelude.{[], ◌∷◌, ◌++◌, length, drop, Option, Some, None}
use Rattle.xml_model.specs.Records.{Record}
use Rattle.xml_model.specs.Levels.{no_child, tags_from}
use Rattle.xml_model.specs.LevelScan.{level_from}
use Rattle.vtd_words.specs.Lists.{Lists, Growing}
use Rattle.vtd_words.specs.Table.{Shows}
use Rattle.vtd_location.specs.Scanning.{entry_word, left_of}
use Rattle.vtd_location.specs.declared.filling.Waiting.{Waiting}

-- a list of words with so many words as there are tags of a depth, or room for the others
abbrev pub HasRoomFor : ℕ → List Record → List ℕ → ℕ → Type 0
HasRoomFor k rs words room = length (tags_from k 0 rs) ≤ length words + room

-- there is room for the levels of records
pub record HasLevelRoom (rs : List Record) (g : Growing) : Type 0 where
  pub level1 : HasRoomFor 1 rs g.lists.level1 g.room.level1
  pub level2 : HasRoomFor 2 rs g.lists.level2 g.room.level2
  pub level3 : HasRoomFor 3 rs g.lists.level3 g.room.level3
  pub level4 : HasRoomFor 4 rs g.lists.level4 g.room.level4
  pub level5 : HasRoomFor 5 rs g.lists.level5 g.room.level5

-- words of records, with empty levels and room for those of the records
pub record CanFill (g : Growing) : Type 0 where
  pub tokens : List Record
  pub shown : Shows g.lists.records tokens
  pub few : length g.lists.records < 2 ^ 32 - 1
  pub level1 : g.lists.level1 ≡ []
  pub level2 : g.lists.level2 ≡ []
  pub level3 : g.lists.level3 ≡ []
  pub level4 : g.lists.level4 ≡ []
  pub level5 : g.lists.level5 ≡ []
  pub room : HasLevelRoom tokens g

-- a level with the entry of the tag that waits, if it is of the level, now that the next tag's depth is known
abbrev pub settle_level : ℕ → Option Waiting → ℕ → List ℕ → ℕ → List ℕ
settle_level k None depth mine deeper = mine
settle_level k (Some w) depth mine deeper =
    cond (w.level == k) (mine ++ entry_word w.at (cond (depth == suc k) deeper no_child) ∷ []) mine

-- the same in the last level
abbrev pub settle_last : ℕ → Option Waiting → List ℕ → List ℕ
settle_last k None mine = mine
settle_last k (Some w) mine = cond (w.level == k) (mine ++ w.at ∷ []) mine

-- in all levels
abbrev pub settled : Option Waiting → ℕ → Lists → Lists
settled w depth lists = record {
  records = lists.records;
  level1 = settle_level 1 w depth lists.level1 (length lists.level2);
  level2 = settle_level 2 w depth lists.level2 (length lists.level3);
  level3 = settle_level 3 w depth lists.level3 (length lists.level4);
  level4 = settle_level 4 w depth lists.level4 (length lists.level5);
  level5 = settle_last 5 w lists.level5;
}

-- the tag that waits, if it is of a level
abbrev pub here : ℕ → Option Waiting → Option ℕ
here k None = None
here k (Some w) = cond (w.level == k) (Some w.at) None

-- one for the tag that waits, if it is of a level
abbrev pub one_waits : ℕ → Option Waiting → ℕ
one_waits k None = 0
one_waits k (Some w) = cond (w.level == k) 1 0

-- what waits is of a level that is kept, before record n
abbrev pub waits_in : ℕ → Option Waiting → Type 0
waits_in n None = Unit {0}
waits_in n (Some w) = (1 ≤ w.level) × (w.level ≤ 5) × (w.at < n)

-- the tag at a record waits, if it is of a level that is kept
pub record Waits (at depth : ℕ) (w : Option Waiting) : Type 0 where
  pub kept : waits_in (suc at) w
  pub tag : (k : ℕ) → 1 ≤ k → k ≤ 5 → here k w ≡ cond (depth == k) (Some at) None
  pub one : (k : ℕ) → 1 ≤ k → k ≤ 5 → one_waits k w ≡ cond (depth == k) 1 0

-- a level can take a word, if a tag waits that is of the level
pub record CanTake (k : ℕ) (w : Option Waiting) (mine : List ℕ) (spare : ℕ) : Type 0 where
  pub room : one_waits k w ≤ spare
  pub few : length mine < 2 ^ 32 - 1

-- the tag that waits can be settled
pub record CanSettle (w : Option Waiting) (g : Growing) : Type 0 where
  pub kept : waits_in (2 ^ 32) w
  pub one : CanTake 1 w g.lists.level1 g.room.level1
  pub two : CanTake 2 w g.lists.level2 g.room.level2
  pub three : CanTake 3 w g.lists.level3 g.room.level3
  pub four : CanTake 4 w g.lists.level4 g.room.level4
  pub five : CanTake 5 w g.lists.level5 g.room.level5

-- a level that is filled so far
abbrev pub Fills : ℕ → List Record → Option Waiting → ℕ → List ℕ → ℕ → Type 0
Fills k rs w n mine deeper =
    mine ++ left_of (here k w) k (deeper + one_waits (suc k) w) n (drop n rs) ≡ level_from k 0 0 rs

-- the last level
abbrev pub FillsLast : ℕ → List Record → Option Waiting → ℕ → List ℕ → Type 0
FillsLast k rs w n mine = settle_last k w mine ++ tags_from k n (drop n rs) ≡ tags_from k 0 rs

-- all levels before record n
pub record Filled (rs : List Record) (words : List ℕ) (g : Growing) (w : Option Waiting) (n : ℕ) : Type 0 where
  pub records : g.lists.records ≡ words
  pub waits : waits_in n w
  pub one : Fills 1 rs w n g.lists.level1 (length g.lists.level2)
  pub two : Fills 2 rs w n g.lists.level2 (length g.lists.level3)
  pub three : Fills 3 rs w n g.lists.level3 (length g.lists.level4)
  pub four : Fills 4 rs w n g.lists.level4 (length g.lists.level5)
  pub five : FillsLast 5 rs w n g.lists.level5
  pub room : HasLevelRoom rs g

-- the records that the words show, and how far their levels are filled
pub record FilledTo (words : List ℕ) (g : Growing) (w : Option Waiting) (n : ℕ) : Type 0 where
  pub tokens : List Record
  pub shown : Shows words tokens
  pub few : length words < 2 ^ 32 - 1
  pub filled : Filled tokens words g w n
