-- What private functions promise: levels that are compared with stored ones, by one scan of the records.
use Rattle.std.specs.Prelude.{◌≡◌, ℕ, ◌+◌, ◌≤◌, Bool, ◌&&◌, ◌==◌, nat_lt, List}
use Rattle.std.specs.Prelude.{[], ◌∷◌, length, drop, slice_index, Option, Some, None}
use Rattle.xml_model.specs.Records.{Record}
use Rattle.xml_model.specs.Levels.{Levels, level_word, no_child, tags_from}
use Rattle.xml_model.specs.LevelScan.{child_of, level_from}
use Rattle.vtd_words.specs.Table.{Shows}
use Rattle.vtd_location.specs.Differences.{differ, or_differ}
use Rattle.vtd_location.specs.declared.checking.Scan.{Scan}
use Rattle.vtd_location.specs.declared.checking.Lanes.{Lanes}
use Rattle.vtd_location.specs.declared.checking.CacheDiff.{CacheDiff}

-- whether a word is stored at a place
abbrev pub stored_at : List ℕ → ℕ → ℕ → Bool
stored_at stored at word = nat_lt at (length stored) && slice_index stored at == word

-- an entry: the index of a record, and the position of its first child
abbrev pub entry_word : ℕ → ℕ → ℕ
entry_word at child = level_word (at, child)

-- an entry that waited, and others
abbrev pub with_entry : Option ℕ → ℕ → List ℕ → List ℕ
with_entry None child ws = ws
with_entry (Some tag) child ws = entry_word tag child ∷ ws

-- the entries for the records from n on, after a tag whose entry still waits
abbrev pub left_of : Option ℕ → ℕ → ℕ → ℕ → List Record → List ℕ
left_of waiting k c n rs = with_entry waiting (child_of k c rs) (level_from k c n rs)

-- the first difference: one that was found, or one from a place on
abbrev pub found_or : List ℕ → Option ℕ → ℕ → List ℕ → Option ℕ
found_or stored (Some at) settled ws = Some at
found_or stored None settled ws = differ settled (drop settled stored) ws

-- what a scan will answer
abbrev pub value_of : List ℕ → ℕ → Scan → ℕ → List Record → Option ℕ
value_of stored k s at rest = found_or stored s.found s.settled (left_of s.waiting k s.deeper at rest)

-- what a last level's scan will answer
abbrev pub last_of : List ℕ → ℕ → Scan → ℕ → List Record → Option ℕ
last_of stored k s at rest = found_or stored s.found s.settled (tags_from k at rest)

-- how far a scan has come before record n
pub record ScanTo (s : Scan) (n : ℕ) : Type 0 where
  pub settled : s.settled ≤ n
  pub deeper : s.deeper ≤ n

pub record LanesTo (l : Lanes) (n : ℕ) : Type 0 where
  pub one : ScanTo l.one n
  pub two : ScanTo l.two n
  pub three : ScanTo l.three n
  pub four : ScanTo l.four n
  pub five : l.five.settled ≤ n
  pub last : l.five.waiting ≡ None

-- a scan that has passed a record will answer what it would have
abbrev pub PassesOn : ℕ → List ℕ → Scan → ℕ → Record → Scan → Type 0
PassesOn k stored s at r t = (ws : List Record) → value_of stored k t (at + 1) ws ≡ value_of stored k s at (r ∷ ws)

abbrev pub PassesOnLast : ℕ → List ℕ → Scan → ℕ → Record → Scan → Type 0
PassesOnLast k stored s at r t = (ws : List Record) → last_of stored k t (at + 1) ws ≡ last_of stored k s at (r ∷ ws)

-- of the records that the words show
pub record ScanningOf (stored : Levels) (rs : List Record) (l : Lanes) (n : ℕ) : Type 0 where
  pub one : value_of stored.level1 1 l.one n (drop n rs) ≡ differ 0 stored.level1 (level_from 1 0 0 rs)
  pub two : value_of stored.level2 2 l.two n (drop n rs) ≡ differ 0 stored.level2 (level_from 2 0 0 rs)
  pub three : value_of stored.level3 3 l.three n (drop n rs) ≡ differ 0 stored.level3 (level_from 3 0 0 rs)
  pub four : value_of stored.level4 4 l.four n (drop n rs) ≡ differ 0 stored.level4 (level_from 4 0 0 rs)
  pub five : last_of stored.level5 5 l.five n (drop n rs) ≡ differ 0 stored.level5 (tags_from 5 0 rs)

-- the scans will answer, before record n, what comparing each level would
pub record Scanning (stored : Levels) (records : List ℕ) (l : Lanes) (n : ℕ) : Type 0 where
  pub to : LanesTo l n
  pub each : (rs : List Record) → Shows records rs → ScanningOf stored rs l n

-- what a scan answers after the last record
abbrev pub end_of : List ℕ → Scan → Option ℕ
end_of stored s = found_or stored s.found s.settled (with_entry s.waiting no_child [])

-- the first difference that the scans answer
abbrev pub difference_of : Levels → Lanes → Option CacheDiff
difference_of stored l =
    or_differ 1 (end_of stored.level1 l.one)
    (or_differ 2 (end_of stored.level2 l.two)
    (or_differ 3 (end_of stored.level3 l.three)
    (or_differ 4 (end_of stored.level4 l.four)
    (or_differ 5 (end_of stored.level5 l.five) None))))
