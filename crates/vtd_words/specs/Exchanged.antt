-- Records in place of others, and lists whose numbers are moved (this project's own).
use Rattle.std.specs.Prelude.{ℕ, suc, ◌+◌, ◌-◌, ◌*◌, ◌/◌, ◌%◌, ◌^◌, ◌<◌, ◌≤◌, ℤ, pos, negsuc, cond, nat_le}
use Rattle.std.specs.Prelude.{List, ◌++◌, map, take, drop, All}
use Rattle.xml_model.specs.Records.{Record}
use Rattle.vtd_words.specs.Lists.{Lists, Room}

-- a number moved up or down
abbrev pub moved_by : ℤ → ℕ → ℕ
moved_by (pos n) x = x + n
moved_by (negsuc n) x = x - suc n

-- the moved number stays from 0 to below a limit
abbrev pub CanMove : ℤ → ℕ → ℕ → Type 0
CanMove (pos n) limit x = x + n < limit
CanMove (negsuc n) limit x = suc n ≤ x

-- the offset of a record, the low 30 bits of its word, stays within 30 bits when it is moved
abbrev pub CanShift : ℤ → ℕ → Type 0
CanShift by word = CanMove by (2 ^ 30) (word % 2 ^ 30)

-- an index of a record, moved where it is at least another
abbrev pub renumbered : ℕ → ℤ → ℕ → ℕ
renumbered from by index = cond (nat_le from index) (moved_by by index) index

abbrev pub CanRenumber : ℕ → ℤ → ℕ → Type 0
CanRenumber from by index = from ≤ index → CanMove by (2 ^ 32) index

-- the same in an entry of the first four levels, whose upper half is the index
abbrev pub renumbered_pair : ℕ → ℤ → ℕ → ℕ
renumbered_pair from by entry = renumbered from by (entry / 2 ^ 32) * 2 ^ 32 + entry % 2 ^ 32

abbrev pub CanRenumberPair : ℕ → ℤ → ℕ → Type 0
CanRenumberPair from by entry = CanRenumber from by (entry / 2 ^ 32)

-- the records from start to end are others, and those after them have their offsets moved
abbrev pub exchanged : ℕ → ℕ → List ℕ → ℤ → Lists → Lists
exchanged start end new shift lists =
    record lists { records = take start lists.records ++ (new ++ map (moved_by shift) (drop end lists.records)) }

abbrev pub exchanged_room : ℕ → ℕ → ℕ → Room → Room
exchanged_room start end count room = record room { records = room.records + (end - start) - count }

abbrev pub renumbered_lists : ℕ → ℤ → Lists → Lists
renumbered_lists from by lists = record lists {
  level1 = map (renumbered_pair from by) lists.level1;
  level2 = map (renumbered_pair from by) lists.level2;
  level3 = map (renumbered_pair from by) lists.level3;
  level4 = map (renumbered_pair from by) lists.level4;
  level5 = map (renumbered from by) lists.level5;
}

pub record CanRenumberLists (from : ℕ) (by : ℤ) (lists : Lists) : Type 0 where
  pub level1 : All (CanRenumberPair from by) lists.level1
  pub level2 : All (CanRenumberPair from by) lists.level2
  pub level3 : All (CanRenumberPair from by) lists.level3
  pub level4 : All (CanRenumberPair from by) lists.level4
  pub level5 : All (CanRenumber from by) lists.level5

-- a record with another offset
abbrev pub with_offset : ℕ → Record → Record
with_offset offset t = record t { offset = offset }
