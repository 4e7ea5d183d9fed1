-- Child elements by the levels (this project's own).
use Rattle.std.specs.Prelude.{◌≡◌, ℕ, suc, ◌+◌, ◌-◌, ◌/◌, ◌<◌, ◌≤◌, ◌^◌, true, cond, List, [], ◌∷◌, map, length}
use Rattle.std.specs.Prelude.{drop, nat_lt, slice_index, Option, Some, None}
use Rattle.xml_model.specs.Levels.{child_elements, child_tags, is_tag, level_word, record_level, tags_from}
use Rattle.xml_model.specs.Levels.{AreNested, StepsDown}
use Rattle.xml_model.specs.Nest.{Forest}
use Rattle.xml_model.specs.Records.{Record}
use Rattle.xml_model.specs.Scan.{record_at}
use Rattle.xml_model.specs.Tree.{Entry}
use Rattle.vtd_words.specs.declared.word_vec.Part.{Part}
use Rattle.vtd_words.specs.declared.word_vec.Part.TheVariants.{Level5}
use Rattle.vtd_words.specs.Lists.{Lists, list_of}
use Rattle.vtd_words.specs.Table.{nodes_of, Shows}
use Rattle.vtd_location.specs.Nav.{HasLevels}

-- what is left of the child elements of an element: the record of the next one, if there is one; and of those after it
-- the level that they are of, the position there of the first, and the first record past those that may be one
pub record Remaining : Type 0 where
  pub part : Part
  pub after : ℕ
  pub bound : ℕ
  pub next : Option ℕ

-- the record of an entry: its upper half, but all of it in the fifth level
abbrev pub entry_record : Part → ℕ → ℕ
entry_record Level5 word = word
entry_record _ word = word / 2 ^ 32

-- the records of the entries of a level
abbrev pub entry_records : Part → Lists → List ℕ
entry_records part lists = map (entry_record part) (list_of part lists)

-- the numbers before the first that is not below another
abbrev pub before_bound : ℕ → List ℕ → List ℕ
before_bound bound [] = []
before_bound bound (x ∷ xs) = cond (nat_lt x bound) (x ∷ before_bound bound xs) []

-- the records of the child elements that are left
abbrev pub left_in : Lists → Remaining → List ℕ
left_in lists r = with_next r.next
  where
    with_next : Option ℕ → List ℕ
    with_next None = []
    with_next (Some n) = n ∷ before_bound r.bound (drop r.after (entry_records r.part lists))

-- the records are nested as those of a document are, and the levels are those of the records
pub record IsLeveled (lists : Lists) : Type 0 where
  pub tokens : List Record
  pub shown : Shows lists.records tokens
  pub nested : AreNested tokens
  pub leveled : HasLevels lists tokens

-- a record is a starting tag's of depth 0 to 4
pub record IsShallowTag (lists : Lists) (at : ℕ) : Type 0 where
  pub within : at < length lists.records
  pub tag : (rs : List Record) → Shows lists.records rs → is_tag (record_at at rs) ≡ true
  pub shallow : (rs : List Record) → Shows lists.records rs → (record_at at rs).depth ≤ 4

-- the child elements of an element of a document are told by its first record, and are the tags one deeper among its
-- records
pub record TellsChildren (bytes : List ℕ) (lists : Lists) (nest : Forest) (x : Entry) : Type 0 where
  pub tag : IsShallowTag lists x.index
  pub children : (rs : List Record) → Shows lists.records rs →
      child_tags x.index rs ≡ map (λ e. e.index) (child_elements x (nodes_of bytes nest))

-- how many entries the five levels have
abbrev pub all_entries : Lists → ℕ
all_entries lists =
    length lists.level1 + length lists.level2 + length lists.level3 + length lists.level4 + length lists.level5

-- What private functions promise.

-- the first of numbers, or another
abbrev pub first_of : List ℕ → ℕ → ℕ
first_of [] n = n
first_of (x ∷ xs) n = x

-- the records of the entries of a level never fall
abbrev pub NeverFalls : List ℕ → Type 0
NeverFalls xs = (i j : ℕ) → i ≤ j → j < length xs → slice_index xs i ≤ slice_index xs j

-- an element, and the levels of it and of its child elements
pub record IsAround (lists : Lists) (own deeper : Part) (at : ℕ) : Type 0 where
  pub tokens : List Record
  pub shown : Shows lists.records tokens
  pub few : length tokens < 2 ^ 32
  pub steps : StepsDown 0 tokens
  pub above : ℕ
  pub entries : list_of own lists ≡ map level_word (record_level (suc above) tokens)
  pub halves : (word : ℕ) → entry_record own word ≡ word / 2 ^ 32
  pub children : entry_records deeper lists ≡ tags_from (suc (suc above)) 0 tokens
  pub within : at < length tokens
  pub tag : is_tag (record_at at tokens) ≡ true
  pub depth : (record_at at tokens).depth ≡ suc above

-- so many further reads are enough to search a range
pub record Halves (span now most : ℕ) : Type 0 where
  pub steps : ℕ
  pub range : span < 2 ^ steps
  pub reads : now + steps ≤ most

-- a search for the first of numbers that is not below another, which has come to a range of positions
pub record Searching (xs : List ℕ) (wanted start now low high : ℕ) : Type 0 where
  pub order : low ≤ high
  pub within : high ≤ length xs
  pub below : (i : ℕ) → i < low → slice_index xs i < wanted
  pub above : (i : ℕ) → high ≤ i → i < length xs → wanted ≤ slice_index xs i
  pub reads : (d : ℕ) → length xs < 2 ^ d → Halves (high - low) now (start + d)

-- the first of numbers that is not below another
pub record FirstNotBelow (xs : List ℕ) (wanted at : ℕ) : Type 0 where
  pub within : at ≤ length xs
  pub below : (i : ℕ) → i < at → slice_index xs i < wanted
  pub above : (i : ℕ) → at ≤ i → i < length xs → wanted ≤ slice_index xs i
