-- What is put in the place of a range (this project's own): what private functions promise.
use Rattle.std.specs.Prelude.{◌≡◌, ℕ, ◌+◌, ◌-◌, ◌<◌, ◌≤◌, ◌^◌, ◌&&◌, ◌==◌, Bool, cond, List, [], ◌∷◌, length}
use Rattle.std.specs.Prelude.{drop, All, Option, Some}
use Rattle.xml_model.specs.Chars.{is_char}
use Rattle.xml_model.specs.Records.{Record, cut_records, depth_at}
use Rattle.xml_model.specs.Tree.{Entry}
use Rattle.vtd_edits.specs.declared.splice.Splice.{Splice}
use Rattle.vtd_edits.specs.declared.splice.Splice.TheVariants as splices
use Rattle.vtd_words.specs.Lists.{Lists}
use Rattle.vtd_words.specs.Exchanged.{CanShift, CanRenumberLists}
use Rattle.vtd_builder.specs.Documents.{IsDoc}
use Rattle.vtd_builder.specs.Exchanges.{growth, with_range, with_records}
use Rattle.vtd_modifier.specs.Rows.{one, set_to}
use Rattle.vtd_modifier.specs.Parts.{part_of}
use Rattle.vtd_patch.specs.declared.change.Change.{Change}

-- the change is the splice that sets a node to a text
abbrev pub IsChange : List ℕ → List ℕ → Entry → Change → Type 0
IsChange bytes text e c = set_to bytes text (part_of bytes e) ≡ one (splices.Replace c.start c.end c.text)

-- its range is one of these bytes
pub record IsIn (bytes : List ℕ) (c : Change) : Type 0 where
  pub order : c.start ≤ c.end
  pub within : c.end ≤ length bytes

-- whether all characters so far and one more are Chars
abbrev pub both : Bool → ℕ → Bool
both so_far c = so_far && is_char c

-- the records of a text of so many bytes that so many elements hold, from a place on; none for an empty one
abbrev pub text_run : ℕ → ℕ → ℕ → List Record
text_run level start n = cond (n == 0) [] (cut_records 5 (depth_at level) start n)

-- a document can have these bytes and words in the place of those of a run
pub record CanExchange (bytes : List ℕ) (lists : Lists) (start stop : ℕ) (text : List ℕ) (first past : ℕ)
    (new : List ℕ) : Type 0 where
  pub range : start ≤ stop
  pub inside : stop ≤ length bytes
  pub order : first ≤ past
  pub within : past ≤ length lists.records
  pub small : length text < 2 ^ 30
  pub few : length new < 2 ^ 30
  pub fewer : length lists.records - (past - first) + length new < 2 ^ 32
  pub offsets : All (CanShift (growth (length text) (stop - start))) (drop past lists.records)
  pub indexes : CanRenumberLists past (growth (length new) (past - first)) lists
  pub document :
      IsDoc (with_range start stop text bytes)
      (with_records first past new (growth (length text) (stop - start)) lists)

-- a change, where there is one splice that replaces a range
abbrev pub IsOnly : List Splice → Option Change → Type 0
IsOnly staged found =
    (start end : ℕ) (text : List ℕ) → staged ≡ splices.Replace start end text ∷ [] →
    found ≡ Some (record { start = start; end = end; text = text })
