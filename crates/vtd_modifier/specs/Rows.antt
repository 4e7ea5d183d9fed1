-- Which splices an operation makes of a node, by its parts in the document (this project's own).
use Rattle.std.specs.Prelude.{◌≡◌, ℕ, ◌+◌, ◌-◌, ◌<◌, ◌≤◌, ◌^◌, Bool, true, false, cond, List, [], ◌∷◌, ◌++◌}
use Rattle.std.specs.Prelude.{take, drop, codes, Option, Some, None}
use Rattle.vtd_edits.specs.declared.splice.Splice.{Splice}
use Rattle.vtd_edits.specs.declared.splice.Splice.TheVariants as splices
use Rattle.xml_model.specs.declared.Span.{Span}
use Rattle.vtd_modifier.specs.declared.operation.Operation.{Operation}
use Rattle.vtd_modifier.specs.declared.operation.Operation.TheVariants as operations
use Rattle.vtd_modifier.specs.declared.parts.Part.{Part}
use Rattle.vtd_modifier.specs.declared.parts.Part.TheVariants as parts
use Rattle.vtd_cursor.specs.declared.spans.Tags.{Tags}
use Rattle.vtd_modifier.specs.declared.escaping.Escape.TheVariants as escapes
use Rattle.vtd_modifier.specs.Escapes.{escaped}

-- the bytes of a span
abbrev pub bytes_at : List ℕ → Span → List ℕ
bytes_at bytes span = take (span.end - span.start) (drop span.start bytes)

abbrev pub one : Splice → Option (List Splice)
one x = Some (x ∷ [])

abbrev pub replaced_by : List ℕ → Span → Option (List Splice)
replaced_by text span = one (splices.Replace span.start span.end text)

-- an empty tag that becomes a start tag, a text, and an end tag
abbrev pub opened : List ℕ → Tags → List ℕ → Splice
opened bytes tags text =
    splices.Replace (tags.head_end - 2) tags.head_end
    (codes ">" ++ text ++ codes "</" ++ bytes_at bytes tags.name ++ codes ">")

-- the name in the end tag of an element
abbrev pub end_name : Tags → Span
end_name tags = record {
  start = tags.tail_start + 2;
  end = tags.tail_start + 2 + (tags.name.end - tags.name.start);
}

abbrev pub removed : Part → Option (List Splice)
removed parts.Root = None
removed (parts.Element span tags) = replaced_by [] span
removed (parts.Attribute before span name value quote) = one (splices.Replace before span.end [])
removed (parts.Text span) = replaced_by [] span
removed (parts.Comment span) = replaced_by [] span
removed (parts.Instruction span target) = replaced_by [] span

abbrev pub replaced : List ℕ → Part → Option (List Splice)
replaced text parts.Root = None
replaced text (parts.Element span tags) = replaced_by text span
replaced text (parts.Attribute before span name value quote) = replaced_by text span
replaced text (parts.Text span) = replaced_by text span
replaced text (parts.Comment span) = replaced_by text span
replaced text (parts.Instruction span target) = replaced_by text span

abbrev pub put_before : List ℕ → Part → Option (List Splice)
put_before text parts.Root = None
put_before text (parts.Element span tags) = one (splices.Insert span.start text)
put_before text (parts.Attribute before span name value quote) = None
put_before text (parts.Text span) = one (splices.Insert span.start text)
put_before text (parts.Comment span) = one (splices.Insert span.start text)
put_before text (parts.Instruction span target) = one (splices.Insert span.start text)

abbrev pub put_after : List ℕ → Part → Option (List Splice)
put_after text parts.Root = None
put_after text (parts.Element span tags) = one (splices.Insert span.end text)
put_after text (parts.Attribute before span name value quote) = None
put_after text (parts.Text span) = one (splices.Insert span.end text)
put_after text (parts.Comment span) = one (splices.Insert span.end text)
put_after text (parts.Instruction span target) = one (splices.Insert span.end text)

-- an insertion into an element that has an end tag, or an end tag for it
abbrev pub put_into : List ℕ → Tags → ℕ → List ℕ → Splice
put_into bytes tags at text = cond tags.empty (opened bytes tags text) (splices.Insert at text)

-- what an element says
abbrev pub set_element : List ℕ → List ℕ → Tags → Splice
set_element bytes text tags =
    cond tags.empty (opened bytes tags (escaped escapes.Text text))
    (splices.Replace tags.head_end tags.tail_start (escaped escapes.Text text))

abbrev pub put_first : List ℕ → List ℕ → Part → Option (List Splice)
put_first bytes text (parts.Element span tags) =
    one (put_into bytes tags tags.head_end text)
put_first bytes text _ = None

abbrev pub put_last : List ℕ → List ℕ → Part → Option (List Splice)
put_last bytes text (parts.Element span tags) =
    one (put_into bytes tags tags.tail_start text)
put_last bytes text _ = None

abbrev pub given_attribute : List ℕ → Part → Option (List Splice)
given_attribute text (parts.Element span tags) = one (splices.Insert tags.name.end (32 ∷ text))
given_attribute text _ = None

abbrev pub set_to : List ℕ → List ℕ → Part → Option (List Splice)
set_to bytes text parts.Root = None
set_to bytes text (parts.Element span tags) =
    one (set_element bytes text tags)
set_to bytes text (parts.Attribute before span name value quote) =
    replaced_by (escaped (escapes.Value quote) text) value
set_to bytes text (parts.Text span) = replaced_by (escaped escapes.Text text) span
set_to bytes text (parts.Comment span) = None
set_to bytes text (parts.Instruction span target) = None

-- new names in the tags of an element
abbrev pub renamed_tags : List ℕ → Tags → List Splice
renamed_tags text tags =
    splices.Replace tags.name.start tags.name.end text
    ∷ cond tags.empty [] (splices.Replace (end_name tags).start (end_name tags).end text ∷ [])

abbrev pub renamed : List ℕ → Part → Option (List Splice)
renamed text parts.Root = None
renamed text (parts.Element span tags) = Some (renamed_tags text tags)
renamed text (parts.Attribute before span name value quote) = replaced_by text name
renamed text (parts.Text span) = None
renamed text (parts.Comment span) = None
renamed text (parts.Instruction span target) = replaced_by text target

-- the splices of an operation on a node with these parts; none where the operation does not take its kind
abbrev pub row : List ℕ → Operation → Part → Option (List Splice)
row bytes operations.Remove part = removed part
row bytes (operations.Replace text) part = replaced text.now part
row bytes (operations.Before text) part = put_before text.now part
row bytes (operations.After text) part = put_after text.now part
row bytes (operations.First text) part = put_first bytes text.now part
row bytes (operations.Last text) part = put_last bytes text.now part
row bytes (operations.Attr text) part = given_attribute text.now part
row bytes (operations.Set text) part = set_to bytes text.now part
row bytes (operations.Rename text) part = renamed text.now part

-- What private functions promise.

-- a splice, or none where there is no row
abbrev pub IsOne : Option Splice → Option (List Splice) → Type 0
IsOne None found = found ≡ None
IsOne (Some x) found = found ≡ one x

-- the parts are within a document of this length
pub record AreTags (len : ℕ) (tags : Tags) : Type 0 where
  pub name : tags.name.start ≤ tags.name.end
  pub within : tags.name.end ≤ len
  pub tag : 2 ≤ tags.head_end
  pub end : tags.tail_start + 2 + tags.name.end < 2 ^ 32

abbrev pub IsPart : ℕ → Part → Type 0
IsPart len (parts.Element span tags) = AreTags len tags
IsPart len _ = Unit {0}

-- the splices of a row are put after others where there is a row, and else none
abbrev pub AddsRow : Option (List Splice) → List Splice → List Splice → Bool → Type 0
AddsRow found old new true = (mine : List Splice) × (found ≡ Some mine) × (new ≡ old ++ mine)
AddsRow found old new false = (found ≡ None) × (new ≡ old)
