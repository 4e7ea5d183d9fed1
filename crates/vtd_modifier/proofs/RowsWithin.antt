-- The splices of a node's row are within the document.
use Rattle.std.proofs.Common.{◌≡◌, ℕ, suc, ◌+◌, ◌-◌, ◌<◌, ◌≤◌, Bool, true, false, cond, List, [], ◌∷◌, ◌++◌, length, refl, ap, sym, ◌∙◌, subst, arith, IfSome, Option, Some, None}
use Rattle.std.specs.Prelude.{codes}
use Rattle.std.specs.List.{AllByRecursion as Each}
use Rattle.std.proofs.lemmas.Bool.{false≢true}
use Rattle.xml_model.specs.declared.Kind.{Kind}
use Rattle.xml_model.specs.declared.Span.{Span}
use Rattle.xml_model.specs.Chars.{size}
use Rattle.xml_model.specs.Items.{Attribute, Instruction, Tag, Leaf, start_tag, empty_tag, end_tag, begins_at, before_value, quote_char, first_place}
use Rattle.xml_model.specs.Items.{written_pieces, written_tag, written_start, written_empty, written_end, written_attributes}
use Rattle.xml_model.specs.Nest.{Forest, done}
use Rattle.xml_model.specs.Records.{past_forest, past_start, past_empty, past_element, past_leaf}
use Rattle.xml_model.specs.Tree.{Thing, Entry, Identifies, all}
use Rattle.xml_model.proofs.Each.{each_append, each_at}
use Rattle.xml_model.proofs.TextPlaces.{forest_grows}
use Rattle.xml_chars.proofs.HoldLemmas.{size-append}
use Rattle.vtd_words.specs.Lists.{Lists}
use Rattle.vtd_words.specs.Table.{IsNestOf, nodes_of}
use Rattle.vtd_edits.specs.declared.splice.Splice.{Splice}
use Rattle.vtd_edits.specs.Splices.{IsWithin}
use Rattle.vtd_cursor.specs.declared.spans.Tags.{Tags}
use Rattle.vtd_cursor.specs.Tags.{tags_by}
use Rattle.vtd_cursor.proofs.Closing.{Closes, ClosesIn, ElementCloses, by_itself, by_end_tag, all_close}
use Rattle.vtd_cursor.proofs.LastPieces.{instruction_size}
use Rattle.vtd_modifier.specs.declared.operation.Operation.{Operation}
use Rattle.vtd_modifier.specs.declared.operation.Operation.TheVariants as operations
use Rattle.vtd_modifier.specs.declared.parts.Part.{Part}
use Rattle.vtd_modifier.specs.declared.parts.Part.TheVariants as parts
use Rattle.vtd_modifier.specs.declared.escaping.Escape.TheVariants as escapes
use Rattle.vtd_modifier.specs.Escapes.{escaped}
use Rattle.vtd_modifier.specs.Outcomes.{TakesRow}
use Rattle.vtd_modifier.specs.Parts.{parts_of, part_of}
use Rattle.vtd_modifier.specs.Rows.{opened, put_into, set_element, renamed_tags, removed, replaced, put_before, put_after, put_first, put_last, given_attribute, set_to, renamed, row, end_name}
use Rattle.vtd_modifier.proofs.BytesThere.{there_fits, item_there}
use Rattle.vtd_modifier.proofs.NodeEnds.{Ends, all_end}

abbrev IsSpan : ℕ → Span → Type 0
IsSpan len span = (span.start ≤ span.end) × (span.end ≤ len)

record TagsWithin (len : ℕ) (tags : Tags) : Type 0 where
  name : IsSpan len tags.name
  order : tags.head_end ≤ tags.tail_start
  tail : tags.tail_start ≤ len
  again : tags.empty ≡ false → IsSpan len (end_name tags)

-- all places of a node's parts are within a document of this length
abbrev Within : ℕ → Part → Type 0
Within len parts.Root = Unit {0}
Within len (parts.Element span tags) = IsSpan len span × TagsWithin len tags
Within len (parts.Attribute before span name value quote) = (before ≤ span.end) × IsSpan len span × IsSpan len name × IsSpan len value
Within len (parts.Text span) = IsSpan len span
Within len (parts.Comment span) = IsSpan len span
Within len (parts.Instruction span target) = IsSpan len span × IsSpan len target

abbrev Fit : ℕ → Option (List Splice) → Type 0
Fit len found = IfSome found (Each (IsWithin len))

either : (len : ℕ) (b : Bool) (x y : Splice) → IsWithin len x → IsWithin len y → IsWithin len (cond b x y)
either len true x y h k = h
either len false x y h k = k

opened_fits : (len : ℕ) (bytes : List ℕ) (tags : Tags) (text : List ℕ) → TagsWithin len tags → IsWithin len (opened bytes tags text)
opened_fits len bytes tags text w = (omega arith, omega (arith, w.order, w.tail))

put_fits : (len : ℕ) (bytes : List ℕ) (tags : Tags) (at : ℕ) (text : List ℕ) → TagsWithin len tags → at ≤ len → IsWithin len (put_into bytes tags at text)
put_fits len bytes tags at text w h = either len tags.empty _ _ (opened_fits len bytes tags text w) h

set_fits : (len : ℕ) (bytes text : List ℕ) (tags : Tags) → TagsWithin len tags → IsWithin len (set_element bytes text tags)
set_fits len bytes text tags w = either len tags.empty _ _ (opened_fits len bytes tags (escaped escapes.Text text) w) (w.order, w.tail)

names_fit : (len : ℕ) (text : List ℕ) (tags : Tags) → TagsWithin len tags → Each (IsWithin len) (renamed_tags text tags)
names_fit len text tags w = (w.name, by tags.empty w.again)
  where
    by : (b : Bool) → (b ≡ false → IsSpan len (end_name tags)) →
        Each (IsWithin len) (cond b [] (Rattle.vtd_edits.specs.declared.splice.Splice.TheVariants.Replace (end_name tags).start (end_name tags).end text ∷ []))
    by true h = tt
    by false h = (h refl, tt)

removed_fits : (len : ℕ) (part : Part) → Within len part → Fit len (removed part)
removed_fits len parts.Root w = tt
removed_fits len (parts.Element span tags) w = (w.0, tt)
removed_fits len (parts.Attribute before span name value quote) w = ((w.0, w.1.1), tt)
removed_fits len (parts.Text span) w = (w, tt)
removed_fits len (parts.Comment span) w = (w, tt)
removed_fits len (parts.Instruction span target) w = (w.0, tt)

replaced_fits : (len : ℕ) (text : List ℕ) (part : Part) → Within len part → Fit len (replaced text part)
replaced_fits len text parts.Root w = tt
replaced_fits len text (parts.Element span tags) w = (w.0, tt)
replaced_fits len text (parts.Attribute before span name value quote) w = (w.1, tt)
replaced_fits len text (parts.Text span) w = (w, tt)
replaced_fits len text (parts.Comment span) w = (w, tt)
replaced_fits len text (parts.Instruction span target) w = (w.0, tt)

before_fits : (len : ℕ) (text : List ℕ) (part : Part) → Within len part → Fit len (put_before text part)
before_fits len text parts.Root w = tt
before_fits len text (parts.Element span tags) w = (omega (arith, w.0.0, w.0.1), tt)
before_fits len text (parts.Attribute before span name value quote) w = tt
before_fits len text (parts.Text span) w = (omega (arith, w.0, w.1), tt)
before_fits len text (parts.Comment span) w = (omega (arith, w.0, w.1), tt)
before_fits len text (parts.Instruction span target) w = (omega (arith, w.0.0, w.0.1), tt)

after_fits : (len : ℕ) (text : List ℕ) (part : Part) → Within len part → Fit len (put_after text part)
after_fits len text parts.Root w = tt
after_fits len text (parts.Element span tags) w = (w.0.1, tt)
after_fits len text (parts.Attribute before span name value quote) w = tt
after_fits len text (parts.Text span) w = (w.1, tt)
after_fits len text (parts.Comment span) w = (w.1, tt)
after_fits len text (parts.Instruction span target) w = (w.0.1, tt)

first_fits : (len : ℕ) (bytes text : List ℕ) (part : Part) → Within len part → Fit len (put_first bytes text part)
first_fits len bytes text parts.Root w = tt
first_fits len bytes text (parts.Element span tags) w =
    (put_fits len bytes tags tags.head_end text w.1 (omega (arith, w.1.order, w.1.tail)), tt)
first_fits len bytes text (parts.Attribute before span name value quote) w = tt
first_fits len bytes text (parts.Text span) w = tt
first_fits len bytes text (parts.Comment span) w = tt
first_fits len bytes text (parts.Instruction span target) w = tt

last_fits : (len : ℕ) (bytes text : List ℕ) (part : Part) → Within len part → Fit len (put_last bytes text part)
last_fits len bytes text parts.Root w = tt
last_fits len bytes text (parts.Element span tags) w = (put_fits len bytes tags tags.tail_start text w.1 w.1.tail, tt)
last_fits len bytes text (parts.Attribute before span name value quote) w = tt
last_fits len bytes text (parts.Text span) w = tt
last_fits len bytes text (parts.Comment span) w = tt
last_fits len bytes text (parts.Instruction span target) w = tt

given_fits : (len : ℕ) (text : List ℕ) (part : Part) → Within len part → Fit len (given_attribute text part)
given_fits len text parts.Root w = tt
given_fits len text (parts.Element span tags) w = (w.1.name.1, tt)
given_fits len text (parts.Attribute before span name value quote) w = tt
given_fits len text (parts.Text span) w = tt
given_fits len text (parts.Comment span) w = tt
given_fits len text (parts.Instruction span target) w = tt

set_to_fits : (len : ℕ) (bytes text : List ℕ) (part : Part) → Within len part → Fit len (set_to bytes text part)
set_to_fits len bytes text parts.Root w = tt
set_to_fits len bytes text (parts.Element span tags) w = (set_fits len bytes text tags w.1, tt)
set_to_fits len bytes text (parts.Attribute before span name value quote) w = (w.3, tt)
set_to_fits len bytes text (parts.Text span) w = (w, tt)
set_to_fits len bytes text (parts.Comment span) w = tt
set_to_fits len bytes text (parts.Instruction span target) w = tt

renamed_fits : (len : ℕ) (text : List ℕ) (part : Part) → Within len part → Fit len (renamed text part)
renamed_fits len text parts.Root w = tt
renamed_fits len text (parts.Element span tags) w = names_fit len text tags w.1
renamed_fits len text (parts.Attribute before span name value quote) w = (w.2, tt)
renamed_fits len text (parts.Text span) w = tt
renamed_fits len text (parts.Comment span) w = tt
renamed_fits len text (parts.Instruction span target) w = (w.1, tt)

row_fits : (operation : Operation) (len : ℕ) (bytes : List ℕ) (part : Part) → Within len part → Fit len (row bytes operation part)
row_fits operations.Remove len bytes part w = removed_fits len part w
row_fits (operations.Replace text) len bytes part w = replaced_fits len text.now part w
row_fits (operations.Before text) len bytes part w = before_fits len text.now part w
row_fits (operations.After text) len bytes part w = after_fits len text.now part w
row_fits (operations.First text) len bytes part w = first_fits len bytes text.now part w
row_fits (operations.Last text) len bytes part w = last_fits len bytes text.now part w
row_fits (operations.Attr text) len bytes part w = given_fits len text.now part w
row_fits (operations.Set text) len bytes part w = set_to_fits len bytes text.now part w
row_fits (operations.Rename text) len bytes part w = renamed_fits len text.now part w

-- The parts of a node.

size_1 : size (codes "<") ≡ 1
unfolding size Rattle.std.proofs.Math.Utf8.encode
size_1 = refl

size_2 : size (codes "</") ≡ 2
unfolding size Rattle.std.proofs.Math.Utf8.encode
size_2 = refl

tag_name : (t : Tag) → 1 + size t.name ≤ size (written_tag t)
tag_name t =
    omega (
      arith,
      size-append (codes "<" ++ t.name ++ written_attributes t.attributes) t.space,
      size-append (codes "<" ++ t.name) (written_attributes t.attributes),
      size-append (codes "<") t.name,
      size_1,
    )

start_name : (t : Tag) → 1 + size t.name ≤ size (written_start t)
start_name t = omega (arith, tag_name t, size-append (written_tag t) (codes ">"))

empty_name : (t : Tag) → 1 + size t.name ≤ size (written_empty t)
empty_name t = omega (arith, tag_name t, size-append (written_tag t) (codes "/>"))

name_again : (name space : List ℕ) → 2 + size name ≤ size (written_end name space)
name_again name space =
    omega (arith, size-append (codes "</" ++ name ++ space) (codes ">"), size-append (codes "</" ++ name) space, size-append (codes "</") name, size_2)

closed_within : (len : ℕ) (t : Tag) (inside : Forest) (start stop : ℕ) → start + 1 + size t.name ≤ len → stop ≤ len →
    TagsWithin len (tags_by true t inside start stop)
closed_within len t inside start stop n s =
    record { name = (omega arith, n); order = omega arith; tail = s; again = λ h. absurd (false≢true (sym h)) }

tags_within : (bytes : List ℕ) (t : Tag) (inside : Forest) (start stop : ℕ) → ElementCloses bytes t inside start stop → stop ≤ length bytes →
    TagsWithin (length bytes) (tags_by (begins_at bytes start (empty_tag t)) t inside start stop)
tags_within bytes t inside start stop (by_itself i b s) high =
    subst (λ c. TagsWithin (length bytes) (tags_by c t inside start stop)) (sym b)
    (closed_within (length bytes) t inside start stop (omega (arith, s, high, empty_name t)) high)
tags_within bytes t inside start stop (by_end_tag space b k m s) high = by (begins_at bytes start (empty_tag t))
  where
    grows : past_start start t ≤ past_forest (past_start start t) inside
    grows = forest_grows inside (past_start start t)

    name : start + 1 + size t.name ≤ length bytes
    name = omega (arith, s, high, grows, start_name t)

    by : (c : Bool) → TagsWithin (length bytes) (tags_by c t inside start stop)
    by true = closed_within (length bytes) t inside start stop name high
    by false =
        record {
          name = (omega arith, name);
          order = grows;
          tail = omega (arith, s, high);
          again = λ h. (omega arith, omega (arith, s, high, name_again t.name space));
        }

name_first : (a : Attribute) → size a.name ≤ size (before_value a)
name_first a =
    omega (
      arith,
      size-append (a.name ++ a.left ++ codes "=" ++ a.right) (quote_char a.quote ∷ []),
      size-append (a.name ++ a.left ++ codes "=") a.right,
      size-append (a.name ++ a.left) (codes "="),
      size-append a.name a.left,
    )

parts_within : (bytes : List ℕ) (what : Thing) (l start stop : ℕ) → Closes bytes what l start stop → start ≤ stop → stop ≤ length bytes →
    Within (length bytes) (parts_of bytes what start stop)
parts_within bytes (Thing.root first f) l start stop c low high = tt
parts_within bytes (Thing.element t inside) l start stop c low high = ((low, high), tags_within bytes t inside start stop c high)
parts_within bytes (Thing.attribute a) l start stop c low high =
    (omega (arith, low), (low, high), (omega arith, omega (arith, c.0, name_first a, high)), (omega arith, omega (arith, c.0, high)))
parts_within bytes (Thing.text xs) l start stop c low high = (low, high)
parts_within bytes (Thing.comment cs) l start stop c low high = (low, high)
parts_within bytes (Thing.instruction i) l start stop c low high =
    ((low, high), (omega arith, omega (arith, c, high, instruction_size i)))

row_there : (len : ℕ) (found : Option (List Splice)) (mine : List Splice) → found ≡ Some mine → Fit len found → Each (IsWithin len) mine
row_there len found mine e h = subst (Fit len) e h

-- with the splices of a node's row put after them, splices stay within the document
pub taken_within : (bytes : List ℕ) (lists : Lists) (nest : Forest) → IsNestOf bytes lists nest → (kind : Kind) (at : ℕ) (e : Entry) →
    Identifies kind at e (nodes_of bytes nest) → (operation : Operation) (old new : List Splice) →
    TakesRow (row bytes operation (part_of bytes e)) old new → Each (IsWithin (length bytes)) old → Each (IsWithin (length bytes)) new
taken_within bytes lists nest s kind at e w operation old new t h =
    let len = length bytes in
    let first = first_place bytes in
    let d = s.accepted.document in
    let c : ClosesIn bytes e = each_at (ClosesIn bytes) (all nest first) e (all_close bytes nest d) w.0 in
    let ends : Ends len e = each_at (Ends len) (all nest first) e (all_end bytes nest d) w.0 in
    let fits = row_fits operation len bytes (part_of bytes e) (parts_within bytes e.what (length e.holders) e.start e.stop c ends.0 ends.1) in
    subst (Each (IsWithin len)) (sym t.added)
    (each_append (IsWithin len) old t.mine h (row_there len (row bytes operation (part_of bytes e)) t.mine t.is fits))
