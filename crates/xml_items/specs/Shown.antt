-- What callers read: an item as code hands it out, by its kind and its spans in the bytes.
use Rattle.std.specs.Prelude.{◌≡◌, ℕ, ◌+◌, Bool, true, false, List, ◌++◌, length}
use Rattle.xml_model.specs.declared.Span.{Span}
use Rattle.xml_model.specs.Chars.{size}
use Rattle.xml_model.specs.Items.{Tag, Leaf, Item, leaf, start_tag, empty_tag, end_tag, text, cdata, declaration}
use Rattle.xml_model.specs.Items.{doctype, written_pieces, written_attributes, written_units, spelling, begins_at}
use Rattle.xml_model.specs.Records.{declaration_attributes}
use Rattle.xml_chars.specs.Places.{span_from, IsTextSpan}
use Rattle.xml_items.specs.declared.ItemKind.{ItemKind}
use Rattle.xml_items.specs.declared.ItemKind.TheVariants as kinds
use Rattle.xml_items.specs.declared.Item.{Item as ItemShown}

abbrev pub leaf_kind : Leaf → ItemKind
leaf_kind (text ps) = kinds.Text
leaf_kind (cdata cs) = kinds.Cdata
leaf_kind (Leaf.comment cs) = kinds.Comment
leaf_kind (Leaf.instruction i) = kinds.Instruction
leaf_kind (declaration d) = kinds.Declaration
leaf_kind (doctype d) = kinds.Doctype

abbrev pub tag_kind : Bool → ItemKind
tag_kind true = kinds.EmptyTag
tag_kind false = kinds.StartTag

abbrev pub item_kind : Item → ItemKind
item_kind (leaf l) = leaf_kind l
item_kind (start_tag t) = kinds.StartTag
item_kind (empty_tag t) = kinds.EmptyTag
item_kind (end_tag name space) = kinds.EndTag

-- the Name of an item that begins at the place at; empty there where it has none
abbrev pub item_name : ℕ → Item → Span
item_name at (leaf (Leaf.instruction i)) = span_from (at + 2) i.target
item_name at (leaf (doctype d)) = span_from (at + 9 + size d.space) d.name
item_name at (leaf l) = record { start = at; end = at }
item_name at (start_tag t) = span_from (at + 1) t.name
item_name at (empty_tag t) = span_from (at + 1) t.name
item_name at (end_tag name space) = span_from (at + 2) name

-- what is between the Name of a tag and its > or />
abbrev pub tag_content : ℕ → Tag → Span
tag_content at t = span_from (at + 1 + size t.name) (written_attributes t.attributes ++ t.space)

abbrev pub item_content : ℕ → Item → Span
item_content at (leaf (text ps)) = span_from at (written_pieces ps)
item_content at (leaf (cdata cs)) = span_from (at + 9) cs
item_content at (leaf (Leaf.comment cs)) = span_from (at + 4) cs
item_content at (leaf (Leaf.instruction i)) = span_from (at + 2 + size i.target + size i.space) i.content
item_content at (leaf (declaration d)) = span_from (at + 5) (written_attributes (declaration_attributes d) ++ d.space)
item_content at (leaf (doctype d)) = span_from (at + 9) (d.space ++ d.name ++ written_units d.units)
item_content at (start_tag t) = tag_content at t
item_content at (empty_tag t) = tag_content at t
item_content at (end_tag name space) = span_from (at + 2 + size name) space

abbrev pub item_shown : ℕ → Item → ItemShown
item_shown at i =
    record {
      kind = item_kind i;
      span = record { start = at; end = at + length (spelling i) };
      name = item_name at i;
      content = item_content at i;
    }

-- the item that begins at the place
pub record IsItemAt (bytes : List ℕ) (at : ℕ) (found : ItemShown) : Type 0 where
  pub item : Item
  pub begins : begins_at bytes at item ≡ true
  pub shown : found ≡ item_shown at item

abbrev pub HasNoItem : List ℕ → ℕ → Type 0
HasNoItem bytes at = (item : Item) → begins_at bytes at item ≡ false

-- the spans of an item as code hands it out are spans of the text
pub record HasTextSpans (bytes : List ℕ) (found : ItemShown) : Type 0 where
  pub span : IsTextSpan bytes found.span
  pub name : IsTextSpan bytes found.name
  pub content : IsTextSpan bytes found.content
