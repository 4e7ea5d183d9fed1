-- The records of an item by the places that are found (this project's own).
use Rattle.std.specs.Prelude.{◌≡◌, ℕ, ◌-◌, ◌≤◌, true, List, [], ◌∷◌, ◌++◌, length, take, drop}
use Rattle.xml_model.specs.declared.Span.{Span}
use Rattle.xml_model.specs.Chars.{prefix_of}
use Rattle.xml_model.specs.Items.{Item, begins_at}
use Rattle.xml_model.specs.Records.{Record, cut_records, name_token}
use Rattle.xml_items.specs.declared.Item.{Item as ItemShown}
use Rattle.xml_items.specs.declared.AttributeItem.{AttributeItem}
use Rattle.xml_items.specs.Shown.{item_shown}
use Rattle.xml_model.specs.Records.{kind_number}
use Rattle.xml_model.specs.declared.TokenKind.TheVariants as token

-- the bytes of a span
abbrev pub bytes_of : List ℕ → Span → List ℕ
bytes_of bytes span = take (span.end - span.start) (drop span.start bytes)

-- a span of the bytes
pub record IsWithin (bytes : List ℕ) (span : Span) : Type 0 where
  pub ordered : span.start ≤ span.end
  pub within : span.end ≤ length bytes

-- the record of a span that is no name
abbrev pub plain_span : ℕ → ℕ → Span → Record
plain_span token depth span = record {
  token = token;
  depth = depth;
  prefix = 0;
  len = span.end - span.start;
  offset = span.start;
}

-- the records of a span that is a text or a CDATA section
abbrev pub cuts_of : ℕ → ℕ → Span → List Record
cuts_of token depth span = cut_records token depth span.start (span.end - span.start)

-- the record of a name. A colon is one byte, so the bytes before the first one are those of the prefix
abbrev pub named_span : List ℕ → ℕ → ℕ → Span → Record
named_span bytes token depth span = record {
  token = token;
  depth = depth;
  prefix = length (prefix_of (bytes_of bytes span));
  len = span.end - span.start;
  offset = span.start;
}

abbrev pub attribute_found : List ℕ → ℕ → AttributeItem → List Record
attribute_found bytes depth a =
    named_span bytes (name_token (bytes_of bytes a.name)) depth a.name
    ∷ plain_span (kind_number token.Value) depth a.value ∷ []

-- the parts of the XML declaration
abbrev pub part_found : ℕ → AttributeItem → List Record
part_found depth a =
    plain_span (kind_number token.PartName) depth a.name ∷ plain_span (kind_number token.PartValue) depth a.value ∷ []

abbrev pub parts_found : ℕ → List AttributeItem → List Record
parts_found depth [] = []
parts_found depth (a ∷ others) = part_found depth a ++ parts_found depth others

-- the item is found where it begins
pub record ShowsItem (bytes : List ℕ) (found : ItemShown) (i : Item) : Type 0 where
  pub begins : begins_at bytes found.span.start i ≡ true
  pub shown : found ≡ item_shown found.span.start i

-- each place of an attribute is a span
pub record AreOrdered (a : AttributeItem) : Type 0 where
  pub name : a.name.start ≤ a.name.end
  pub value : a.value.start ≤ a.value.end

-- the same, with the name inside the bytes
pub record HasPlaces (bytes : List ℕ) (a : AttributeItem) : Type 0 where
  pub name : IsWithin bytes a.name
  pub value : a.value.start ≤ a.value.end
