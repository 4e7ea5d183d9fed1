-- What callers read: the attributes of an item as code hands them out.
use Rattle.std.specs.Prelude.{ℕ, ◌+◌, Bool, true, false, List, [], ◌∷◌, Option, Some, None}
use Rattle.std.specs.Str.{chars}
use Rattle.xml_model.specs.Chars.{size}
use Rattle.xml_model.specs.Items.{Attribute, Item, leaf, Leaf, start_tag, empty_tag, before_value, written_pieces}
use Rattle.xml_model.specs.Items.{written_attribute}
use Rattle.xml_model.specs.Records.{declaration_attributes}
use Rattle.xml_chars.specs.Places.{span_from}
use Rattle.xml_items.specs.Reading.{read_attributes}
use Rattle.xml_items.specs.declared.ItemKind.{ItemKind}
use Rattle.xml_items.specs.declared.ItemKind.TheVariants as kinds
use Rattle.xml_items.specs.declared.AttributeItem.{AttributeItem}
use Rattle.xml_items.specs.declared.attributes.Attributes.{Attributes}

-- the attributes of a tag, and the parts of a declaration
abbrev pub item_attributes : Item → List Attribute
item_attributes (start_tag t) = t.attributes
item_attributes (empty_tag t) = t.attributes
item_attributes (leaf (Leaf.declaration d)) = declaration_attributes d
item_attributes _ = []

-- whether an item is a tag or a declaration: an end tag has no attributes, and the list of them is empty
abbrev pub has_attributes : ItemKind → Bool
has_attributes kinds.StartTag = true
has_attributes kinds.EmptyTag = true
has_attributes kinds.EndTag = true
has_attributes kinds.Declaration = true
has_attributes _ = false

-- an attribute whose white space begins at the place at, and attributes from there on
abbrev pub attribute_shown : ℕ → Attribute → AttributeItem
attribute_shown at a =
    record {
      name = span_from (at + size a.space) a.name;
      value = span_from (at + size a.space + size (before_value a)) (written_pieces a.value);
    }

abbrev pub attributes_shown : ℕ → List Attribute → List AttributeItem
attributes_shown at [] = []
attributes_shown at (a ∷ others) = attribute_shown at a ∷ attributes_shown (at + size (written_attribute a)) others

abbrev pub shown_of : ℕ → Option (List Attribute × List ℕ) → List AttributeItem
shown_of at None = []
shown_of at (Some p) = attributes_shown at p.0

-- the attributes that are left to come
abbrev pub attributes_left : Attributes → List AttributeItem
attributes_left s = shown_of s.at (read_attributes (chars s.rest.now))
