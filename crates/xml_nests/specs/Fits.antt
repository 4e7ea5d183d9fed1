-- What a nest must meet so that the bytes that it spells are a document with this nest.
use Rattle.std.specs.Prelude.{◌≡◌, ℕ, ◌≤◌, Bool, true, false, cond, not, ◌&&◌, List, [], ◌∷◌, ◌++◌, None}
use Rattle.std.specs.List.{list_all, flat_map}
use Rattle.xml_model.specs.Items.{Leaf, Item, leaf, spelling, meets, byte_order_mark, is_nil}
use Rattle.xml_model.specs.Nest.{Forest, flat, is_nest}
use Rattle.xml_model.specs.Records.{records}
use Rattle.xml_model.specs.Accepted.{over_names, unknown_item, encoding_item, first_wide, repeats, offences}

-- the bytes that items spell, one after another
abbrev pub spelled : List Item → List ℕ
spelled is = flat_map spelling is

-- a byte order mark, or none
abbrev pub mark : Bool → List ℕ
mark marked = cond marked byte_order_mark []

abbrev pub mark_length : Bool → ℕ
mark_length marked = cond marked 3 0

-- the bytes of a nest, after a byte order mark or not
unfoldable pub document_of : Bool → Forest → List ℕ
document_of marked nest = mark marked ++ spelled (flat nest)

-- whether an item is a text
abbrev pub is_text_item : Item → Bool
is_text_item (leaf (Leaf.text ps)) = true
is_text_item _ = false

-- whether items begin with a text
abbrev pub begins_with_text : List Item → Bool
begins_with_text [] = false
begins_with_text (i ∷ is) = is_text_item i

-- whether items end with a text
abbrev pub last_text : Bool → List Item → Bool
last_text b [] = b
last_text b (i ∷ is) = last_text (is_text_item i) is

abbrev pub ends_with_text : List Item → Bool
ends_with_text is = last_text false is

-- whether no text follows a text: each runs to the next < or to the end
abbrev pub texts_apart : List Item → Bool
texts_apart [] = true
texts_apart (i ∷ is) = not (is_text_item i && begins_with_text is) && texts_apart is

-- whether each reference of an item is known
abbrev pub is_resolved : Item → Bool
is_resolved i = is_nil (unknown_item 0 i)

-- whether the encoding that an item declares is known
abbrev pub is_readable : Item → Bool
is_readable i = is_nil (encoding_item 0 i)

-- whether a nest is one of a document, as far as layer k
pub record Fits (k : ℕ) (nest : Forest) : Type 0 where
  pub nests : is_nest nest ≡ true
  pub meets_all : list_all meets (flat nest) ≡ true
  pub apart : texts_apart (flat nest) ≡ true
  pub entities : list_all is_resolved (flat nest) ≡ true
  pub encoding : list_all is_readable (flat nest) ≡ true
  pub widths : first_wide (records nest 0) ≡ None
  pub twice : 7 ≤ k → over_names repeats [] 0 nest ≡ []
  pub names : 8 ≤ k → over_names offences [] 0 nest ≡ []
