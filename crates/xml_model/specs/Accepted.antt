-- What refuses a document: eight layers, of which the first that refuses decides, over the whole document. What each
-- layer asks for is XML 1.0's or that of Namespaces in XML 1.0, as said there; the layers, their order and their
-- places are this project's own.
use Rattle.std.specs.Prelude.{◌≡◌, ℕ, suc, ◌+◌, ◌<◌, ◌≤◌, Bool, true, false, cond, not, ◌&&◌, ◌||◌, List, [], ◌∷◌}
use Rattle.std.specs.Prelude.{◌++◌, map, length, take, nat_lt, ◌==◌, codes, bytes_eq, Option, Some, None, is_some}
use Rattle.std.specs.Prelude.{IsUtf8}
use Rattle.std.specs.List.{list_any}
use Rattle.std.specs.Char.{to_ascii_lowercase}
use Rattle.xml_model.specs.declared.Field.{Field}
use Rattle.xml_model.specs.declared.Field.TheVariants as fields
use Rattle.xml_model.specs.declared.DocFault.{DocFault}
use Rattle.xml_model.specs.declared.DocFault.TheVariants as faults
use Rattle.xml_model.specs.Chars.{size, is_qname, has_colon, prefix_of, local_of}
use Rattle.xml_model.specs.Items.{Piece, Attribute, Tag, Instruction, Leaf, Item, leaf, start_tag, empty_tag, end_tag}
use Rattle.xml_model.specs.Items.{written_piece, written_pieces, before_value, written_attribute, spelling, begins_at}
use Rattle.xml_model.specs.Items.{walk, walk_to_end, end_of_items, first_place, is_nil}
use Rattle.xml_model.specs.Nest.{Forest, done, single, empty, element, flat, is_nest}
use Rattle.xml_model.specs.Records.{Record, records, declares, attributes_place, past_leaf, past_empty, past_start}
use Rattle.xml_model.specs.Records.{past_element}
use Rattle.xml_model.specs.Content.{entity_char, value_content}
use Rattle.xml_model.specs.Names.{Expanded, nearest, attribute_uri, xml_uri, xmlns_uri}
use Rattle.xml_model.specs.Records.{kind_number}
use Rattle.xml_model.specs.declared.TokenKind.TheVariants as token

-- 1. The bytes are not UTF-8 (XML 1.0, section 4.3.3): at is the length of the longest prefix that is.
pub record RefusesUtf8 (bytes : List ℕ) (at : ℕ) : Type 0 where
  pub within : at < length bytes
  pub prefix : IsUtf8 (take at bytes)
  pub longest : (n : ℕ) → at < n → n ≤ length bytes → IsUtf8 (take n bytes) → ⊥

-- 2. The bytes are no list of items (XML 1.0, productions 14 to 44): at is the first place where whole items end and
-- no item begins.
pub record RefusesSyntax (bytes : List ℕ) (at : ℕ) : Type 0 where
  pub items : List Item
  pub walked : walk bytes items ≡ true
  pub ends : end_of_items (first_place bytes) items ≡ at
  pub within : at < length bytes
  pub none : (i : Item) → begins_at bytes at i ≡ false

-- 3. A reference names no built-in entity (XML 1.0, section 4.1, constraint 'Entity Declared'). Whether a piece is
-- such a reference.
abbrev pub is_unknown : Piece → Bool
is_unknown (Piece.entity name) = not (is_some (entity_char name))
is_unknown _ = false

-- the places of such references among pieces from a place on
abbrev pub unknown_pieces : ℕ → List Piece → List ℕ
unknown_pieces at [] = []
unknown_pieces at (p ∷ ps) = cond (is_unknown p) (at ∷ []) [] ++ unknown_pieces (at + size (written_piece p)) ps

-- where the value of an attribute begins, if the white space before it does at a place
abbrev pub value_place : ℕ → Attribute → ℕ
value_place at a = at + size a.space + size (before_value a)

-- the places of such references in the values of attributes from a place on
abbrev pub unknown_attributes : ℕ → List Attribute → List ℕ
unknown_attributes at [] = []
unknown_attributes at (a ∷ others) =
    unknown_pieces (value_place at a) a.value ++ unknown_attributes (at + size (written_attribute a)) others

-- and in an item at a place
abbrev pub unknown_item : ℕ → Item → List ℕ
unknown_item at (leaf (Leaf.text ps)) = unknown_pieces at ps
unknown_item at (start_tag t) = unknown_attributes (attributes_place at t) t.attributes
unknown_item at (empty_tag t) = unknown_attributes (attributes_place at t) t.attributes
unknown_item at _ = []

-- 4. An encoding that is neither UTF-8 nor US-ASCII, ASCII letter case aside: which are known.
abbrev pub is_known_encoding : List ℕ → Bool
is_known_encoding name =
    bytes_eq (map to_ascii_lowercase name) (codes "utf-8") || bytes_eq (map to_ascii_lowercase name) (codes "us-ascii")

-- the place of an encoding that is not known, if the declaration's part begins at a place
abbrev pub unknown_encoding : ℕ → Option Attribute → List ℕ
unknown_encoding at None = []
unknown_encoding at (Some a) = cond (is_known_encoding (written_pieces a.value)) [] (value_place at a ∷ [])

-- and in an item at a place
abbrev pub encoding_item : ℕ → Item → List ℕ
encoding_item at (leaf (Leaf.declaration d)) = unknown_encoding (at + 5 + size (written_attribute d.version)) d.encoding
encoding_item at _ = []

-- what is found in items from a place on
abbrev pub over_items : (ℕ → Item → List ℕ) → ℕ → List Item → List ℕ
over_items places at [] = []
over_items places at (i ∷ is) = places at i ++ over_items places (at + length (spelling i)) is

-- 3 and 4. The items of the whole document, at whose first place of a kind it is refused.
pub record RefusesItem (places : ℕ → Item → List ℕ) (bytes : List ℕ) (at : ℕ) : Type 0 where
  pub items : List Item
  pub walked : walk_to_end bytes items ≡ true
  pub others : List ℕ
  pub first : over_items places (first_place bytes) items ≡ at ∷ others

-- 5. The items do not nest (XML 1.0, productions 1, 22, 27 and 39). Some nest begins with the items.
pub record BeginsNest (items : List Item) : Type 0 where
  pub nest : Forest
  pub rest : List Item
  pub nests : is_nest nest ≡ true
  pub split : flat nest ≡ items ++ rest

-- how many elements are open after items, if n are before them
abbrev pub open_after : ℕ → List Item → ℕ
open_after n [] = n
open_after n (start_tag t ∷ is) = open_after (suc n) is
open_after (suc n) (end_tag name space ∷ is) = open_after n is
open_after n (i ∷ is) = open_after n is

-- whether an item begins an element
abbrev pub is_opening : Item → Bool
is_opening (start_tag t) = true
is_opening (empty_tag t) = true
is_opening _ = false

-- whether the next item begins an element inside 255 others
abbrev pub is_too_deep : List Item → List Item → Bool
is_too_deep prefix [] = false
is_too_deep prefix (i ∷ is) = is_opening i && open_after 0 prefix == 255

-- no nest begins with the prefix and the next item; or no nest is the prefix, where it is the whole list
abbrev pub DoesNotBegin : List Item → List Item → Type 0
DoesNotBegin prefix [] = (nest : Forest) → is_nest nest ≡ true → flat nest ≡ prefix → ⊥
DoesNotBegin prefix (i ∷ is) = BeginsNest (prefix ++ i ∷ []) → ⊥

-- 5. The prefix is the longest with which some nest begins: at is where it ends, and the fault is one of depth where
-- the next item begins an element inside 255 others.
pub record RefusesNesting (bytes : List ℕ) (at : ℕ) (too_deep : Bool) : Type 0 where
  pub prefix : List Item
  pub rest : List Item
  pub walked : walk_to_end bytes (prefix ++ rest) ≡ true
  pub begins : BeginsNest prefix
  pub longest : DoesNotBegin prefix rest
  pub place : end_of_items (first_place bytes) prefix ≡ at
  pub deep : is_too_deep prefix rest ≡ too_deep

-- the nest of the whole document
pub record IsDocument (bytes : List ℕ) (nest : Forest) : Type 0 where
  pub nests : is_nest nest ≡ true
  pub walked : walk_to_end bytes (flat nest) ≡ true

-- 6. A record has no room for a token. The types of records that have the fields of a name.
abbrev pub is_name_token : ℕ → Bool
is_name_token n =
    list_any (λ k. n == k) (kind_number token.StartTag ∷ kind_number token.AttributeName
    ∷ kind_number token.NamespaceName ∷ kind_number token.Target ∷ kind_number token.PartName ∷ [])

-- the field of a record that is too wide: of names the whole first (2,047 bytes) and then the prefix (511), of others
-- the token (1,048,575). The records of texts and CDATA sections never are
abbrev pub too_wide : Record → Option Field
too_wide r =
    cond (is_name_token r.token)
    (cond (nat_lt 2047 r.len) (Some fields.Name) (cond (nat_lt 511 r.prefix) (Some fields.Prefix) None))
    (cond (nat_lt 1_048_575 r.len) (Some fields.Token) None)

-- the first of what is found here and further on
abbrev pub wide_here : Option Field → ℕ → Option (Field × ℕ) → Option (Field × ℕ)
wide_here None at o = o
wide_here (Some f) at o = Some (f, at)

-- the first record that is too wide, with its field and its place
unfoldable pub first_wide : List Record → Option (Field × ℕ)
first_wide [] = None
first_wide (r ∷ rs) = wide_here (too_wide r) r.offset (first_wide rs)

-- 7 and 8. The names of a nest in record order. Where the name of an attribute begins, if the white space before it
-- does at a place.
abbrev pub name_place : ℕ → Attribute → ℕ
name_place at a = at + size a.space

-- what is sought among names: of an instruction, by the place of its target; of a tag and its attributes, by the
-- tag's place and the tags that hold it
pub record Faults : Type 0 where
  pub instruction : ℕ → Instruction → List ℕ
  pub tag : ℕ → List Tag → Tag → List ℕ

-- in a leaf at a place
abbrev pub leaf_faults : Faults → ℕ → Leaf → List ℕ
leaf_faults w at (Leaf.instruction i) = w.instruction (at + 2) i
leaf_faults w at _ = []

-- in a list of pieces at a place, under the tags that hold it
abbrev pub over_names : Faults → List Tag → ℕ → Forest → List ℕ
over_names w tags at done = []
over_names w tags at (single x f) = leaf_faults w at x ++ over_names w tags (past_leaf at x) f
over_names w tags at (empty t f) = w.tag at tags t ++ over_names w tags (past_empty at t) f
over_names w tags at (element t inside space f) =
    w.tag at tags t ++ over_names w (t ∷ tags) (past_start at t) inside
    ++ over_names w tags (past_element at t inside space) f

-- 7. A name of a tag repeats an earlier one, byte for byte (XML 1.0, section 3.1, constraint 'Unique Att Spec'): the
-- places of those that do, after those seen.
abbrev pub repeated : ℕ → List (List ℕ) → List Attribute → List ℕ
repeated at seen [] = []
repeated at seen (a ∷ others) =
    cond (list_any (bytes_eq a.name) seen) (name_place at a ∷ []) []
    ++ repeated (at + size (written_attribute a)) (a.name ∷ seen) others

-- 7. in a nest
abbrev pub repeats : Faults
repeats = record { instruction = λ at i. []; tag = λ at tags t. repeated (attributes_place at t) [] t.attributes }

-- 8. A name offends Namespaces in XML 1.0. Whether a prefix is bound (Namespaces in XML 1.0, section 5, constraint
-- 'Prefix Declared'); xml always is.
abbrev pub is_bound : List ℕ → List Tag → Bool
is_bound prefix tags = is_nil prefix || bytes_eq prefix (codes "xml") || is_some (nearest prefix tags)

-- whether two expanded names are one; an empty URI is not none
abbrev pub same_expanded : Expanded → Expanded → Bool
same_expanded x y = same_uri x.uri y.uri && bytes_eq x.name y.name
  where
    same_uri : Option (List ℕ) → Option (List ℕ) → Bool
    same_uri None None = true
    same_uri (Some a) (Some b) = bytes_eq a b
    same_uri _ _ = false

-- the expanded name of an attribute under tags
abbrev pub expanded_of : List Tag → Attribute → Expanded
expanded_of tags a = record { uri = attribute_uri (prefix_of a.name) tags; name = local_of a.name }

-- whether a URI is one of the two that are bound to xml and xmlns for ever: Namespaces in XML 1.0, section 3,
-- constraint 'Reserved Prefixes and Namespace Names'
abbrev pub is_reserved : List ℕ → Bool
is_reserved uri = bytes_eq uri xml_uri || bytes_eq uri xmlns_uri

-- whether a declaration offends, by its name and its value: Namespaces in XML 1.0, section 3, constraint 'Reserved
-- Prefixes and Namespace Names', and section 5, constraint 'No Prefix Undeclaring'
abbrev pub declaration_offends : List ℕ → List ℕ → Bool
declaration_offends name uri =
    cond (bytes_eq name (codes "xmlns")) (is_reserved uri)
    (cond (bytes_eq name (codes "xmlns:xml")) (not (bytes_eq uri xml_uri)) (bytes_eq name (codes "xmlns:xmlns")
    || is_nil uri || is_reserved uri))

-- whether an attribute offends: by no qualified name, a bad declaration, an unbound prefix, or an expanded name that
-- an earlier attribute has (Namespaces in XML 1.0, section 6.3, constraint 'Attributes Unique')
abbrev pub attribute_offends : List Tag → List Expanded → Attribute → Bool
attribute_offends tags seen a =
    not (is_qname a.name)
    || cond (declares a.name) (declaration_offends a.name (value_content a.value))
    (not (is_bound (prefix_of a.name) tags) || list_any (same_expanded (expanded_of tags a)) seen)

-- the expanded names seen, with that of an attribute
abbrev pub seen_with : List Tag → Attribute → List Expanded → List Expanded
seen_with tags a seen = cond (declares a.name) [] (expanded_of tags a ∷ []) ++ seen

-- the places of the names that offend among attributes from a place on
abbrev pub offending_attributes : List Tag → ℕ → List Expanded → List Attribute → List ℕ
offending_attributes tags at seen [] = []
offending_attributes tags at seen (a ∷ others) =
    cond (attribute_offends tags seen a) (name_place at a ∷ []) []
    ++ offending_attributes tags (at + size (written_attribute a)) (seen_with tags a seen) others

-- whether the name of a tag offends: by being no qualified name, by the prefix xmlns, or by an unbound prefix
abbrev pub tag_offends : List Tag → List ℕ → Bool
tag_offends tags name =
    not (is_qname name) || bytes_eq (prefix_of name) (codes "xmlns") || not (is_bound (prefix_of name) tags)

-- the places of the names that offend in a tag at a place
abbrev pub offending_tag : ℕ → List Tag → Tag → List ℕ
offending_tag at tags t =
    cond (tag_offends (t ∷ tags) t.name) ((at + 1) ∷ []) []
    ++ offending_attributes (t ∷ tags) (attributes_place at t) [] t.attributes

-- 8. in a nest; the target of an instruction has no colon: Namespaces in XML 1.0, section 7
abbrev pub offences : Faults
offences = record { instruction = λ at i. cond (has_colon i.target) (at ∷ []) []; tag = offending_tag }

-- 7 and 8. The first name in record order at which the document is refused.
pub record RefusesName (w : Faults) (bytes : List ℕ) (at : ℕ) : Type 0 where
  pub nest : Forest
  pub document : IsDocument bytes nest
  pub others : List ℕ
  pub first : over_names w [] (first_place bytes) nest ≡ at ∷ others

-- 6. The first record that is too wide.
pub record RefusesWidth (bytes : List ℕ) (field : Field) (at : ℕ) : Type 0 where
  pub nest : Forest
  pub document : IsDocument bytes nest
  pub first : first_wide (records nest (first_place bytes)) ≡ Some (field, at)

-- the layer of a fault
abbrev pub layer : DocFault → ℕ
layer (faults.Utf8 at) = 1
layer (faults.Syntax at) = 2
layer (faults.Entity at) = 3
layer (faults.Encoding at) = 4
layer (faults.Nesting at) = 5
layer (faults.Depth at) = 5
layer (faults.Width field at) = 6
layer (faults.Twice at) = 7
layer (faults.Namespace at) = 8

-- when a fault is there, and at which place
abbrev pub Refuses : List ℕ → DocFault → Type 0
Refuses bytes (faults.Utf8 at) = RefusesUtf8 bytes at
Refuses bytes (faults.Syntax at) = RefusesSyntax bytes at
Refuses bytes (faults.Entity at) = RefusesItem unknown_item bytes at
Refuses bytes (faults.Encoding at) = RefusesItem encoding_item bytes at
Refuses bytes (faults.Nesting at) = RefusesNesting bytes at false
Refuses bytes (faults.Depth at) = RefusesNesting bytes at true
Refuses bytes (faults.Width field at) = RefusesWidth bytes field at
Refuses bytes (faults.Twice at) = RefusesName repeats bytes at
Refuses bytes (faults.Namespace at) = RefusesName offences bytes at

-- none of the first k layers refuses the bytes
abbrev pub AcceptedTo : List ℕ → ℕ → Type 0
AcceptedTo bytes k = (fault : DocFault) → layer fault ≤ k → Refuses bytes fault → ⊥

-- the fault is that of the first layer that refuses
pub record IsRefusal (bytes : List ℕ) (fault : DocFault) : Type 0 where
  pub refuses : Refuses bytes fault
  pub first : (other : DocFault) → layer other < layer fault → Refuses bytes other → ⊥

-- Accepted as far as layer 6 (k = 6) or whole (k = 8), with the nest: what a check that refuses nothing knows.
pub record Accepted (k : ℕ) (bytes : List ℕ) (nest : Forest) : Type 0 where
  pub utf8 : IsUtf8 bytes
  pub document : IsDocument bytes nest
  pub entities : over_items unknown_item (first_place bytes) (flat nest) ≡ []
  pub encoding : over_items encoding_item (first_place bytes) (flat nest) ≡ []
  pub widths : first_wide (records nest (first_place bytes)) ≡ None
  pub twice : 7 ≤ k → over_names repeats [] (first_place bytes) nest ≡ []
  pub names : 8 ≤ k → over_names offences [] (first_place bytes) nest ≡ []
