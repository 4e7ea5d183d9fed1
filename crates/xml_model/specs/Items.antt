-- The items of a document, with all that was written: XML 1.0, productions 10 to 44, taken as a flat list. Each text
-- is a list of code points. That a document is first cut into items, and that a DOCTYPE is passed over as units, is
-- this project's own.
use Rattle.std.specs.Prelude.{ℕ, ◌+◌, ◌*◌, Bool, true, false, cond, not, ◌&&◌, ◌||◌, List, [], ◌∷◌, ◌++◌, map, length}
use Rattle.std.specs.Prelude.{drop, ◌==◌, codes, encode_utf8_all, bytes_eq, Option, Some, None, fold}
use Rattle.std.specs.List.{list_all, flat_map}
use Rattle.std.specs.Char.{is_ascii_digit, is_digit, digit_value, to_ascii_lowercase}
use Rattle.xml_model.specs.Chars.{in_ranges, is_char, is_space, is_blank, is_white, is_name, is_name_char, begins}
use Rattle.xml_model.specs.Chars.{lacks}

-- what texts and values are made of: a literal character, or a reference, by a name (EntityRef, XML 1.0, production
-- 68) or by its digits in base 10 or 16 (CharRef, production 66)
pub data Piece : Type 0 where
  literal : ℕ → Piece
  entity : List ℕ → Piece
  decimal : List ℕ → Piece
  hexadecimal : List ℕ → Piece

-- the quotes round a value or a literal: XML 1.0, productions 10 to 12
pub data Quote : Type 0 where
  single double : Quote

-- Attribute: XML 1.0, productions 41, 25 and 10. The white space before it, its name, the white space on both sides
-- of its =, its quotes, and its value
pub record Attribute : Type 0 where
  pub space : List ℕ
  pub name : List ℕ
  pub left : List ℕ
  pub right : List ℕ
  pub quote : Quote
  pub value : List Piece

-- the inside of a start tag or an empty tag: XML 1.0, productions 40 and 44. The white space at the end is that
-- before its > or />
pub record Tag : Type 0 where
  pub name : List ℕ
  pub attributes : List Attribute
  pub space : List ℕ

-- PI: XML 1.0, productions 16 and 17. The white space after the target, and the data
pub record Instruction : Type 0 where
  pub target : List ℕ
  pub space : List ℕ
  pub content : List ℕ

-- XMLDecl: XML 1.0, productions 23 to 26, 32 and 80
pub record Declaration : Type 0 where
  pub version : Attribute
  pub encoding : Option Attribute
  pub standalone : Option Attribute
  pub space : List ℕ

-- in the subset of a DOCTYPE: a comment, an instruction, a quoted literal, another character. This project's own
pub data SubsetUnit : Type 0 where
  comment : List ℕ → SubsetUnit
  instruction : List ℕ → SubsetUnit
  quoted : Quote → List ℕ → SubsetUnit
  char : ℕ → SubsetUnit

-- in a DOCTYPE: a quoted literal, another character, the subset. This project's own
pub data DoctypeUnit : Type 0 where
  quoted : Quote → List ℕ → DoctypeUnit
  char : ℕ → DoctypeUnit
  subset : List SubsetUnit → DoctypeUnit

-- a DOCTYPE, with what XML 1.0, production 28, has between its Name and its > as units
pub record Doctype : Type 0 where
  pub space : List ℕ
  pub name : List ℕ
  pub units : List DoctypeUnit

-- an item that is no tag: CharData with references (XML 1.0, productions 14 and 43), CDSect (18 to 21), Comment (15),
-- PI (16), XMLDecl (23) and doctypedecl (28)
pub data Leaf : Type 0 where
  text : List Piece → Leaf
  cdata : List ℕ → Leaf
  comment : List ℕ → Leaf
  instruction : Instruction → Leaf
  declaration : Declaration → Leaf
  doctype : Doctype → Leaf

-- the nine kinds of item: a leaf, STag (XML 1.0, production 40), EmptyElemTag (44), and ETag (42) with its name and
-- the white space after it
pub data Item : Type 0 where
  leaf : Leaf → Item
  start_tag : Tag → Item
  empty_tag : Tag → Item
  end_tag : List ℕ → List ℕ → Item

-- What was written.

-- the character of a quote
abbrev pub quote_char : Quote → ℕ
quote_char Quote.single = 39
quote_char Quote.double = 34

-- a text in quotes
abbrev pub in_quotes : Quote → List ℕ → List ℕ
in_quotes q cs = quote_char q ∷ cs ++ quote_char q ∷ []

-- a literal, or a reference as it is: XML 1.0, productions 66 and 68
abbrev pub written_piece : Piece → List ℕ
written_piece (literal c) = c ∷ []
written_piece (entity name) = codes "&" ++ name ++ codes ";"
written_piece (decimal digits) = codes "&#" ++ digits ++ codes ";"
written_piece (hexadecimal digits) = codes "&#x" ++ digits ++ codes ";"

-- pieces in a row
abbrev pub written_pieces : List Piece → List ℕ
written_pieces ps = flat_map written_piece ps

-- what is before the value of an attribute, from its name up to its opening quote
abbrev pub before_value : Attribute → List ℕ
before_value a = a.name ++ a.left ++ codes "=" ++ a.right ++ quote_char a.quote ∷ []

-- an attribute with the white space before it: the `S Attribute` of XML 1.0, productions 40 and 44
abbrev pub written_attribute : Attribute → List ℕ
written_attribute a = a.space ++ before_value a ++ written_pieces a.value ++ quote_char a.quote ∷ []

-- attributes in a row
abbrev pub written_attributes : List Attribute → List ℕ
written_attributes others = flat_map written_attribute others

-- an attribute that may be left out
abbrev pub written_option : Option Attribute → List ℕ
written_option None = []
written_option (Some a) = written_attribute a

-- a unit of a subset
abbrev pub written_inner : SubsetUnit → List ℕ
written_inner (SubsetUnit.comment cs) = codes "<!--" ++ cs ++ codes "-->"
written_inner (SubsetUnit.instruction cs) = codes "<?" ++ cs ++ codes "?>"
written_inner (SubsetUnit.quoted q cs) = in_quotes q cs
written_inner (SubsetUnit.char c) = c ∷ []

-- a unit of a DOCTYPE
abbrev pub written_unit : DoctypeUnit → List ℕ
written_unit (DoctypeUnit.quoted q cs) = in_quotes q cs
written_unit (DoctypeUnit.char c) = c ∷ []
written_unit (DoctypeUnit.subset us) = codes "[" ++ flat_map written_inner us ++ codes "]"

-- units in a row
abbrev pub written_units : List DoctypeUnit → List ℕ
written_units us = flat_map written_unit us

-- a start tag or an empty tag up to its > or />
abbrev pub written_tag : Tag → List ℕ
written_tag t = codes "<" ++ t.name ++ written_attributes t.attributes ++ t.space

-- a leaf: XML 1.0, productions 14 to 28
abbrev pub written_leaf : Leaf → List ℕ
written_leaf (text ps) = written_pieces ps
written_leaf (cdata cs) = codes "<![CDATA[" ++ cs ++ codes "]]>"
written_leaf (Leaf.comment cs) = codes "<!--" ++ cs ++ codes "-->"
written_leaf (Leaf.instruction i) = codes "<?" ++ i.target ++ i.space ++ i.content ++ codes "?>"
written_leaf (declaration d) =
    codes "<?xml" ++ written_attribute d.version ++ written_option d.encoding ++ written_option d.standalone ++ d.space
    ++ codes "?>"
written_leaf (doctype d) = codes "<!DOCTYPE" ++ d.space ++ d.name ++ written_units d.units ++ codes ">"

-- STag: XML 1.0, production 40
abbrev pub written_start : Tag → List ℕ
written_start t = written_tag t ++ codes ">"

-- EmptyElemTag: XML 1.0, production 44
abbrev pub written_empty : Tag → List ℕ
written_empty t = written_tag t ++ codes "/>"

-- ETag: XML 1.0, production 42
abbrev pub written_end : List ℕ → List ℕ → List ℕ
written_end name space = codes "</" ++ name ++ space ++ codes ">"

-- an item as it is, in characters
abbrev pub written : Item → List ℕ
written (leaf l) = written_leaf l
written (start_tag t) = written_start t
written (empty_tag t) = written_empty t
written (end_tag name space) = written_end name space

-- an item as it is, in bytes of UTF-8
unfoldable pub spelling : Item → List ℕ
spelling i = encode_utf8_all (written i)

-- Whether an item meets the productions of its kind.

-- the number that digits name
abbrev pub number_of : ℕ → List ℕ → ℕ
number_of base digits = fold (λ n d. n * base + digit_value d) 0 digits

-- whether digits in a base name a Char: XML 1.0, production 66 with its constraint 'Legal Character'
abbrev pub is_number : ℕ → List ℕ → Bool
is_number base [] = false
is_number base (d ∷ ds) = list_all (λ c. is_digit c base) (d ∷ ds) && is_char (number_of base (d ∷ ds))

-- whether a piece may be where some characters end the text: no literal is < or & or one of these
abbrev pub meets_piece : (ℕ → Bool) → Piece → Bool
meets_piece stops (literal c) = is_char c && not (c == 60) && not (c == 38) && not (stops c)
meets_piece stops (entity name) = is_name name
meets_piece stops (decimal digits) = is_number 10 digits
meets_piece stops (hexadecimal digits) = is_number 16 digits

-- Attribute: XML 1.0, productions 41, 25 and 10
abbrev pub meets_attribute : Attribute → Bool
meets_attribute a =
    is_white a.space && is_name a.name && is_blank a.left && is_blank a.right
    && list_all (meets_piece (λ c. c == quote_char a.quote)) a.value

-- the inside of a start tag or an empty tag: XML 1.0, productions 40 and 44
abbrev pub meets_tag : Tag → Bool
meets_tag t = is_name t.name && list_all meets_attribute t.attributes && is_blank t.space

-- the text of a Comment: Chars without -- that do not end with -: XML 1.0, production 15
abbrev pub is_comment_text : List ℕ → Bool
is_comment_text cs = list_all is_char cs && lacks (codes "--") (cs ++ codes "-")

-- whether a text begins with white space
abbrev pub begins_with_space : List ℕ → Bool
begins_with_space [] = false
begins_with_space (c ∷ cs) = is_space c

-- whether a text is empty
abbrev pub is_nil : List ℕ → Bool
is_nil [] = true
is_nil (c ∷ cs) = false

-- PI: XML 1.0, productions 16 and 17. The target is not xml in any letters; the white space is as long as it can be;
-- no data without it
abbrev pub meets_instruction : Instruction → Bool
meets_instruction i =
    is_name i.target && not (bytes_eq (map to_ascii_lowercase i.target) (codes "xml")) && is_blank i.space
    && list_all is_char i.content && lacks (codes "?>") i.content
    && not (begins_with_space i.content) && (not (is_nil i.space) || is_nil i.content)

-- an ASCII letter
abbrev pub is_letter : ℕ → Bool
is_letter c = in_ranges ((65, 90) ∷ (97, 122) ∷ []) c

-- EncName: XML 1.0, production 81
abbrev pub is_encoding_name : List ℕ → Bool
is_encoding_name [] = false
is_encoding_name (c ∷ cs) =
    is_letter c && list_all (λ d. is_letter d || in_ranges ((48, 57) ∷ (45, 46) ∷ (95, 95) ∷ []) d) cs

-- VersionNum: XML 1.0, production 26
abbrev pub is_version : List ℕ → Bool
is_version cs = begins (codes "1.") cs && not (is_nil (drop 2 cs)) && list_all is_ascii_digit (drop 2 cs)

-- the value of SDDecl: XML 1.0, production 32
abbrev pub is_yes_or_no : List ℕ → Bool
is_yes_or_no cs = bytes_eq cs (codes "yes") || bytes_eq cs (codes "no")

-- a part of the XML declaration, by its name and a test of its value
abbrev pub meets_part : List ℕ → (List ℕ → Bool) → Attribute → Bool
meets_part name test a = meets_attribute a && bytes_eq a.name name && test (written_pieces a.value)

-- the same of a part that may be left out
abbrev pub meets_part_if_there : List ℕ → (List ℕ → Bool) → Option Attribute → Bool
meets_part_if_there name test None = true
meets_part_if_there name test (Some a) = meets_part name test a

-- XMLDecl: XML 1.0, productions 23 to 26, 32 and 80
abbrev pub meets_declaration : Declaration → Bool
meets_declaration d =
    meets_part (codes "version") is_version d.version
    && meets_part_if_there (codes "encoding") is_encoding_name d.encoding
    && meets_part_if_there (codes "standalone") is_yes_or_no d.standalone && is_blank d.space

-- a quoted literal: Chars other than its quote
abbrev pub meets_quoted : Quote → List ℕ → Bool
meets_quoted q cs = list_all (λ c. is_char c && not (c == quote_char q)) cs

-- the units of a subset, where a < is none that begins a comment or an instruction. This project's own
abbrev pub meets_inner : List SubsetUnit → Bool
meets_inner [] = true
meets_inner (SubsetUnit.comment cs ∷ us) = is_comment_text cs && meets_inner us
meets_inner (SubsetUnit.instruction cs ∷ us) = list_all is_char cs && lacks (codes "?>") cs && meets_inner us
meets_inner (SubsetUnit.quoted q cs ∷ us) = meets_quoted q cs && meets_inner us
meets_inner (SubsetUnit.char c ∷ us) =
    is_char c && list_all (λ d. not (c == d)) (codes "\"']")
    && not (begins (codes "<!--") (c ∷ flat_map written_inner us))
    && not (begins (codes "<?") (c ∷ flat_map written_inner us))
    && meets_inner us

-- whether a unit is a subset
abbrev pub is_subset : DoctypeUnit → Bool
is_subset (DoctypeUnit.subset us) = true
is_subset _ = false

-- a unit of a DOCTYPE. This project's own
abbrev pub meets_unit : DoctypeUnit → Bool
meets_unit (DoctypeUnit.quoted q cs) = meets_quoted q cs
meets_unit (DoctypeUnit.char c) = is_char c && list_all (λ d. not (c == d)) (codes "\"'[]<>")
meets_unit (DoctypeUnit.subset us) = meets_inner us

-- at most one of the units is a subset: XML 1.0, production 28
abbrev pub has_one_subset : List DoctypeUnit → Bool
has_one_subset [] = true
has_one_subset (u ∷ us) = (not (is_subset u) || list_all (λ v. not (is_subset v)) us) && has_one_subset us

-- whether a text begins with a character that would make a Name longer
abbrev pub begins_with_name_char : List ℕ → Bool
begins_with_name_char [] = false
begins_with_name_char (c ∷ cs) = is_name_char c

-- a DOCTYPE: S, a Name that is as long as it can be, and units. This project's own scan of XML 1.0, production 28
abbrev pub meets_doctype : Doctype → Bool
meets_doctype d =
    is_white d.space && is_name d.name && not (begins_with_name_char (written_units d.units))
    && list_all meets_unit d.units && has_one_subset d.units

-- whether a leaf meets the productions of its kind: a text is not empty and has no ]]> (XML 1.0, section 2.4), and so
-- on
abbrev pub meets_leaf : Leaf → Bool
meets_leaf (text ps) =
    not (is_nil (written_pieces ps)) && list_all (meets_piece (λ c. false)) ps
    && lacks (codes "]]>") (written_pieces ps)
meets_leaf (cdata cs) = list_all is_char cs && lacks (codes "]]>") cs
meets_leaf (Leaf.comment cs) = is_comment_text cs
meets_leaf (Leaf.instruction i) = meets_instruction i
meets_leaf (declaration d) = meets_declaration d
meets_leaf (doctype d) = meets_doctype d

-- whether an item meets the productions of its kind: XML 1.0, 14 to 44
unfoldable pub meets : Item → Bool
meets (leaf l) = meets_leaf l
meets (start_tag t) = meets_tag t
meets (empty_tag t) = meets_tag t
meets (end_tag name space) = is_name name && is_blank space

-- Where an item begins.

-- the byte order mark in UTF-8: XML 1.0, section 4.3.3
abbrev pub byte_order_mark : List ℕ
byte_order_mark = 0xEF ∷ 0xBB ∷ 0xBF ∷ []

-- where the items begin: after a byte order mark, which belongs to no item
unfoldable pub first_place : List ℕ → ℕ
first_place bytes = cond (begins byte_order_mark bytes) 3 0

-- whether what follows lets an item end here: a text runs to the next < or to the end. This project's own
abbrev pub ends_well : Item → List ℕ → Bool
ends_well (leaf (text ps)) [] = true
ends_well (leaf (text ps)) (b ∷ rest) = b == 60
ends_well _ rest = true

-- a declaration is at the first place alone: XML 1.0, production 22
abbrev pub may_begin_at : Item → ℕ → ℕ → Bool
may_begin_at (leaf (declaration d)) first p = p == first
may_begin_at _ first p = true

-- an item begins at a place: it meets the productions of its kind, its spelling is there, and it ends well
unfoldable pub begins_at : List ℕ → ℕ → Item → Bool
begins_at bytes p i =
    meets i && begins (spelling i) (drop p bytes) && ends_well i (drop (p + length (spelling i)) bytes)
    && may_begin_at i (first_place bytes) p

-- where items that begin at a place end
abbrev pub end_of_items : ℕ → List Item → ℕ
end_of_items p [] = p
end_of_items p (i ∷ is) = end_of_items (p + length (spelling i)) is

-- the items begin one after another from a place
abbrev pub walk_from : List ℕ → ℕ → List Item → Bool
walk_from bytes p [] = true
walk_from bytes p (i ∷ is) = begins_at bytes p i && walk_from bytes (p + length (spelling i)) is

-- the items begin one after another from the first place
unfoldable pub walk : List ℕ → List Item → Bool
walk bytes is = walk_from bytes (first_place bytes) is

-- and they end where the bytes end
unfoldable pub walk_to_end : List ℕ → List Item → Bool
walk_to_end bytes is = walk bytes is && end_of_items (first_place bytes) is == length bytes
