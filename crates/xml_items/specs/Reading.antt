-- What private functions promise: what is at the start of a text, pieces, attributes and items, as readers that go as
-- the code goes. That they read exactly the items of the definitions is proved (`ItemLaws`, `WalkLemmas`).
use Rattle.std.specs.Prelude.{ℕ, Bool, true, false, cond, not, ◌&&◌, ◌||◌, ◌==◌, map, List, [], ◌∷◌, codes, drop}
use Rattle.std.specs.Prelude.{bytes_eq, Option, Some, None}
use Rattle.std.specs.List.{list_all}
use Rattle.std.specs.Char.{to_ascii_lowercase}
use Rattle.xml_model.specs.Chars.{is_char, is_space, begins}
use Rattle.xml_model.specs.Items.{Piece, literal, Quote, single, double, Attribute, Tag, SubsetUnit, DoctypeUnit, Leaf}
use Rattle.xml_model.specs.Items.{Item, leaf, start_tag, empty_tag, end_tag, quote_char, written_pieces, is_nil}
use Rattle.xml_model.specs.Items.{is_version, is_encoding_name, is_yes_or_no, has_one_subset}
use Rattle.xml_chars.specs.Readers.{Reader, both, mapped, kept, run, one_of, word, look_at, choose_by, many, after_run}
use Rattle.xml_chars.specs.Reading.{ascii_head, begins_name, read_name, read_space, read_reference}

-- ---- pieces

abbrev pub is_literal : (ℕ → Bool) → ℕ → Bool
is_literal stops c = is_char c && not (c == 60) && not (c == 38) && not (stops c)

pub data PieceForm : Type 0 where
  by_reference by_itself : PieceForm

unfoldable pub piece_form : List ℕ → PieceForm
piece_form text = cond (ascii_head text == 38) by_reference by_itself

abbrev pub read_piece_form : (ℕ → Bool) → PieceForm → Reader Piece
read_piece_form stops by_reference = read_reference
read_piece_form stops by_itself = mapped literal (one_of (is_literal stops))

unfoldable pub read_piece : (ℕ → Bool) → Reader Piece
read_piece stops = choose_by piece_form (read_piece_form stops)

-- ---- attributes

unfoldable pub quote_form : List ℕ → Quote
quote_form text = cond (ascii_head text == 39) single double

unfoldable pub read_quote : Reader Quote
read_quote = choose_by quote_form (λ q. mapped (λ _. q) (word (quote_char q ∷ [])))

abbrev pub ends_value : Quote → ℕ → Bool
ends_value q c = c == quote_char q

unfoldable pub in_value : Quote → List ℕ → Bool
in_value q text = not (ascii_head text == quote_char q)

unfoldable pub read_value : Quote → Reader (List Piece)
read_value q = many (in_value q) (read_piece (ends_value q))

abbrev pub some_space : List ℕ → Bool
some_space space = not (is_nil space)

abbrev pub BareParts : Type 0
BareParts = List ℕ × (List ℕ × (Unit {0} × (List ℕ × (Quote × (List Piece × Unit {0})))))

-- an attribute without the white space before it
abbrev pub read_bare_parts : Reader BareParts
read_bare_parts =
    both read_name (λ _. both read_space
    (λ _. both (word (codes "="))
    (λ _. both read_space (λ _. both read_quote (λ q. both (read_value q) (λ _. word (quote_char q ∷ [])))))))

abbrev pub AttributeParts : Type 0
AttributeParts = List ℕ × BareParts

abbrev pub read_attribute_parts : Reader AttributeParts
read_attribute_parts = both (kept some_space read_space) (λ _. read_bare_parts)

abbrev pub attribute_of : AttributeParts → Attribute
attribute_of p = record {
  space = p.0;
  name = p.1.0;
  left = p.1.1.0;
  right = p.1.1.1.1.0;
  quote = p.1.1.1.1.1.0;
  value = p.1.1.1.1.1.1.0;
}

unfoldable pub read_bare : Reader Attribute
read_bare = mapped (λ p. attribute_of ([], p)) read_bare_parts

unfoldable pub read_attribute : Reader Attribute
read_attribute = mapped attribute_of read_attribute_parts

-- white space, if any, and then a name
unfoldable pub begins_attribute : List ℕ → Bool
begins_attribute text = begins_name (after_run is_space text)

unfoldable pub read_attributes : Reader (List Attribute)
read_attributes = many begins_attribute read_attribute

-- ---- tags

unfoldable pub closes_empty : List ℕ → Bool
closes_empty text = ascii_head text == 47

abbrev pub read_close_by : Bool → Reader Bool
read_close_by true = mapped (λ _. true) (word (codes "/>"))
read_close_by false = mapped (λ _. false) (word (codes ">"))

unfoldable pub read_close : Reader Bool
read_close = choose_by closes_empty read_close_by

abbrev pub tag_item : Bool → Tag → Item
tag_item true t = empty_tag t
tag_item false t = start_tag t

abbrev pub tag_of : Unit {0} × (List ℕ × (List Attribute × (List ℕ × Bool))) → Item
tag_of p = tag_item p.1.1.1.1 record { name = p.1.0; attributes = p.1.1.0; space = p.1.1.1.0 }

unfoldable pub read_tag : Reader Item
read_tag =
    mapped tag_of (both (word (codes "<"))
    (λ _. both read_name (λ _. both read_attributes (λ _. both read_space (λ _. read_close)))))

unfoldable pub read_end_tag : Reader Item
read_end_tag =
    mapped (λ p. end_tag p.1.0 p.1.1.0)
    (both (word (codes "</")) (λ _. both read_name (λ _. both read_space (λ _. word (codes ">")))))

-- ---- what runs up to a mark

-- the characters before the first place where the mark is
abbrev pub push : ℕ → Option (List ℕ × List ℕ) → Option (List ℕ × List ℕ)
push c None = None
push c (Some p) = Some (c ∷ p.0, p.1)

abbrev pub until : List ℕ → Reader (List ℕ)
until mark [] = None
until mark (c ∷ text) = cond (begins mark (c ∷ text)) (Some ([], c ∷ text)) (push c (until mark text))

unfoldable pub read_until : List ℕ → Reader (List ℕ)
read_until mark = kept (list_all is_char) (until mark)

abbrev pub read_comment_text : Reader (List ℕ × Unit {0})
read_comment_text = both (read_until (codes "--")) (λ _. word (codes "-->"))

unfoldable pub read_comment : Reader Item
read_comment = mapped (λ p. leaf (Leaf.comment p.1.0)) (both (word (codes "<!--")) (λ _. read_comment_text))

unfoldable pub read_cdata : Reader Item
read_cdata =
    mapped (λ p. leaf (Leaf.cdata p.1.0))
    (both (word (codes "<![CDATA[")) (λ _. both (read_until (codes "]]>")) (λ _. word (codes "]]>"))))

abbrev pub is_xml : List ℕ → Bool
is_xml target = bytes_eq (map to_ascii_lowercase target) (codes "xml")

abbrev pub parted : List ℕ × (List ℕ × (List ℕ × Unit {0})) → Bool
parted p = not (is_nil p.1.0) || is_nil p.1.1.0

abbrev pub instruction_of : Unit {0} × (List ℕ × (List ℕ × (List ℕ × Unit {0}))) → Item
instruction_of p = leaf (Leaf.instruction record { target = p.1.0; space = p.1.1.0; content = p.1.1.1.0 })

unfoldable pub read_instruction : Reader Item
read_instruction =
    mapped instruction_of
    (both (word (codes "<?"))
    (λ _. kept parted (both (kept (λ n. not (is_xml n)) read_name)
    (λ _. both read_space (λ _. both (read_until (codes "?>")) (λ _. word (codes "?>")))))))

-- ---- the XML declaration

abbrev pub is_part : List ℕ → (List ℕ → Bool) → Attribute → Bool
is_part name test a = bytes_eq a.name name && test (written_pieces a.value)

unfoldable pub read_part : List ℕ → (List ℕ → Bool) → Reader Attribute
read_part name test = kept (is_part name test) read_attribute

-- the name that follows the white space
abbrev pub is_name_read : List ℕ → Option (List ℕ × List ℕ) → Bool
is_name_read name None = false
is_name_read name (Some p) = bytes_eq p.0 name

unfoldable pub begins_part : List ℕ → List ℕ → Bool
begins_part name text = is_name_read name (read_name (after_run is_space text))

abbrev pub read_option_by : List ℕ → (List ℕ → Bool) → Bool → Reader (Option Attribute)
read_option_by name test true = mapped Some (read_part name test)
read_option_by name test false = mapped (λ _. None) (look_at (λ _. true))

unfoldable pub read_option : List ℕ → (List ℕ → Bool) → Reader (Option Attribute)
read_option name test = choose_by (begins_part name) (read_option_by name test)

abbrev pub declaration_of : Unit {0} × (Attribute × (Option Attribute × (Option Attribute × (List ℕ × Unit {0})))) →
    Item
declaration_of p =
    leaf (Leaf.declaration record { version = p.1.0; encoding = p.1.1.0; standalone = p.1.1.1.0; space = p.1.1.1.1.0 })

unfoldable pub read_declaration : Reader Item
read_declaration =
    mapped declaration_of
    (both (word (codes "<?xml"))
    (λ _. both (read_part (codes "version") is_version)
    (λ _. both (read_option (codes "encoding") is_encoding_name)
    (λ _. both (read_option (codes "standalone") is_yes_or_no) (λ _. both read_space (λ _. word (codes "?>")))))))

-- ---- the document type declaration

unfoldable pub read_quoted : Quote → Reader (List ℕ)
read_quoted q =
    mapped (λ p. p.1.0) (both (word (quote_char q ∷ []))
    (λ _. both (run (λ c. is_char c && not (c == quote_char q))) (λ _. word (quote_char q ∷ []))))

pub data InnerForm : Type 0 where
  in_comment in_instruction : InnerForm
  in_quotes : Quote → InnerForm
  in_character : InnerForm

unfoldable pub inner_form : List ℕ → InnerForm
inner_form text =
    cond (begins (codes "<!--") text) in_comment
    (cond (begins (codes "<?") text) in_instruction
    (cond (ascii_head text == 34) (in_quotes double) (cond (ascii_head text == 39) (in_quotes single) in_character)))

abbrev pub is_inner_char : ℕ → Bool
is_inner_char c = is_char c && list_all (λ d. not (c == d)) (codes "\"']")

abbrev pub read_inner_by : InnerForm → Reader SubsetUnit
read_inner_by in_comment = mapped (λ p. SubsetUnit.comment p.1.0) (both (word (codes "<!--")) (λ _. read_comment_text))
read_inner_by in_instruction =
    mapped (λ p. SubsetUnit.instruction p.1.0)
    (both (word (codes "<?")) (λ _. both (read_until (codes "?>")) (λ _. word (codes "?>"))))
read_inner_by (in_quotes q) = mapped (SubsetUnit.quoted q) (read_quoted q)
read_inner_by in_character = mapped SubsetUnit.char (one_of is_inner_char)

unfoldable pub read_inner : Reader SubsetUnit
read_inner = choose_by inner_form read_inner_by

unfoldable pub in_subset : List ℕ → Bool
in_subset text = not (ascii_head text == 93)

unfoldable pub read_subset : Reader (List SubsetUnit)
read_subset = many in_subset read_inner

pub data UnitForm : Type 0 where
  with_quotes : Quote → UnitForm
  with_subset with_character : UnitForm

unfoldable pub unit_form : List ℕ → UnitForm
unit_form text =
    cond (ascii_head text == 34) (with_quotes double)
    (cond (ascii_head text == 39) (with_quotes single) (cond (ascii_head text == 91) with_subset with_character))

abbrev pub is_unit_char : ℕ → Bool
is_unit_char c = is_char c && list_all (λ d. not (c == d)) (codes "\"'[]<>")

abbrev pub read_unit_by : UnitForm → Reader DoctypeUnit
read_unit_by (with_quotes q) = mapped (DoctypeUnit.quoted q) (read_quoted q)
read_unit_by with_subset =
    mapped (λ p. DoctypeUnit.subset p.1.0) (both (word (codes "[")) (λ _. both read_subset (λ _. word (codes "]"))))
read_unit_by with_character = mapped DoctypeUnit.char (one_of is_unit_char)

unfoldable pub read_unit : Reader DoctypeUnit
read_unit = choose_by unit_form read_unit_by

unfoldable pub in_doctype : List ℕ → Bool
in_doctype text = not (ascii_head text == 62)

unfoldable pub read_units : Reader (List DoctypeUnit)
read_units = kept has_one_subset (many in_doctype read_unit)

abbrev pub doctype_of : Unit {0} × (List ℕ × (List ℕ × (List DoctypeUnit × Unit {0}))) → Item
doctype_of p = leaf (Leaf.doctype record { space = p.1.0; name = p.1.1.0; units = p.1.1.1.0 })

unfoldable pub read_doctype : Reader Item
read_doctype =
    mapped doctype_of (both (word (codes "<!DOCTYPE"))
    (λ _. both (kept some_space read_space) (λ _. both read_name (λ _. both read_units (λ _. word (codes ">"))))))

-- ---- texts

abbrev pub ends_text : List ℕ → Bool
ends_text [] = true
ends_text (c ∷ text) = c == 60

unfoldable pub in_text : List ℕ → Bool
in_text text = not (ends_text text) && not (begins (codes "]]>") text)

unfoldable pub read_pieces : Reader (List Piece)
read_pieces = many in_text (read_piece (λ c. false))

unfoldable pub read_text : Reader Item
read_text =
    mapped (λ p. leaf (Leaf.text p.0))
    (both (kept (λ ps. not (is_nil (written_pieces ps))) read_pieces) (λ _. look_at ends_text))

-- ---- items

pub data ItemForm : Type 0 where
  as_text as_tag as_end_tag as_comment as_cdata as_doctype as_instruction as_declaration : ItemForm

-- what begins with <? is known apart by its target
unfoldable pub item_form : List ℕ → ItemForm
item_form text =
    cond (begins (codes "<") text)
    (cond (begins (codes "/") (drop 1 text)) as_end_tag
    (cond (begins (codes "?") (drop 1 text))
    (cond (is_name_read (codes "xml") (read_name (drop 2 text))) as_declaration as_instruction)
    (cond (begins (codes "!") (drop 1 text))
    (cond (begins (codes "-") (drop 2 text)) as_comment
    (cond (begins (codes "[") (drop 2 text)) as_cdata as_doctype)) as_tag)))
    as_text

abbrev pub read_by : Bool → ItemForm → Reader Item
read_by first as_text = read_text
read_by first as_tag = read_tag
read_by first as_end_tag = read_end_tag
read_by first as_comment = read_comment
read_by first as_cdata = read_cdata
read_by first as_doctype = read_doctype
read_by first as_instruction = read_instruction
read_by true as_declaration = read_declaration
read_by false as_declaration = λ _. None

-- the item at the start; a declaration at the first place alone
unfoldable pub read_item : Bool → Reader Item
read_item first = choose_by item_form (read_by first)
