-- The records of a nest: for each token its type, the depth, the lengths of its prefix and of the whole, and its
-- place. All of it is this project's own.
use Rattle.std.specs.Prelude.{ℕ, zero, suc, ◌+◌, ◌-◌, ◌*◌, ◌/◌, ◌^◌, Bool, cond}
use Rattle.std.specs.Prelude.{◌||◌, List, [], ◌∷◌, ◌++◌, codes, bytes_eq}
use Rattle.std.specs.Prelude.{option_to_list}
use Rattle.xml_model.specs.Chars.{size, prefix_of, begins}
use Rattle.xml_model.specs.Items.{Attribute, Tag, Declaration, Leaf, text, cdata, declaration, doctype}
use Rattle.xml_model.specs.Items.{written_pieces, written_attribute, before_value, written_leaf, written_start}
use Rattle.xml_model.specs.Items.{written_empty, written_end, written_units}
use Rattle.xml_model.specs.Nest.{Forest, done, single, empty, element}
use Rattle.xml_model.specs.declared.TokenKind.{TokenKind}
use Rattle.xml_model.specs.declared.TokenKind.TheVariants as token

-- a record: its type (0 to 13), the depth, the length of the prefix and of the whole in bytes, and the place. A
-- record in parts, as the lists of the tree have it; `word` packs it
pub record Record : Type 0 where
  pub token : ℕ
  pub depth : ℕ
  pub prefix : ℕ
  pub len : ℕ
  pub offset : ℕ

-- the number of a kind of token, as its records have it
abbrev pub kind_number : TokenKind → ℕ
kind_number token.StartTag = 0
kind_number token.AttributeName = 2
kind_number token.NamespaceName = 3
kind_number token.Value = 4
kind_number token.Text = 5
kind_number token.Comment = 6
kind_number token.Target = 7
kind_number token.Data = 8
kind_number token.PartName = 9
kind_number token.PartValue = 10
kind_number token.Cdata = 11
kind_number token.Doctype = 12
kind_number token.Document = 13

-- the record of a token that is no name
abbrev pub plain : ℕ → ℕ → List ℕ → ℕ → Record
plain token depth cs offset = record { token = token; depth = depth; prefix = 0; len = size cs; offset = offset }

-- the record of a name, with the length of its prefix
abbrev pub named : ℕ → ℕ → List ℕ → ℕ → Record
named token depth cs offset =
    record { token = token; depth = depth; prefix = size (prefix_of cs); len = size cs; offset = offset }

-- a declaration of a namespace: `xmlns`, or a name that begins with `xmlns:` (Namespaces in XML 1.0, productions 1 to
-- 3)
unfoldable pub declares : List ℕ → Bool
declares name = bytes_eq name (codes "xmlns") || begins (codes "xmlns:") name

-- the type of an attribute's name: 3 where it declares a namespace, else 2
abbrev pub name_token : List ℕ → ℕ
name_token name = cond (declares name) (kind_number token.NamespaceName) (kind_number token.AttributeName)

-- the two records of an attribute whose name begins at a place: its name and its value
abbrev pub attribute_records : ℕ → ℕ → Attribute → List Record
attribute_records depth at a =
    named (name_token a.name) depth a.name at
    ∷ plain (kind_number token.Value) depth (written_pieces a.value) (at + size (before_value a)) ∷ []

-- the records of attributes from a place on, the white space before each included
abbrev pub attributes_records : ℕ → ℕ → List Attribute → List Record
attributes_records depth at [] = []
attributes_records depth at (a ∷ others) =
    attribute_records depth (at + size a.space) a ++ attributes_records depth (at + size (written_attribute a)) others

-- where the attributes of a tag begin, with the white space before them, if its < is at a place
abbrev pub attributes_place : ℕ → Tag → ℕ
attributes_place at t = at + 1 + size t.name

-- the records of a start tag or an empty tag: its name, and its attributes as they are
abbrev pub tag_records : ℕ → ℕ → Tag → List Record
tag_records depth at t =
    named (kind_number token.StartTag) depth t.name (at + 1)
    ∷ attributes_records depth (attributes_place at t) t.attributes

-- the records of the parts of the XML declaration: a name and a value each
abbrev pub declaration_part_records : ℕ → ℕ → List Attribute → List Record
declaration_part_records depth at [] = []
declaration_part_records depth at (a ∷ others) =
    plain (kind_number token.PartName) depth a.name (at + size a.space)
    ∷ plain (kind_number token.PartValue) depth (written_pieces a.value) (at + size a.space + size (before_value a))
    ∷ declaration_part_records depth (at + size (written_attribute a)) others

-- the parts that an XML declaration has
abbrev pub declaration_attributes : Declaration → List Attribute
declaration_attributes d = d.version ∷ option_to_list d.encoding ++ option_to_list d.standalone

-- the depth in a record. A level is the number of elements that hold the piece; what none holds has the depth 255
abbrev pub depth_at : ℕ → ℕ
depth_at zero = 255
depth_at (suc d) = d

-- the most bytes that one record of a text or a CDATA section has
abbrev pub cut_limit : ℕ
cut_limit = 1_048_575

-- the record of so many bytes of a text or a CDATA section from a place on
abbrev pub cut : ℕ → ℕ → ℕ → ℕ → Record
cut token depth len offset =
    record { token = token; depth = depth; prefix = 0; len = len; offset = offset }

-- the records of n bytes from a place on: so many cuts of 1,048,575 bytes each, and one of what they leave
abbrev pub cuts : ℕ → ℕ → ℕ → ℕ → ℕ → List Record
cuts zero token depth at n = cut token depth n at ∷ []
cuts (suc k) token depth at n =
    cut token depth cut_limit at ∷ cuts k token depth (at + cut_limit) (n - cut_limit)

-- how many cuts of 1,048,575 bytes are before the last one of n bytes, which has 1 to 1,048,575; no bytes have one cut
abbrev pub full_cuts : ℕ → ℕ
full_cuts n = (n - 1) / cut_limit

-- the records of a text or a CDATA section of n bytes from a place on: one where it has at most 1,048,575 bytes, else
-- one for each 1,048,575 bytes, and one for the 1 to 1,048,575 bytes that are left. A cut may be inside a character, a
-- reference or a line end
unfoldable pub cut_records : ℕ → ℕ → ℕ → ℕ → List Record
cut_records token depth at n = cuts (full_cuts n) token depth at n

-- the records of a text, where an element holds it; outside the root element it has none
abbrev pub text_records : ℕ → List Record → List Record
text_records zero rs = []
text_records (suc d) rs = rs

-- the records of a leaf at a level, which begins at a place
abbrev pub leaf_records : ℕ → ℕ → Leaf → List Record
leaf_records l at (text ps) =
    text_records l (cut_records (kind_number token.Text) (depth_at l) at (size (written_pieces ps)))
leaf_records l at (cdata cs) = cut_records (kind_number token.Cdata) (depth_at l) (at + 9) (size cs)
leaf_records l at (Leaf.comment cs) = plain (kind_number token.Comment) (depth_at l) cs (at + 4) ∷ []
leaf_records l at (Leaf.instruction i) =
    plain (kind_number token.Target) (depth_at l) i.target (at + 2)
    ∷ plain (kind_number token.Data) (depth_at l) i.content (at + 2 + size i.target + size i.space) ∷ []
leaf_records l at (declaration d) = declaration_part_records (depth_at l) (at + 5) (declaration_attributes d)
leaf_records l at (doctype d) =
    plain (kind_number token.Doctype) (depth_at l) (d.space ++ d.name ++ written_units d.units) (at + 9) ∷ []

-- where a leaf that begins at a place ends
abbrev pub past_leaf : ℕ → Leaf → ℕ
past_leaf at x = at + size (written_leaf x)

-- the records of leaves that follow one another
abbrev pub run_records : ℕ → ℕ → List Leaf → List Record
run_records l at [] = []
run_records l at (x ∷ xs) = leaf_records l at x ++ run_records l (past_leaf at x) xs

-- where leaves that follow one another end
abbrev pub past_run : ℕ → List Leaf → ℕ
past_run at [] = at
past_run at (x ∷ xs) = past_run (past_leaf at x) xs

-- where an empty tag that begins at a place ends
abbrev pub past_empty : ℕ → Tag → ℕ
past_empty at t = at + size (written_empty t)

-- where a start tag that begins at a place ends
abbrev pub past_start : ℕ → Tag → ℕ
past_start at t = at + size (written_start t)

-- where a list of pieces that begins at a place ends
abbrev pub past_forest : ℕ → Forest → ℕ
past_forest at done = at
past_forest at (single x f) = past_forest (past_leaf at x) f
past_forest at (empty t f) = past_forest (past_empty at t) f
past_forest at (element t inside space f) =
    past_forest (past_forest (past_start at t) inside + size (written_end t.name space)) f

-- where an element that begins at a place ends
abbrev pub past_element : ℕ → Tag → Forest → List ℕ → ℕ
past_element at t inside space = past_forest (past_start at t) inside + size (written_end t.name space)

-- the records of a list of pieces at a level, in order; end tags have none
abbrev pub forest_records : ℕ → ℕ → Forest → List Record
forest_records l at done = []
forest_records l at (single x f) = leaf_records l at x ++ forest_records l (past_leaf at x) f
forest_records l at (empty t f) = tag_records l at t ++ forest_records l (past_empty at t) f
forest_records l at (element t inside space f) =
    tag_records l at t ++ forest_records (suc l) (past_start at t) inside
    ++ forest_records l (past_element at t inside space) f

-- the record of the document, which comes first
abbrev pub document : Record
document = record { token = kind_number token.Document; depth = 255; prefix = 0; len = 0; offset = 0 }

-- all records of a nest whose first item is at a place
unfoldable pub records : Forest → ℕ → List Record
records nest first = document ∷ forest_records 0 first nest

-- a record as a number of 64 bits: type 63..60, depth 59..52, length 51..32, place 29..0; in a name's length field
-- the length of the prefix is above eleven bits
unfoldable pub word : Record → ℕ
word p = p.token * 2 ^ 60 + p.depth * 2 ^ 52 + p.prefix * 2 ^ 43 + p.len * 2 ^ 32 + p.offset
