-- Short forms in which the worked examples write their documents, and what a proof by computing opens.
use Rattle.std.proofs.Common.{ℕ, List, [], ◌-◌, map, true, Bool, codes}
use Rattle.std.specs.Char.{encode_utf8}
use Rattle.std.specs.List.{flat_map}
use Rattle.xml_model.specs.declared.Kind.{Kind}
use Rattle.xml_model.specs.Chars.{in_ranges, is_char, is_space, is_name_start, is_name_char, is_blank, is_white, is_name, is_ncname, is_qname, prefix_of, local_of, size}
use Rattle.xml_model.specs.Items.{literal, Quote, Attribute, Tag, Leaf, spelling, meets, first_place, begins_at, walk, walk_to_end}
use Rattle.xml_model.specs.Nest.{Forest, single, empty, element, flat, is_content, is_tail, is_body, is_head, is_nest}
use Rattle.xml_model.specs.Records.{cut_records, declares, records, word}
use Rattle.xml_model.specs.Tree.{Step, Entry, kind_of, on_axis, axis_list, all, at_index, at_path}
use Rattle.xml_model.specs.Content.{text_content, value_content, literal_content, content}
use Rattle.xml_model.specs.Names.{binding, expanded, passes}
use Rattle.xml_model.specs.Levels.{level, last_level, record_level, level_word, tree_levels, levels, tree_levels_one, levels_one}
use Rattle.xml_model.specs.Accepted.{first_wide}

-- what a proof by computing opens
unfoldable pub opened : Bool
unfolding encode_utf8 in_ranges is_char is_space is_name_start is_name_char is_blank is_white is_name is_ncname is_qname prefix_of local_of size spelling meets first_place begins_at walk walk_to_end flat is_content is_tail is_body is_head is_nest declares cut_records records word on_axis axis_list all at_index at_path text_content value_content literal_content content binding expanded passes level last_level record_level level_word tree_levels levels tree_levels_one levels_one first_wide
opened = true

-- literal characters; a text of them
abbrev pub text_of : List ℕ → Leaf
text_of cs = Leaf.text (map literal cs)

-- name="value", with a space before it
abbrev pub attr : List ℕ → List ℕ → Attribute
attr name value = record { space = codes " "; name = name; left = []; right = []; quote = Quote.double; value = map literal value }

-- a tag with attributes, and one without
abbrev pub tag_with : List ℕ → List Attribute → Tag
tag_with name others = record { name = name; attributes = others; space = [] }

abbrev pub tag : List ℕ → Tag
tag name = tag_with name []

-- an element without attributes, and an empty tag without; what follows them is last
abbrev pub elem : List ℕ → Forest → Forest → Forest
elem name inside rest = element (tag name) inside [] rest

abbrev pub hollow : List ℕ → Forest → Forest
hollow name rest = empty (tag name) rest

-- one text
abbrev pub words : List ℕ → Forest → Forest
words cs rest = single (text_of cs) rest

-- what a nest prints
abbrev pub printed : Forest → List ℕ
printed f = flat_map spelling (flat f)

-- steps
abbrev pub c : ℕ → Step
c n = Step.child n

abbrev pub a : ℕ → Step
a n = Step.attribute n

-- a node by its kind, its start and its length, as queries print it
pub record Line : Type 0 where
  pub kind : Kind
  pub start : ℕ
  pub len : ℕ

abbrev pub line : Kind → ℕ → ℕ → Line
line kind start len = record { kind = kind; start = start; len = len }

abbrev pub line_of : Entry → Line
line_of e = line (kind_of e.what) e.start (e.stop - e.start)
