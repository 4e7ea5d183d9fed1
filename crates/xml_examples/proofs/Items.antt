-- Items of worked documents: what begins at a place, and what does not.
use Rattle.std.proofs.Common.{◌≡◌, ℕ, List, [], ◌∷◌, ◌++◌, map, refl, codes, true, false, None, Some, Option}
use Rattle.xml_model.specs.declared.Kind.TheVariants as kinds
use Rattle.xml_model.specs.Items.{Piece, literal, entity, decimal, hexadecimal, Quote, Attribute, SubsetUnit, DoctypeUnit, Leaf, Item, leaf, start_tag, empty_tag, end_tag, meets, begins_at, walk_to_end}
use Rattle.xml_model.specs.Nest.{Forest, done, single, element, flat, is_nest}
use Rattle.xml_model.specs.Tree.{all}
use Rattle.xml_examples.proofs.Parts.{opened, hollow, words, text_of, tag, tag_with, attr, line, line_of}

-- Every kind of piece: a literal, a reference by name, in base 10 and in base 16. A text runs to the next < or to the end.

abbrev pieces : List Piece
pieces = literal 120 ∷ entity (codes "lt") ∷ decimal (codes "0065") ∷ hexadecimal (codes "1f600") ∷ []

text_begins : begins_at (codes "x&lt;&#0065;&#x1f600;</a>") 0 (leaf (Leaf.text pieces)) ≡ true
unfolding opened
text_begins = refl

text_to_the_end : begins_at (codes "x&lt;&#0065;&#x1f600;") 0 (leaf (Leaf.text pieces)) ≡ true
unfolding opened
text_to_the_end = refl

text_too_short : begins_at (codes "xy<") 0 (leaf (text_of (codes "x"))) ≡ false
unfolding opened
text_too_short = refl

-- é is two bytes, so the < after it is at 2
text_of_two_bytes : begins_at (0xC3 ∷ 0xA9 ∷ codes "<a/>") 2 (empty_tag (tag (codes "a"))) ≡ true
unfolding opened
text_of_two_bytes = refl

-- digits may begin with zeros; what they name is a character, which neither 1 nor a surrogate is
control_named : meets (leaf (Leaf.text (decimal (codes "1") ∷ []))) ≡ false
unfolding opened
control_named = refl

surrogate_named : meets (leaf (Leaf.text (hexadecimal (codes "D800") ∷ []))) ≡ false
unfolding opened
surrogate_named = refl

long_digits : meets (leaf (Leaf.text (decimal (codes "99999999999999999999999999") ∷ []))) ≡ false
unfolding opened
long_digits = refl

-- ]]> is in no text; in a value it may
end_mark : meets (leaf (text_of (codes "]]>"))) ≡ false
unfolding opened
end_mark = refl

end_mark_escaped : begins_at (codes "]]&gt;") 0 (leaf (Leaf.text (literal 93 ∷ literal 93 ∷ entity (codes "gt") ∷ []))) ≡ true
unfolding opened
end_mark_escaped = refl

end_mark_in_value : begins_at (codes "<a b=\"]]>\"/>") 0 (empty_tag (tag_with (codes "a") (attr (codes "b") (codes "]]>") ∷ []))) ≡ true
unfolding opened
end_mark_in_value = refl

-- an empty text is no item
empty_text : meets (leaf (Leaf.text [])) ≡ false
unfolding opened
empty_text = refl

-- Tags: white space is kept, both quotes are.

abbrev spaced : Attribute
spaced = record { space = codes "  "; name = codes "b"; left = codes " "; right = 9 ∷ []; quote = Quote.single; value = map literal (codes "say \"v\"") }

start_begins : begins_at (codes "<a  b =" ++ 9 ∷ codes "'say \"v\"' >x") 0 (start_tag (record { name = codes "a"; attributes = spaced ∷ []; space = codes " " })) ≡ true
unfolding opened
start_begins = refl

empty_begins : begins_at (codes "<a b=\">\"/>") 0 (empty_tag (tag_with (codes "a") (attr (codes "b") (codes ">") ∷ []))) ≡ true
unfolding opened
empty_begins = refl

end_begins : begins_at (codes "<a></a >") 3 (end_tag (codes "a") (codes " ")) ≡ true
unfolding opened
end_begins = refl

-- between attributes there is white space, and no < in a value
attributes_touch : meets (start_tag (tag_with (codes "a") (attr (codes "b") (codes "1") ∷ record { space = []; name = codes "c"; left = []; right = []; quote = Quote.double; value = [] } ∷ []))) ≡ false
unfolding opened
attributes_touch = refl

less_in_value : meets (empty_tag (tag_with (codes "a") (attr (codes "b") (codes "<") ∷ []))) ≡ false
unfolding opened
less_in_value = refl

own_quote_in_value : meets (empty_tag (tag_with (codes "a") (attr (codes "b") (codes "\"") ∷ []))) ≡ false
unfolding opened
own_quote_in_value = refl

-- Comments and sections.

comment_begins : begins_at (codes "<!--<x/>--><a/>") 0 (leaf (Leaf.comment (codes "<x/>"))) ≡ true
unfolding opened
comment_begins = refl

comment_of_an_arrow : begins_at (codes "<!--->-->") 0 (leaf (Leaf.comment (codes "->"))) ≡ true
unfolding opened
comment_of_an_arrow = refl

two_hyphens : meets (leaf (Leaf.comment (codes "a--b"))) ≡ false
unfolding opened
two_hyphens = refl

last_hyphen : meets (leaf (Leaf.comment (codes "a-"))) ≡ false
unfolding opened
last_hyphen = refl

cdata_begins : begins_at (codes "<![CDATA[<y/>]]></a>") 0 (leaf (Leaf.cdata (codes "<y/>"))) ≡ true
unfolding opened
cdata_begins = refl

cdata_ends_first : meets (leaf (Leaf.cdata (codes "a]]>b"))) ≡ false
unfolding opened
cdata_ends_first = refl

-- Instructions: the white space after the target is as long as it can be; xml in any letters is no target.

abbrev instruction : List ℕ → List ℕ → List ℕ → Item
instruction target space content = leaf (Leaf.instruction (record { target = target; space = space; content = content }))

instruction_begins : begins_at (codes "<?p  q r?>") 0 (instruction (codes "p") (codes "  ") (codes "q r")) ≡ true
unfolding opened
instruction_begins = refl

bare_instruction : begins_at (codes "<?p?>") 0 (instruction (codes "p") [] []) ≡ true
unfolding opened
bare_instruction = refl

space_in_data : meets (instruction (codes "p") (codes " ") (codes " q")) ≡ false
unfolding opened
space_in_data = refl

xml_target : meets (instruction (codes "XmL") (codes " ") (codes "q")) ≡ false
unfolding opened
xml_target = refl

longer_target : begins_at (codes "<?xmlx?>") 0 (instruction (codes "xmlx") [] []) ≡ true
unfolding opened
longer_target = refl

-- The declaration: its three parts in this order, at the first place alone, which is 3 after a byte order mark.

abbrev declaration : List ℕ → Option Attribute → Option Attribute → Item
declaration version encoding standalone = leaf (Leaf.declaration (record { version = attr (codes "version") version; encoding = encoding; standalone = standalone; space = [] }))

abbrev whole : Item
whole = declaration (codes "1.0") (Some (attr (codes "encoding") (codes "UTF-8"))) (Some (attr (codes "standalone") (codes "yes")))

declaration_begins : begins_at (codes "<?xml version=\"1.0\" encoding=\"UTF-8\" standalone=\"yes\"?><a/>") 0 whole ≡ true
unfolding opened
declaration_begins = refl

declaration_after_mark : begins_at (0xEF ∷ 0xBB ∷ 0xBF ∷ codes "<?xml version=\"1.1\"?><a/>") 3 (declaration (codes "1.1") None None) ≡ true
unfolding opened
declaration_after_mark = refl

declaration_inside : begins_at (codes "<a><?xml version=\"1.0\"?></a>") 3 (declaration (codes "1.0") None None) ≡ false
unfolding opened
declaration_inside = refl

other_version : meets (declaration (codes "2.0") None None) ≡ false
unfolding opened
other_version = refl

no_digit : meets (declaration (codes "1.") None None) ≡ false
unfolding opened
no_digit = refl

maybe_standalone : meets (declaration (codes "1.0") None (Some (attr (codes "standalone") (codes "maybe")))) ≡ false
unfolding opened
maybe_standalone = refl

-- The Doctype: literals hide what would end it; one subset, whose units are comments, instructions, literals and characters.

abbrev doctype : List DoctypeUnit → Item
doctype units = leaf (Leaf.doctype (record { space = codes " "; name = codes "a"; units = units }))

abbrev each_unit : List SubsetUnit
each_unit = SubsetUnit.comment (codes " ] ") ∷ SubsetUnit.instruction (codes "] ?") ∷ SubsetUnit.quoted Quote.double (codes "]'") ∷ SubsetUnit.quoted Quote.single (codes ">\"") ∷ SubsetUnit.char 60 ∷ SubsetUnit.char 33 ∷ []

doctype_begins : begins_at (codes "<!DOCTYPE a \"[>'\" 'b' [<!-- ] --><?] ??>\"]'\"'>\"'<!]><a/>") 0
    (doctype (DoctypeUnit.char 32 ∷ DoctypeUnit.quoted Quote.double (codes "[>'") ∷ DoctypeUnit.char 32 ∷ DoctypeUnit.quoted Quote.single (codes "b") ∷ DoctypeUnit.char 32 ∷ DoctypeUnit.subset each_unit ∷ [])) ≡ true
unfolding opened
doctype_begins = refl

two_subsets : meets (doctype (DoctypeUnit.char 32 ∷ DoctypeUnit.subset [] ∷ DoctypeUnit.subset [] ∷ [])) ≡ false
unfolding opened
two_subsets = refl

-- a < that begins a comment is no character by itself, and <?> does not close itself
comment_as_chars : meets (doctype (DoctypeUnit.char 32 ∷ DoctypeUnit.subset (map SubsetUnit.char (codes "<!--")) ∷ [])) ≡ false
unfolding opened
comment_as_chars = refl

open_instruction : meets (doctype (DoctypeUnit.char 32 ∷ DoctypeUnit.subset (map SubsetUnit.char (codes "<?>")) ∷ [])) ≡ false
unfolding opened
open_instruction = refl

-- the name is as long as it can be
name_goes_on : meets (doctype (DoctypeUnit.char 98 ∷ [])) ≡ false
unfolding opened
name_goes_on = refl

-- Whole documents.

-- <!--<x/>--><a b='>'><![CDATA[<y/>]]></a>
abbrev hidden : Forest
hidden =
    single (Leaf.comment (codes "<x/>"))
    (element (tag_with (codes "a") (record { space = codes " "; name = codes "b"; left = []; right = []; quote = Quote.single; value = literal 62 ∷ [] } ∷ [])) (single (Leaf.cdata (codes "<y/>")) done) [] done)

hidden_walks : walk_to_end (codes "<!--<x/>--><a b='>'><![CDATA[<y/>]]></a>") (flat hidden) ≡ true
unfolding opened
hidden_walks = refl

hidden_nests : is_nest hidden ≡ true
unfolding opened
hidden_nests = refl

hidden_nodes : map line_of (all hidden 0) ≡ line kinds.Root 0 40 ∷ line kinds.Comment 0 11 ∷ line kinds.Element 11 29 ∷ line kinds.Attribute 14 5 ∷ line kinds.Text 20 16 ∷ []
unfolding opened
hidden_nodes = refl

-- <!DOCTYPE a [<!-- ] -->]><a/>
abbrev with_subset : Forest
with_subset = single (Leaf.doctype (record { space = codes " "; name = codes "a"; units = DoctypeUnit.char 32 ∷ DoctypeUnit.subset (SubsetUnit.comment (codes " ] ") ∷ []) ∷ [] })) (hollow (codes "a") done)

subset_walks : walk_to_end (codes "<!DOCTYPE a [<!-- ] -->]><a/>") (flat with_subset) ≡ true
unfolding opened
subset_walks = refl

subset_nests : is_nest with_subset ≡ true
unfolding opened
subset_nests = refl

subset_nodes : map line_of (all with_subset 0) ≡ line kinds.Root 0 29 ∷ line kinds.Element 25 4 ∷ []
unfolding opened
subset_nodes = refl

-- no nests: a text after the root element, two root elements, a Doctype after the root element, a text before it by a reference
text_after : is_nest (hollow (codes "a") (words (codes "x") done)) ≡ false
unfolding opened
text_after = refl

two_roots : is_nest (hollow (codes "a") (hollow (codes "b") done)) ≡ false
unfolding opened
two_roots = refl

late_doctype : is_nest (hollow (codes "a") (single (Leaf.doctype (record { space = codes " "; name = codes "a"; units = [] })) done)) ≡ false
unfolding opened
late_doctype = refl

space_by_reference : is_nest (single (Leaf.text (decimal (codes "32") ∷ [])) (hollow (codes "a") done)) ≡ false
unfolding opened
space_by_reference = refl

space_as_written : is_nest (words (codes " ") (hollow (codes "a") done)) ≡ true
unfolding opened
space_as_written = refl
