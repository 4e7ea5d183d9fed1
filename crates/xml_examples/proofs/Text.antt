-- Contents, bindings, expanded names and node tests of worked documents.
use Rattle.std.proofs.Common.{◌≡◌, ℕ, List, [], ◌∷◌, ◌++◌, map, refl, codes, Bool, true, false, None, Some}
use Rattle.xml_model.specs.Items.{literal, entity, decimal, hexadecimal, Quote, Attribute, Leaf, walk_to_end}
use Rattle.xml_model.specs.Nest.{Forest, done, single, empty, element, flat}
use Rattle.xml_model.specs.Tree.{Thing, all}
use Rattle.xml_model.specs.Content.{content, text_content, value_content}
use Rattle.xml_model.specs.Names.{Test, NameTest, Expanded, binding, expanded, scope, passes, xml_uri}
use Rattle.xml_examples.proofs.Parts.{opened, elem, hollow, words, tag_with, attr}
use Rattle.xml_examples.proofs.Tree.{merged, mixed}

abbrev contents : Forest → List (List ℕ)
contents f = map (λ e. content e.what) (all f 0)

-- <a>x<![CDATA[y]]>z</a>: the root, the element and its text
merged_contents : contents merged ≡ codes "xyz" ∷ codes "xyz" ∷ codes "xyz" ∷ []
unfolding opened
merged_contents = refl

-- <r><a b="1"><c/></a><?p?>t<d><e/></d></r><!--z-->
mixed_contents : contents mixed ≡ codes "t" ∷ codes "t" ∷ [] ∷ codes "1" ∷ [] ∷ [] ∷ codes "t" ∷ [] ∷ [] ∷ codes "z" ∷ []
unfolding opened
mixed_contents = refl

-- <a> CR <![CDATA[ LF ]]></a>: two line ends
abbrev two_ends : Forest
two_ends = elem (codes "a") (words (13 ∷ []) (single (Leaf.cdata (10 ∷ [])) done)) done

two_ends_walk : walk_to_end (codes "<a>" ++ 13 ∷ codes "<![CDATA[" ++ 10 ∷ codes "]]></a>") (flat two_ends) ≡ true
unfolding opened
two_ends_walk = refl

two_ends_contents : contents two_ends ≡ (10 ∷ 10 ∷ []) ∷ (10 ∷ 10 ∷ []) ∷ (10 ∷ 10 ∷ []) ∷ []
unfolding opened
two_ends_contents = refl

-- <a b="&#10; LF CR LF "/>: a line feed and two spaces
abbrev written_ends : Attribute
written_ends = record { space = codes " "; name = codes "b"; left = []; right = []; quote = Quote.double; value = decimal (codes "10") ∷ literal 10 ∷ literal 13 ∷ literal 10 ∷ [] }

written_ends_content : content (Thing.attribute written_ends) ≡ 10 ∷ 32 ∷ 32 ∷ []
unfolding opened
written_ends_content = refl

-- every kind of piece, in a text and in a value; TAB is a space in a value alone
each_piece : text_content (literal 9 ∷ entity (codes "lt") ∷ decimal (codes "65") ∷ hexadecimal (codes "1F600") ∷ literal 13 ∷ literal 10 ∷ literal 13 ∷ []) ≡ 9 ∷ 60 ∷ 65 ∷ 0x1F600 ∷ 10 ∷ 10 ∷ []
unfolding opened
each_piece = refl

each_value_piece : value_content (literal 9 ∷ entity (codes "gt") ∷ entity (codes "amp") ∷ entity (codes "apos") ∷ entity (codes "quot") ∷ hexadecimal (codes "9") ∷ literal 13 ∷ []) ≡ 32 ∷ 62 ∷ 38 ∷ 39 ∷ 34 ∷ 9 ∷ 32 ∷ []
unfolding opened
each_value_piece = refl

-- in a section, a comment and the data of an instruction line ends alone are resolved
section_content : content (Thing.text (Leaf.cdata (codes "&lt;" ++ 13 ∷ 10 ∷ []) ∷ [])) ≡ codes "&lt;" ++ 10 ∷ []
unfolding opened
section_content = refl

comment_content : content (Thing.comment (13 ∷ codes "&")) ≡ 10 ∷ codes "&"
unfolding opened
comment_content = refl

instruction_content : content (Thing.instruction (record { target = codes "p"; space = codes " "; content = codes "a" ++ 13 ∷ [] })) ≡ codes "a" ++ 10 ∷ []
unfolding opened
instruction_content = refl

-- <p:e xmlns:p="u" xmlns="d" x="1" p:y="2" xml:z="3"><e xmlns=""/><e/></p:e>
abbrev names : Forest
names =
    element (tag_with (codes "p:e") (attr (codes "xmlns:p") (codes "u") ∷ attr (codes "xmlns") (codes "d") ∷ attr (codes "x") (codes "1") ∷ attr (codes "p:y") (codes "2") ∷ attr (codes "xml:z") (codes "3") ∷ []))
    (empty (tag_with (codes "e") (attr (codes "xmlns") [] ∷ [])) (hollow (codes "e") done)) [] done

abbrev named_in : List ℕ → List ℕ → Expanded
named_in uri name = record { uri = Some uri; name = name }

abbrev named : List ℕ → Expanded
named name = record { uri = None; name = name }

expanded_names : map expanded (all names 0)
    ≡ None ∷ Some (named_in (codes "u") (codes "e")) ∷ Some (named (codes "x")) ∷ Some (named_in (codes "u") (codes "y")) ∷ Some (named_in xml_uri (codes "z")) ∷ Some (named (codes "e")) ∷ Some (named_in (codes "d") (codes "e")) ∷ []
unfolding opened
expanded_names = refl

-- the tags whose declarations reach each node: none the root, p:e's its attributes and itself, and of an element in it its own first
reached : map (λ e. map (λ t. t.name) (scope e)) (all names 0)
    ≡ [] ∷ (codes "p:e" ∷ []) ∷ (codes "p:e" ∷ []) ∷ (codes "p:e" ∷ []) ∷ (codes "p:e" ∷ []) ∷ (codes "e" ∷ codes "p:e" ∷ []) ∷ (codes "e" ∷ codes "p:e" ∷ []) ∷ []
unfolding opened
reached = refl

-- a prefix that is declared empty is bound, to the empty text; the default is then taken away
empty_prefix : binding (codes "p") (tag_with (codes "e") (attr (codes "xmlns:p") [] ∷ []) ∷ []) ≡ Some []
unfolding opened
empty_prefix = refl

empty_default : binding [] (tag_with (codes "e") (attr (codes "xmlns") [] ∷ []) ∷ tag_with (codes "e") (attr (codes "xmlns") (codes "d") ∷ []) ∷ []) ≡ None
unfolding opened
empty_default = refl

xml_bound : binding (codes "xml") [] ≡ Some xml_uri
unfolding opened
xml_bound = refl

-- each test, on the root, r, a, b, c, the instruction, the text, d, e and the comment
abbrev tested : Test → Bool → List Bool
tested t on_attributes = map (passes t on_attributes) (all mixed 0)

every_node : tested Test.node false ≡ true ∷ true ∷ true ∷ true ∷ true ∷ true ∷ true ∷ true ∷ true ∷ true ∷ []
unfolding opened
every_node = refl

texts : tested Test.text false ≡ false ∷ false ∷ false ∷ false ∷ false ∷ false ∷ true ∷ false ∷ false ∷ false ∷ []
unfolding opened
texts = refl

comments : tested Test.comment false ≡ false ∷ false ∷ false ∷ false ∷ false ∷ false ∷ false ∷ false ∷ false ∷ true ∷ []
unfolding opened
comments = refl

instructions : tested Test.instruction false ≡ false ∷ false ∷ false ∷ false ∷ false ∷ true ∷ false ∷ false ∷ false ∷ false ∷ []
unfolding opened
instructions = refl

targets : tested (Test.target (codes "p")) false ≡ false ∷ false ∷ false ∷ false ∷ false ∷ true ∷ false ∷ false ∷ false ∷ false ∷ []
unfolding opened
targets = refl

other_targets : tested (Test.target (codes "q")) false ≡ false ∷ false ∷ false ∷ false ∷ false ∷ false ∷ false ∷ false ∷ false ∷ false ∷ []
unfolding opened
other_targets = refl

elements : tested (Test.name NameTest.any) false ≡ false ∷ true ∷ true ∷ false ∷ true ∷ false ∷ false ∷ true ∷ true ∷ false ∷ []
unfolding opened
elements = refl

attributes : tested (Test.name NameTest.any) true ≡ false ∷ false ∷ false ∷ true ∷ false ∷ false ∷ false ∷ false ∷ false ∷ false ∷ []
unfolding opened
attributes = refl

named_c : tested (Test.name (NameTest.named [] (codes "c"))) false ≡ false ∷ false ∷ false ∷ false ∷ true ∷ false ∷ false ∷ false ∷ false ∷ false ∷ []
unfolding opened
named_c = refl

-- among the names: those of the URI u, on elements and on attributes
in_u : map (passes (Test.name (NameTest.any_in (codes "u"))) false) (all names 0) ≡ false ∷ true ∷ false ∷ false ∷ false ∷ false ∷ false ∷ []
unfolding opened
in_u = refl

attributes_in_u : map (passes (Test.name (NameTest.any_in (codes "u"))) true) (all names 0) ≡ false ∷ false ∷ false ∷ true ∷ false ∷ false ∷ false ∷ []
unfolding opened
attributes_in_u = refl

-- a name without a prefix is in no namespace, the default notwithstanding
unprefixed : map (passes (Test.name (NameTest.named [] (codes "e"))) false) (all names 0) ≡ false ∷ false ∷ false ∷ false ∷ false ∷ true ∷ false ∷ []
unfolding opened
unprefixed = refl
