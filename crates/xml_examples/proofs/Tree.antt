-- The nodes of worked documents: paths, kinds, spans, places of records, and every axis.
use Rattle.std.proofs.Common.{◌≡◌, ℕ, List, [], ◌∷◌, map, filter, length, refl, codes, true, false, None, option_map, Some}
use Rattle.xml_model.specs.declared.Kind.{Kind}
use Rattle.xml_model.specs.declared.Kind.TheVariants as kinds
use Rattle.xml_model.specs.declared.Axis.{Axis}
use Rattle.xml_model.specs.declared.Axis.TheVariants as axes
use Rattle.xml_model.specs.Items.{Leaf, walk_to_end}
use Rattle.xml_model.specs.Nest.{Forest, done, single, element, flat, is_nest}
use Rattle.xml_model.specs.Tree.{Path, Entry, kind_of, all, axis_list, at_index, at_path, before}
use Rattle.xml_model.specs.Names.{Test, NameTest, passes}
use Rattle.xml_examples.proofs.Parts.{opened, elem, hollow, words, tag_with, attr, c, a, Line, line, line_of}
use Rattle.xml_examples.proofs.Records.{two, no_byte, lone}

-- a node by its path, its kind, its records and its span
record Row : Type 0 where
  path : Path
  kind : Kind
  index : ℕ
  past : ℕ
  start : ℕ
  stop : ℕ

abbrev row : Path → Kind → ℕ → ℕ → ℕ → ℕ → Row
row path kind index past start stop = record { path = path; kind = kind; index = index; past = past; start = start; stop = stop }

abbrev row_of : Entry → Row
row_of e = row e.path (kind_of e.what) e.index e.past e.start e.stop

-- the nodes on an axis of a path, in axis order
abbrev on : Axis → Path → Forest → List Line
on axis p f = map line_of (axis_list axis p (all f 0))

-- the elements among them that a name test passes
abbrev elements_on : Axis → Path → List ℕ → Forest → List Line
elements_on axis p name f = map line_of (filter (passes (Test.name (NameTest.named [] name)) false) (axis_list axis p (all f 0)))

two_nodes : map row_of (all two 0)
    ≡ row [] kinds.Root 0 6 0 23 ∷ row (c 0 ∷ []) kinds.Element 1 6 0 23 ∷ row (c 0 ∷ c 0 ∷ []) kinds.Element 2 4 3 11
    ∷ row (c 0 ∷ c 0 ∷ c 0 ∷ []) kinds.Text 3 4 6 7 ∷ row (c 0 ∷ c 1 ∷ []) kinds.Element 4 6 11 19 ∷ row (c 0 ∷ c 1 ∷ c 0 ∷ []) kinds.Text 5 6 14 15 ∷ []
unfolding opened
two_nodes = refl

-- how many elements hold each
two_holders : map (λ e. length e.holders) (all two 0) ≡ 0 ∷ 0 ∷ 1 ∷ 2 ∷ 1 ∷ 2 ∷ []
unfolding opened
two_holders = refl

-- the node at a place and at a path; record 3 of the section alone is none
node_at_four : option_map line_of (at_index 4 (all two 0)) ≡ Some (line kinds.Element 11 8)
unfolding opened
node_at_four = refl

node_at_path : option_map line_of (at_path (c 0 ∷ c 1 ∷ []) (all two 0)) ≡ Some (line kinds.Element 11 8)
unfolding opened
node_at_path = refl

no_node : at_index 2 (all no_byte 0) ≡ None
unfolding opened
no_node = refl

no_byte_nodes : map line_of (all no_byte 0) ≡ line kinds.Root 0 19 ∷ line kinds.Element 0 19 ∷ []
unfolding opened
no_byte_nodes = refl

-- after a byte order mark
lone_nodes : map line_of (all lone 3) ≡ line kinds.Root 0 7 ∷ line kinds.Element 3 4 ∷ []
unfolding opened
lone_nodes = refl

-- <a>x<![CDATA[y]]>z</a> has one text
abbrev pub merged : Forest
merged = elem (codes "a") (words (codes "x") (single (Leaf.cdata (codes "y")) (words (codes "z") done))) done

merged_nodes : map line_of (all merged 0) ≡ line kinds.Root 0 22 ∷ line kinds.Element 0 22 ∷ line kinds.Text 3 15 ∷ []
unfolding opened
merged_nodes = refl

-- <a><b>x</b>y</a>: a text directly after a deeper one is another node
deeper_text : map line_of (all (elem (codes "a") (elem (codes "b") (words (codes "x") done) (words (codes "y") done)) done) 0)
    ≡ line kinds.Root 0 16 ∷ line kinds.Element 0 16 ∷ line kinds.Element 3 8 ∷ line kinds.Text 6 1 ∷ line kinds.Text 11 1 ∷ []
unfolding opened
deeper_text = refl

-- <r><a><b/></a><a><b/></a></r>
abbrev twice_b : Forest
twice_b = elem (codes "r") (elem (codes "a") (hollow (codes "b") done) (elem (codes "a") (hollow (codes "b") done) done)) done

first_children : elements_on axes.Child (c 0 ∷ c 0 ∷ []) (codes "b") twice_b ≡ line kinds.Element 6 4 ∷ []
unfolding opened
first_children = refl

second_children : elements_on axes.Child (c 0 ∷ c 1 ∷ []) (codes "b") twice_b ≡ line kinds.Element 17 4 ∷ []
unfolding opened
second_children = refl

all_b : elements_on axes.Descendant [] (codes "b") twice_b ≡ line kinds.Element 6 4 ∷ line kinds.Element 17 4 ∷ []
unfolding opened
all_b = refl

-- <a b="1"><c/></a>, from its attribute
abbrev with_b : Forest
with_b = element (tag_with (codes "a") (attr (codes "b") (codes "1") ∷ [])) (hollow (codes "c") done) [] done

b_itself : on axes.Itself (c 0 ∷ a 0 ∷ []) with_b ≡ line kinds.Attribute 3 5 ∷ []
unfolding opened
b_itself = refl

b_parent : on axes.Parent (c 0 ∷ a 0 ∷ []) with_b ≡ line kinds.Element 0 17 ∷ []
unfolding opened
b_parent = refl

b_following : on axes.Following (c 0 ∷ a 0 ∷ []) with_b ≡ line kinds.Element 9 4 ∷ []
unfolding opened
b_following = refl

b_siblings : on axes.FollowingSibling (c 0 ∷ a 0 ∷ []) with_b ≡ []
unfolding opened
b_siblings = refl

-- <a><b/><c/><d/></a>, from d
abbrev three : Forest
three = elem (codes "a") (hollow (codes "b") (hollow (codes "c") (hollow (codes "d") done))) done

d_preceding : on axes.Preceding (c 0 ∷ c 2 ∷ []) three ≡ line kinds.Element 7 4 ∷ line kinds.Element 3 4 ∷ []
unfolding opened
d_preceding = refl

-- <r><a b="1"><c/></a><?p?>t<d><e/></d></r><!--z-->
abbrev pub mixed : Forest
mixed =
    elem (codes "r")
    (element (tag_with (codes "a") (attr (codes "b") (codes "1") ∷ [])) (hollow (codes "c") done) []
    (single (Leaf.instruction (record { target = codes "p"; space = []; content = [] })) (words (codes "t") (elem (codes "d") (hollow (codes "e") done) done))))
    (single (Leaf.comment (codes "z")) done)

mixed_walks : walk_to_end (codes "<r><a b=\"1\"><c/></a><?p?>t<d><e/></d></r><!--z-->") (flat mixed) ≡ true
unfolding opened
mixed_walks = refl

mixed_nests : is_nest mixed ≡ true
unfolding opened
mixed_nests = refl

mixed_nodes : map line_of (all mixed 0)
    ≡ line kinds.Root 0 49 ∷ line kinds.Element 0 41 ∷ line kinds.Element 3 17 ∷ line kinds.Attribute 6 5 ∷ line kinds.Element 12 4 ∷ line kinds.Instruction 20 5 ∷ line kinds.Text 25 1
    ∷ line kinds.Element 26 11 ∷ line kinds.Element 29 4 ∷ line kinds.Comment 41 8 ∷ []
unfolding opened
mixed_nodes = refl

abbrev at_r : Path
at_r = c 0 ∷ []

abbrev at_a : Path
at_a = c 0 ∷ c 0 ∷ []

abbrev at_b : Path
at_b = c 0 ∷ c 0 ∷ a 0 ∷ []

abbrev at_c : Path
at_c = c 0 ∷ c 0 ∷ c 0 ∷ []

abbrev at_d : Path
at_d = c 0 ∷ c 3 ∷ []

abbrev at_e : Path
at_e = c 0 ∷ c 3 ∷ c 0 ∷ []

e_preceding : on axes.Preceding at_e mixed ≡ line kinds.Text 25 1 ∷ line kinds.Instruction 20 5 ∷ line kinds.Element 12 4 ∷ line kinds.Element 3 17 ∷ []
unfolding opened
e_preceding = refl

mixed_b_following : on axes.Following at_b mixed
    ≡ line kinds.Element 12 4 ∷ line kinds.Instruction 20 5 ∷ line kinds.Text 25 1 ∷ line kinds.Element 26 11 ∷ line kinds.Element 29 4 ∷ line kinds.Comment 41 8 ∷ []
unfolding opened
mixed_b_following = refl

e_ancestor_or_self : on axes.AncestorOrSelf at_e mixed ≡ line kinds.Element 29 4 ∷ line kinds.Element 26 11 ∷ line kinds.Element 0 41 ∷ line kinds.Root 0 49 ∷ []
unfolding opened
e_ancestor_or_self = refl

d_preceding_sibling : on axes.PrecedingSibling at_d mixed ≡ line kinds.Text 25 1 ∷ line kinds.Instruction 20 5 ∷ line kinds.Element 3 17 ∷ []
unfolding opened
d_preceding_sibling = refl

c_ancestor : on axes.Ancestor at_c mixed ≡ line kinds.Element 3 17 ∷ line kinds.Element 0 41 ∷ line kinds.Root 0 49 ∷ []
unfolding opened
c_ancestor = refl

root_following : on axes.Following [] mixed ≡ []
unfolding opened
root_following = refl

root_parent : on axes.Parent [] mixed ≡ []
unfolding opened
root_parent = refl

a_following_sibling : on axes.FollowingSibling at_a mixed ≡ line kinds.Instruction 20 5 ∷ line kinds.Text 25 1 ∷ line kinds.Element 26 11 ∷ []
unfolding opened
a_following_sibling = refl

a_attribute : on axes.Attribute at_a mixed ≡ line kinds.Attribute 6 5 ∷ []
unfolding opened
a_attribute = refl

r_child : on axes.Child at_r mixed ≡ line kinds.Element 3 17 ∷ line kinds.Instruction 20 5 ∷ line kinds.Text 25 1 ∷ line kinds.Element 26 11 ∷ []
unfolding opened
r_child = refl

a_descendant : on axes.Descendant at_a mixed ≡ line kinds.Element 12 4 ∷ []
unfolding opened
a_descendant = refl

a_descendant_or_self : on axes.DescendantOrSelf at_a mixed ≡ line kinds.Element 3 17 ∷ line kinds.Element 12 4 ∷ []
unfolding opened
a_descendant_or_self = refl

b_descendant_or_self : on axes.DescendantOrSelf at_b mixed ≡ line kinds.Attribute 6 5 ∷ []
unfolding opened
b_descendant_or_self = refl

-- an element is before its attribute, an attribute before a child, and what is first is first
in_order : before at_a at_b ≡ true
in_order = refl

attribute_first : before at_b at_c ≡ true
attribute_first = refl

back_order : before at_d at_c ≡ false
back_order = refl
