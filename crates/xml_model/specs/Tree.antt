-- The tree of a nest: its nodes in document order, each with its path, its kind, its span and the places of its
-- records; and the twelve axes as relations on paths: XPath 1.0, sections 2.2, 2.4 and 5. Namespace nodes are left
-- out.
use Rattle.std.specs.Prelude.{◌≡◌, ℕ, suc, ◌+◌, Bool, true, false, cond, not, ◌&&◌, ◌||◌, List, [], ◌∷◌, ◌++◌, map}
use Rattle.std.specs.Prelude.{length, nat_lt, ◌==◌, Option, Some, None, filter, reverse, is_some, find, Contains}
use Rattle.std.specs.List.{list_any, cons_option}
use Rattle.xml_model.specs.declared.Kind.{Kind}
use Rattle.xml_model.specs.declared.Kind.TheVariants as kinds
use Rattle.xml_model.specs.declared.Axis.{Axis}
use Rattle.xml_model.specs.declared.Axis.TheVariants as axes
use Rattle.xml_model.specs.Chars.{size}
use Rattle.xml_model.specs.Items.{Attribute, Tag, Instruction, Leaf, is_nil, written_attribute}
use Rattle.xml_model.specs.Nest.{Forest, done, single, empty}
use Rattle.xml_model.specs.Records.{declares, run_records, past_run, attributes_place, past_leaf, past_empty}
use Rattle.xml_model.specs.Records.{past_start, past_forest, past_element, tag_records, leaf_records, forest_records}

-- Paths.

-- one step down: to the attribute or the child of a number, from 0 on
pub data Step : Type 0 where
  attribute child : ℕ → Step

-- a node by the steps that lead to it from the root
abbrev pub Path : Type 0
Path = List Step

-- whether two steps are one
abbrev pub step_eq : Step → Step → Bool
step_eq (attribute i) (attribute j) = i == j
step_eq (child i) (child j) = i == j
step_eq _ _ = false

-- an attribute is before a child, and of two of one kind the one with the lower number: XPath 1.0, section 5
abbrev pub step_before : Step → Step → Bool
step_before (attribute i) (attribute j) = nat_lt i j
step_before (attribute i) (child j) = true
step_before (child i) (attribute j) = false
step_before (child i) (child j) = nat_lt i j

-- document order: a node is before those under it, and else the first steps that differ decide: XPath 1.0, section 5
abbrev pub before : Path → Path → Bool
before [] [] = false
before [] (t ∷ q) = true
before (s ∷ p) [] = false
before (s ∷ p) (t ∷ q) = step_before s t || (step_eq s t && before p q)

-- the steps of what is left of two paths, where their first steps are one
abbrev pub steps_under : Bool → Option Path → Option Path
steps_under false o = None
steps_under true o = o

-- the steps from p to q, where p is a prefix of q
abbrev pub steps : Path → Path → Option Path
steps [] q = Some q
steps (s ∷ p) [] = None
steps (s ∷ p) (t ∷ q) = steps_under (step_eq s t) (steps p q)

-- no step
abbrev pub is_self : Option Path → Bool
is_self (Some []) = true
is_self _ = false

-- one step, to a child
abbrev pub is_child : Option Path → Bool
is_child (Some (child i ∷ [])) = true
is_child _ = false

-- one step, to an attribute
abbrev pub is_attribute : Option Path → Bool
is_attribute (Some (attribute i ∷ [])) = true
is_attribute _ = false

-- one step
abbrev pub is_step : Option Path → Bool
is_step (Some (s ∷ [])) = true
is_step _ = false

-- one or more steps
abbrev pub is_some_steps : Option Path → Bool
is_some_steps (Some (s ∷ p)) = true
is_some_steps _ = false

-- whether a step leads to a child
abbrev pub is_child_step : Step → Bool
is_child_step (child i) = true
is_child_step (attribute i) = false

-- whether the last step leads to a child: so the node is no attribute and not the root
abbrev pub ends_in_child : Path → Bool
ends_in_child [] = false
ends_in_child (s ∷ []) = is_child_step s
ends_in_child (s ∷ t ∷ p) = ends_in_child (t ∷ p)

-- both end in child steps, are equal but for these, and q's number is higher
abbrev pub later_sibling : Path → Path → Bool
later_sibling (child i ∷ []) (child j ∷ []) = nat_lt i j
later_sibling (s ∷ p) (t ∷ q) = step_eq s t && later_sibling p q
later_sibling _ _ = false

-- whether q is on the axis of p: XPath 1.0, section 2.2
unfoldable pub on_axis : Axis → Path → Path → Bool
on_axis axes.Itself p q = is_self (steps p q)
on_axis axes.Parent p q = is_step (steps q p)
on_axis axes.Ancestor p q = is_some_steps (steps q p)
on_axis axes.AncestorOrSelf p q = is_some (steps q p)
on_axis axes.Child p q = is_child (steps p q)
on_axis axes.Attribute p q = is_attribute (steps p q)
on_axis axes.Descendant p q = is_some_steps (steps p q) && ends_in_child q
on_axis axes.DescendantOrSelf p q = is_self (steps p q) || (is_some_steps (steps p q) && ends_in_child q)
on_axis axes.FollowingSibling p q = later_sibling p q
on_axis axes.PrecedingSibling p q = later_sibling q p
on_axis axes.Following p q = before p q && not (is_some (steps p q)) && ends_in_child q
on_axis axes.Preceding p q = before q p && not (is_some (steps q p)) && ends_in_child q

-- the axes along which the nodes count against document order: XPath 1.0, section 2.4
abbrev pub is_reverse : Axis → Bool
is_reverse axes.Ancestor = true
is_reverse axes.AncestorOrSelf = true
is_reverse axes.Preceding = true
is_reverse axes.PrecedingSibling = true
is_reverse _ = false

-- Nodes.

-- what is at a node: XPath 1.0, section 5. The root with the place of the first item; an element with its tag and
-- what is in it; an attribute; a text with its texts and CDATA sections; a comment; an instruction
pub data Thing : Type 0 where
  root : ℕ → Forest → Thing
  element : Tag → Forest → Thing
  attribute : Attribute → Thing
  text : List Leaf → Thing
  comment : List ℕ → Thing
  instruction : Instruction → Thing

-- the kind of a node
abbrev pub kind_of : Thing → Kind
kind_of (root first f) = kinds.Root
kind_of (Thing.element t f) = kinds.Element
kind_of (Thing.attribute a) = kinds.Attribute
kind_of (Thing.text xs) = kinds.Text
kind_of (Thing.comment cs) = kinds.Comment
kind_of (Thing.instruction i) = kinds.Instruction

-- an element that holds others: its tag and its place
pub record Holder : Type 0 where
  pub tag : Tag
  pub index : ℕ

-- A node: its path, what is there, the elements that hold it (the nearest one first; an attribute is held by its
-- element), where it begins and ends in the document, its first record and the first record past it and what is under
-- it.
pub record Entry : Type 0 where
  pub path : Path
  pub what : Thing
  pub holders : List Holder
  pub start : ℕ
  pub stop : ℕ
  pub index : ℕ
  pub past : ℕ

-- the same node, seen from one step further up
abbrev pub under : Step → Entry → Entry
under s e = record e { path = s ∷ e.path }

-- 1 or 0
abbrev pub one_if : Bool → ℕ
one_if true = 1
one_if false = 0

-- the node of an attribute, from the place, the record and the number at which it may be. A declaration of a
-- namespace is none: XPath 1.0, section 5.3. Its span runs from its name to its closing quote
abbrev pub attribute_entry : List Holder → ℕ → ℕ → ℕ → Attribute → Option Entry
attribute_entry holders at index i a =
    cond (declares a.name) None
    (Some (record {
      path = Step.attribute i ∷ [];
      what = Thing.attribute a;
      holders = holders;
      start = at + size a.space;
      stop = at + size (written_attribute a);
      index = index;
      past = index + 2;
    }))

-- the attribute nodes of a tag, as they are
abbrev pub attributes : List Holder → ℕ → ℕ → ℕ → List Attribute → List Entry
attributes holders at index i [] = []
attributes holders at index i (a ∷ others) =
    cons_option (attribute_entry holders at index i a)
    (attributes holders (at + size (written_attribute a)) (index + 2) (i + one_if (not (declares a.name))) others)

-- where the next piece of a list of pieces is: in which elements, from which place and record place on, as which
-- child, and whether the piece before it is a text or a CDATA section
pub record Here : Type 0 where
  pub holders : List Holder
  pub at : ℕ
  pub index : ℕ
  pub number : ℕ
  pub joins : Bool

-- whether a leaf is part of a text node
abbrev pub is_text : Leaf → Bool
is_text (Leaf.text ps) = true
is_text (Leaf.cdata cs) = true
is_text _ = false

-- whether a leaf gives a text node a character
abbrev pub has_content : Leaf → Bool
has_content (Leaf.text ps) = true
has_content (Leaf.cdata cs) = not (is_nil cs)
has_content _ = false

-- a leaf before others, where it is part of a text node
abbrev pub cons_text : Bool → Leaf → List Leaf → List Leaf
cons_text true x xs = x ∷ xs
cons_text false x xs = []

-- the texts and CDATA sections that a list of pieces begins with
abbrev pub run : Forest → List Leaf
run (single x f) = cons_text (is_text x) x (run f)
run _ = []

-- whether a text node begins at a run: outside the root element a text is none, nor is what joins a run before it,
-- nor empty CDATA sections alone (XPath 1.0, section 5.7)
abbrev pub begins_run : List Holder → Bool → List Leaf → Bool
begins_run [] joins xs = false
begins_run (t ∷ holders) true xs = false
begins_run (t ∷ holders) false xs = list_any has_content xs

-- the text node that begins at a run, which spans it whole, the markers of CDATA sections included
abbrev pub text_node : Here → List Leaf → Option Entry
text_node h xs =
    cond (begins_run h.holders h.joins xs)
    (Some (record {
      path = child h.number ∷ [];
      what = Thing.text xs;
      holders = h.holders;
      start = h.at;
      stop = past_run h.at xs;
      index = h.index;
      past = h.index + length (run_records (length h.holders) h.at xs);
    })) None

-- the node that begins at a leaf. An XML declaration and a DOCTYPE are none: XPath 1.0, section 5
abbrev pub leaf_node : Here → Leaf → Forest → Option Entry
leaf_node h (Leaf.text ps) f = text_node h (Leaf.text ps ∷ run f)
leaf_node h (Leaf.cdata cs) f = text_node h (Leaf.cdata cs ∷ run f)
leaf_node h (Leaf.comment cs) f =
    Some (record {
      path = child h.number ∷ [];
      what = Thing.comment cs;
      holders = h.holders;
      start = h.at;
      stop = past_leaf h.at (Leaf.comment cs);
      index = h.index;
      past = h.index + 1;
    })
leaf_node h (Leaf.instruction i) f =
    Some (record {
      path = child h.number ∷ [];
      what = Thing.instruction i;
      holders = h.holders;
      start = h.at;
      stop = past_leaf h.at (Leaf.instruction i);
      index = h.index;
      past = h.index + 2;
    })
leaf_node h _ f = None

-- where the piece after a leaf is
abbrev pub after_leaf : Here → Leaf → Forest → Here
after_leaf h x f =
    record {
      holders = h.holders;
      at = past_leaf h.at x;
      index = h.index + length (leaf_records (length h.holders) h.at x);
      number = h.number + one_if (is_some (leaf_node h x f));
      joins = is_text x;
    }

-- the holders of what is in an element
abbrev pub held : Here → Tag → List Holder
held h t = record { tag = t; index = h.index } ∷ h.holders

-- where the first piece in an element is
abbrev pub inside_of : Here → Tag → Here
inside_of h t =
    record {
      holders = held h t;
      at = past_start h.at t;
      index = h.index + length (tag_records (length h.holders) h.at t);
      number = 0;
      joins = false;
    }

-- the first record past an element and what is in it
abbrev pub element_past : Here → Tag → Forest → ℕ
element_past h t inside =
    h.index + length (tag_records (length h.holders) h.at t)
    + length (forest_records (suc (length h.holders)) (past_start h.at t) inside)

-- where the piece after an element is
abbrev pub after_element : Here → Tag → Forest → ℕ → Here
after_element h t inside stop =
    record { holders = h.holders; at = stop; index = element_past h t inside; number = suc h.number; joins = false }

-- the node of an element, from itself: it spans its first tag to its last
abbrev pub element_entry : Here → Tag → Forest → ℕ → Entry
element_entry h t inside stop =
    record {
      path = [];
      what = Thing.element t inside;
      holders = h.holders;
      start = h.at;
      stop = stop;
      index = h.index;
      past = element_past h t inside;
    }

-- the attribute nodes of a tag
abbrev pub tag_attributes : Here → Tag → List Entry
tag_attributes h t = attributes (held h t) (attributes_place h.at t) (suc h.index) 0 t.attributes

-- the nodes of a list of pieces, in document order, with their paths from what holds the list
abbrev pub nodes : Here → Forest → List Entry
nodes h done = []
nodes h (single x f) = cons_option (leaf_node h x f) (nodes (after_leaf h x f) f)
nodes h (empty t f) =
    map (under (child h.number)) (element_entry h t done (past_empty h.at t) ∷ tag_attributes h t)
    ++ nodes (after_element h t done (past_empty h.at t)) f
nodes h (Forest.element t inside space f) =
    map (under (child h.number)) (element_entry h t inside (past_element h.at t inside space) ∷ tag_attributes h t
    ++ nodes (inside_of h t) inside)
    ++ nodes (after_element h t inside (past_element h.at t inside space)) f

-- where the first piece of a document is
abbrev pub at_first : ℕ → Here
at_first first = record { holders = []; at = first; index = 1; number = 0; joins = false }

-- the root, which spans the document from its first byte on, a byte order mark included
abbrev pub root_entry : Forest → ℕ → Entry
root_entry nest first =
    record {
      path = [];
      what = root first nest;
      holders = [];
      start = 0;
      stop = past_forest first nest;
      index = 0;
      past = suc (length (forest_records 0 first nest));
    }

-- all nodes of a nest whose first item is at a place, in document order
unfoldable pub all : Forest → ℕ → List Entry
all nest first = root_entry nest first ∷ nodes (at_first first) nest

-- a list, or the same reversed
abbrev pub reverse_if : {X : Type 0} → Bool → List X → List X
reverse_if true xs = reverse xs
reverse_if false xs = xs

-- the nodes on an axis of a path, in axis order: XPath 1.0, section 2.4
unfoldable pub axis_list : Axis → Path → List Entry → List Entry
axis_list axis p es = reverse_if (is_reverse axis) (filter (λ e. on_axis axis p e.path) es)

-- the node whose first record has an index
unfoldable pub at_index : ℕ → List Entry → Option Entry
at_index n es = find (λ e. e.index == n) es

-- the node of a path
unfoldable pub at_path : Path → List Entry → Option Entry
at_path p es = find (λ e. is_self (steps p e.path)) es

-- a kind and an index stand for the node that has both
abbrev pub Identifies : Kind → ℕ → Entry → List Entry → Type 0
Identifies kind n e es = Contains es e × (kind_of e.what ≡ kind) × (e.index ≡ n)
