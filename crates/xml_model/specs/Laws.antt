-- What the public functions of module `laws` promise: laws over the definitions, each of every nest or of every two
-- of its nodes. These words are this project's own.
use Rattle.std.specs.Prelude.{◌≡◌, ℕ, suc, ◌+◌, ◌<◌, Bool, true, false, ◌&&◌, ◌||◌, List, [], ◌∷◌, ◌++◌, length}
use Rattle.std.specs.Prelude.{nat_lt, nat_le, filter, ◌==◌, Some, Contains}
use Rattle.xml_model.specs.declared.Axis.{Axis}
use Rattle.xml_model.specs.declared.Axis.TheVariants as axes
use Rattle.xml_model.specs.declared.Kind.{Kind}
use Rattle.xml_model.specs.declared.Kind.TheVariants as kinds
use Rattle.xml_model.specs.Items.{Leaf, Item, begins_at, walk, end_of_items, first_place}
use Rattle.xml_model.specs.Nest.{Forest}
use Rattle.xml_model.specs.Records.{Record, document, records, depth_at, tag_records, attribute_records, run_records}
use Rattle.xml_model.specs.Records.{leaf_records, forest_records, past_start}
use Rattle.xml_model.specs.Tree.{Thing, Entry, is_reverse, reverse_if, Holder, kind_of, all, before, steps, is_self}
use Rattle.xml_model.specs.Tree.{is_some_steps, on_axis}
use Rattle.xml_model.specs.Scan.{level_of, record_at, holder_by_scan, kind_of_token}

-- a node of the tree of a nest whose first item is at first
abbrev pub IsNode : Forest → ℕ → Entry → Type 0
IsNode nest first e = Contains (all nest first) e

-- the records of what is at a level and at a place: its own, and those of all that is in it
abbrev pub records_of : Thing → ℕ → ℕ → List Record
records_of (Thing.root first f) l at = document ∷ forest_records 0 first f
records_of (Thing.element t inside) l at = tag_records l at t ++ forest_records (suc l) (past_start at t) inside
records_of (Thing.attribute a) l at = attribute_records (depth_at l) at a
records_of (Thing.text xs) l at = run_records l at xs
records_of (Thing.comment cs) l at = leaf_records l at (Leaf.comment cs)
records_of (Thing.instruction i) l at = leaf_records l at (Leaf.instruction i)

-- all records are those before the node's, the node's, and those after them; and the node's indexes say so
pub record HasRecords (whole : List Record) (e : Entry) : Type 0 where
  pub prefix : List Record
  pub rest : List Record
  pub split : whole ≡ prefix ++ records_of e.what (length e.holders) e.start ++ rest
  pub begins : length prefix ≡ e.index
  pub stops : e.index + length (records_of e.what (length e.holders) e.start) ≡ e.past

-- what the first record of a node shows: its level is the number of elements that hold the node, its type says the kind
pub record FirstRecordShows (whole : List Record) (e : Entry) : Type 0 where
  pub within : e.index < length whole
  pub level : level_of (record_at e.index whole) ≡ length e.holders
  pub kind : kind_of_token (record_at e.index whole).token ≡ Some (kind_of e.what)

-- the node y is under x: its first record is one of those of x, but not the first
abbrev pub is_under : Entry → Entry → Bool
is_under x y = nat_lt x.index y.index && nat_lt y.index x.past

-- of two nodes, whether y is under x, after x, or x itself, by paths on the left and by indexes on the right
pub record IndexesDecide (x y : Entry) : Type 0 where
  pub under : is_some_steps (steps x.path y.path) ≡ is_under x y
  pub order : before x.path y.path ≡ nat_lt x.index y.index
  pub same : is_self (steps x.path y.path) ≡ (x.index == y.index)

-- what is a child where it is: all but the root and the attributes
abbrev pub is_child_thing : Thing → Bool
is_child_thing (Thing.root first f) = false
is_child_thing (Thing.attribute a) = false
is_child_thing _ = true

-- the kinds of what is a child where it is
abbrev pub is_child_kind : Kind → Bool
is_child_kind kinds.Root = false
is_child_kind kinds.Attribute = false
is_child_kind _ = true

-- an attribute
abbrev pub is_attribute_thing : Thing → Bool
is_attribute_thing (Thing.attribute a) = true
is_attribute_thing _ = false

-- the root
abbrev pub is_root_thing : Thing → Bool
is_root_thing (Thing.root first f) = true
is_root_thing _ = false

-- how many nodes a node is under: the root, and the elements that hold it
abbrev pub nodes_above : Entry → ℕ
nodes_above e = above e.what (length e.holders)
  where
    above : Thing → ℕ → ℕ
    above (Thing.root first f) n = 0
    above _ n = suc n

-- the node y is directly under x
abbrev pub is_one_under : Entry → Entry → Bool
is_one_under x y = is_under x y && nodes_above y == suc (nodes_above x)

-- the index of the nearest element that holds a node, and 0, the root's, where none does
abbrev pub holder_index : List Holder → ℕ
holder_index [] = 0
holder_index (x ∷ xs) = x.index

-- two children of one parent
abbrev pub same_parent : Entry → Entry → Bool
same_parent x y = is_child_thing x.what && is_child_thing y.what && holder_index x.holders == holder_index y.holders

-- whether y is on an axis of x, by indexes
abbrev pub by_indexes : Axis → Entry → Entry → Bool
by_indexes axes.Itself x y = x.index == y.index
by_indexes axes.Parent x y = is_one_under y x
by_indexes axes.Ancestor x y = is_under y x
by_indexes axes.AncestorOrSelf x y = y.index == x.index || is_under y x
by_indexes axes.Child x y = is_one_under x y && is_child_thing y.what
by_indexes axes.Attribute x y = is_one_under x y && is_attribute_thing y.what
by_indexes axes.Descendant x y = is_under x y && is_child_thing y.what
by_indexes axes.DescendantOrSelf x y = x.index == y.index || (is_under x y && is_child_thing y.what)
by_indexes axes.Following x y = nat_le x.past y.index && is_child_thing y.what
by_indexes axes.Preceding x y = nat_le y.past x.index && is_child_thing y.what
by_indexes axes.FollowingSibling x y = same_parent x y && nat_lt x.index y.index
by_indexes axes.PrecedingSibling x y = same_parent x y && nat_lt y.index x.index

-- of a child x of z, whether y is a later sibling, or an earlier one: a child of z too, with a higher index, or a
-- lower one
pub record SiblingsDecide (z x y : Entry) : Type 0 where
  pub following : on_axis axes.FollowingSibling x.path y.path ≡ (by_indexes axes.Child z y && nat_lt x.index y.index)
  pub preceding : on_axis axes.PrecedingSibling x.path y.path ≡ (by_indexes axes.Child z y && nat_lt y.index x.index)

-- a node other than the root has a parent, whose first record the scan backwards finds
pub record HasParent (nest : Forest) (first : ℕ) (x : Entry) : Type 0 where
  pub parent : Entry
  pub there : IsNode nest first parent
  pub above : on_axis axes.Parent x.path parent.path ≡ true
  pub index : parent.index ≡ holder_by_scan x.index (records nest first)

-- the nodes on an axis of x, in axis order, by indexes
abbrev pub list_by_indexes : Axis → Entry → List Entry → List Entry
list_by_indexes axis x es = reverse_if (is_reverse axis) (filter (by_indexes axis x) es)

-- at most one item begins at each place that a walk reaches: the first place, and each where whole items end
abbrev pub OneItem : List ℕ → Type 0
OneItem bytes = (items : List Item) → walk bytes items ≡ true → (i j : Item) →
    begins_at bytes (end_of_items (first_place bytes) items) i ≡ true →
    begins_at bytes (end_of_items (first_place bytes) items) j ≡ true → i ≡ j
