-- Going forward along the records, with a flag for each level (this project's own).
use Rattle.std.specs.Prelude.{◌≡◌, ℕ, suc, ◌≤◌, ◌<◌, Bool, true, false, cond, ◌&&◌, ◌==◌, nat_lt, List, [], ◌∷◌}
use Rattle.std.specs.Prelude.{map, filter, length, Contains}
use Rattle.std.specs.List.{list_any}
use Rattle.xml_model.specs.declared.Axis.{Axis}
use Rattle.xml_model.specs.declared.Axis.TheVariants as axes
use Rattle.xml_model.specs.declared.Kind.{Kind}
use Rattle.xml_model.specs.declared.Kind.TheVariants as kinds
use Rattle.xml_model.specs.declared.Node.{Node}
use Rattle.xml_model.specs.Contexts.{is_index_of}
use Rattle.xml_model.specs.Laws.{holder_index, is_child_kind, is_child_thing, same_parent}
use Rattle.xml_model.specs.Names.{Test, passes}
use Rattle.xml_model.specs.Tree.{Entry}
use Rattle.vtd_words.specs.Table.{node_of}
use Rattle.xpath_steps.specs.declared.forward.Sought.{Sought}
use Rattle.xpath_steps.specs.declared.forward.Sought.TheVariants as sought

-- the axis of what a pass looks for
abbrev pub axis_of : Sought → Axis
axis_of sought.Children = axes.Child
axis_of sought.LaterSiblings = axes.FollowingSibling

-- whether a child is asked for by the contexts that begin before an index: its parent is a context, or an earlier
-- sibling is one
abbrev pub is_asked : Sought → List Entry → ℕ → Entry → Bool
is_asked sought.Children cs n y = is_index_of cs (holder_index y.holders)
is_asked sought.LaterSiblings cs n y = list_any (λ c. same_parent c y && nat_lt c.index n) cs

-- the children that begin before an index, are asked for and pass a test
abbrev pub asked_before : Sought → List Entry → Test → ℕ → List Entry → List Node
asked_before s cs test n es =
    map node_of (filter (λ y. nat_lt y.index n
    && (is_child_thing y.what && (is_asked s cs y.index y && passes test false y))) es)

-- going forward, at an index: of what is directly in a node that begins before it, it is flagged at which levels it is
-- asked for, and what was asked for before was gathered
pub record Passed (s : Sought) (cs es : List Entry) (test : Test) (n : ℕ) (flags : ℕ → Bool) (held : List Node)
    : Type 0 where
  pub shown : (y : Entry) → Contains es y → is_child_thing y.what ≡ true → n ≤ y.index →
      holder_index y.holders < n → flags (length y.holders) ≡ is_asked s cs n y
  pub gathered : held ≡ asked_before s cs test n es

-- a node begins at an index, and so many elements hold it
pub record IsHere (es : List Entry) (at : ℕ) (node : Node) (level : ℕ) : Type 0 where
  pub entry : Entry
  pub there : Contains es entry
  pub index : entry.index ≡ at
  pub shown : node_of entry ≡ node
  pub held : length entry.holders ≡ level

-- no node begins at an index
abbrev pub NoneBegins : List Entry → ℕ → Type 0
NoneBegins es at = (y : Entry) → Contains es y → y.index ≡ at → ⊥

-- flags, with that of what is directly in a node set or cleared
abbrev pub put_inside : Kind → ℕ → Bool → (ℕ → Bool) → ℕ → Bool
put_inside kinds.Root level flag flags l = cond (l == 0) flag (flags l)
put_inside kinds.Element level flag flags l = cond (l == suc level) flag (flags l)
put_inside _ level flag flags l = flags l

-- flags, with that of a child's level set, where it is to be
abbrev pub put_beside : Kind → ℕ → Bool → (ℕ → Bool) → ℕ → Bool
put_beside kind level flag flags l = cond ((flag && is_child_kind kind) && l == level) true (flags l)

-- flags after a node that is a context or not
abbrev pub marked : Sought → Kind → ℕ → Bool → (ℕ → Bool) → ℕ → Bool
marked sought.Children kind level context flags = put_inside kind level context flags
marked sought.LaterSiblings kind level context flags =
    put_beside kind level context (put_inside kind level false flags)

-- the level of what a node asks for, and 256 where it asks for nothing
abbrev pub own_floor : Sought → Kind → ℕ → ℕ
own_floor sought.Children kinds.Root level = 0
own_floor sought.Children kinds.Element level = suc level
own_floor sought.Children _ level = 256
own_floor sought.LaterSiblings kind level = cond (is_child_kind kind) level 256

-- nothing that contexts ask for is of a lower level
abbrev pub IsFloor : Sought → List Entry → List Entry → ℕ → Type 0
IsFloor s cs es floor = (y : Entry) (m : ℕ) → Contains es y → is_child_thing y.what ≡ true →
    is_asked s cs m y ≡ true → floor ≤ length y.holders

-- the index of the first node of a list, and 0 where there is none
abbrev pub first_index : List Node → ℕ
first_index [] = 0
first_index (node ∷ nodes) = node.at
