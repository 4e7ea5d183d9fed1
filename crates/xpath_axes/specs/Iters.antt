-- The nodes of an axis that are still to come (this project's own).
use Rattle.std.specs.Prelude.{◌≡◌, ℕ, ◌-◌, Bool, false, ◌==◌, List, [], ◌∷◌, ◌++◌, filter, Option, Some, None}
use Rattle.std.specs.Prelude.{option_to_list}
use Rattle.xml_model.specs.declared.Axis.{Axis}
use Rattle.xml_model.specs.declared.Axis.TheVariants as axes
use Rattle.xml_model.specs.declared.Node.{Node}
use Rattle.xml_model.specs.declared.NodeTest.{NodeTest as Tested}
use Rattle.xml_model.specs.Items.{first_place}
use Rattle.xml_model.specs.Names.{Test}
use Rattle.xml_model.specs.Nest.{Forest}
use Rattle.xml_model.specs.Records.{Record, records}
use Rattle.xml_model.specs.Tree.{Entry, Identifies}
use Rattle.xml_model.specs.Laws.{is_one_under}
use Rattle.vtd_words.specs.Lists.{Lists}
use Rattle.vtd_words.specs.Table.{ForEachNest, IdentifiesInEach, IsNodeOf, nodes_of}
use Rattle.xpath_axes.specs.declared.rest.Rest.{Rest}
use Rattle.xpath_axes.specs.declared.rest.Rest.TheVariants as rests
use Rattle.xpath_axes.specs.Backs.{nodes_before, IsBack}
use Rattle.xpath_axes.specs.Climbs.{nodes_above}
use Rattle.xpath_axes.specs.Tests.{node_test, nodes_on}
use Rattle.xpath_axes.specs.Walks.{nodes_left}

-- the nodes that are left of a walk of any direction
abbrev pub rest_of : Rest → Test → List Record → List Entry → List Node
rest_of rests.Nothing t rs es = []
rest_of (rests.Forward walk) t rs es = nodes_left walk t rs es
rest_of (rests.Upward node) t rs es = nodes_above node.at t es
rest_of (rests.Backward back) t rs es = nodes_before back t rs es

-- what a walk knows of where it is
abbrev pub IsRest : List ℕ → Lists → Rest → Type 0
IsRest bytes lists rests.Nothing = Unit {0}
IsRest bytes lists (rests.Forward walk) = Unit {0}
IsRest bytes lists (rests.Upward node) = IsNodeOf bytes lists node × IdentifiesInEach bytes lists node
IsRest bytes lists (rests.Backward back) =
    ForEachNest bytes lists (λ nest. IsBack (records nest (first_place bytes)) (nodes_of bytes nest) back)

-- a bound on the records that a walk still passes
abbrev pub records_left : ℕ → Rest → ℕ
records_left count rests.Nothing = 0
records_left count (rests.Forward walk) = count - walk.at
records_left count (rests.Upward node) = node.at
records_left count (rests.Backward back) = back.at

-- what an iterator is made of
pub record IterOf (W : Type 0) : Type 0 where
  pub bytes : List ℕ
  pub words : W
  pub first : Option Node
  pub rest : Rest
  pub test : Tested

-- one where there is a node first
abbrev pub one_first : Option Node → ℕ
one_first None = 0
one_first (Some node) = 1

-- the nodes that are still to come of an iterator, in a nest of its document
abbrev pub to_come : {W : Type 0} → IterOf W → Forest → List Node
to_come i nest =
    option_to_list i.first
    ++ rest_of i.rest (node_test i.test) (records nest (first_place i.bytes)) (nodes_of i.bytes nest)

-- What private functions promise.

-- the node itself on the axes that begin with it, its parent on the axis of that, and nothing on the others
abbrev pub comes_first : Axis → Entry → Entry → Bool
comes_first axes.Itself e y = e.index == y.index
comes_first axes.DescendantOrSelf e y = e.index == y.index
comes_first axes.AncestorOrSelf e y = e.index == y.index
comes_first axes.Parent e y = is_one_under y e
comes_first _ e y = false

-- the entries of a node, or none
abbrev pub AreNodes : Option Node → List Entry → List Entry → Type 0
AreNodes None xs es = xs ≡ []
AreNodes (Some node) xs es = (y : Entry) × (Identifies node.kind node.at y es × (xs ≡ y ∷ []))

-- the node that comes first on an axis
abbrev pub IsFirstOf : Axis → Entry → List Entry → Option Node → Type 0
IsFirstOf axis e es node = AreNodes node (filter (comes_first axis e) es) es

-- the axis of what comes after the first
abbrev pub axis_after : Axis → Option Axis
axis_after axes.Itself = None
axis_after axes.Parent = None
axis_after axes.DescendantOrSelf = Some axes.Descendant
axis_after axes.AncestorOrSelf = Some axes.Ancestor
axis_after axis = Some axis

-- the nodes on an axis, if there is one
abbrev pub nodes_on_some : Option Axis → Test → Entry → List Entry → List Node
nodes_on_some None t e es = []
nodes_on_some (Some axis) t e es = nodes_on axis t e es

-- the nodes on an axis after the one that comes first
abbrev pub nodes_after_first : Axis → Test → Entry → List Entry → List Node
nodes_after_first axis test e es = nodes_on_some (axis_after axis) test e es
