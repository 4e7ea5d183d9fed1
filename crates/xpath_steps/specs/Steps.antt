-- Steps from lists of nodes (XPath 1.0, sections 2 and 2.2).
use Rattle.std.specs.Prelude.{◌≡◌, ℕ, ◌<◌, ◌≤◌, List, [], ◌∷◌, length, map, filter, Contains}
use Rattle.std.specs.List.{slice_index_or}
use Rattle.xml_model.specs.declared.Axis.{Axis}
use Rattle.xml_model.specs.declared.Node.{Node}
use Rattle.xml_model.specs.Contexts.{union_list, AreContexts}
use Rattle.xml_model.specs.Names.{Test, passes}
use Rattle.xml_model.specs.Nest.{Forest}
use Rattle.xml_model.specs.Tree.{Entry}
use Rattle.vtd_words.specs.Lists.{Lists}
use Rattle.vtd_words.specs.Table.{ForEachNest, IsNodeOf, node_of, nodes_of}
use Rattle.xpath_axes.specs.Tests.{is_attribute_axis}

-- the nodes on an axis of some context that pass a test, in document order, each once
abbrev pub step_nodes : Axis → Test → List Entry → List Entry → List Node
step_nodes axis t cs es = map node_of (filter (passes t (is_attribute_axis axis)) (union_list axis cs es))

-- the nodes of a list are those of a table
abbrev pub AreNodesOf : List ℕ → Lists → List Node → Type 0
AreNodesOf bytes lists nodes = (k : ℕ) (d : Node) → k < length nodes → IsNodeOf bytes lists (slice_index_or nodes k d)

-- the entries of a list are nodes of a tree
abbrev pub AreAmong : List Entry → List Entry → Type 0
AreAmong cs es = (c : Entry) → Contains cs c → Contains es c

-- of every nest of a table, and of the entries in it that nodes denote, which are in document order, each once
abbrev pub ForEachContexts : List ℕ → Lists → List Node → (Forest → List Entry → Type 0) → Type 0
ForEachContexts bytes lists nodes P =
    ForEachNest bytes lists (λ nest. (cs : List Entry) → map node_of cs ≡ nodes →
    AreContexts cs (nodes_of bytes nest) → P nest cs)

-- no context begins before the end of an earlier one, nor before an index
abbrev pub ApartFrom : ℕ → List Entry → Type 0
ApartFrom low [] = Unit {0}
ApartFrom low (c ∷ cs) = (low ≤ c.index) × ApartFrom c.past cs
