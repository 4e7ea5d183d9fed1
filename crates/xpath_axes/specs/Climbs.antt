-- From a node to those above it (this project's own).
use Rattle.std.specs.Prelude.{ℕ, false, ◌&&◌, nat_lt, List, [], map, filter, reverse, Option, Some, None}
use Rattle.xml_model.specs.declared.Node.{Node}
use Rattle.xml_model.specs.Names.{Test, passes}
use Rattle.xml_model.specs.Tree.{Entry}
use Rattle.vtd_words.specs.Table.{node_of}

-- the nodes in which the record with an index is, but does not begin, that pass a test, the nearest one first
abbrev pub above_index : ℕ → Test → List Entry → List Entry
above_index at test es = reverse (filter (λ y. (nat_lt y.index at && nat_lt at y.past) && passes test false y) es)

-- the same, by their kinds and indexes
abbrev pub nodes_above : ℕ → Test → List Entry → List Node
nodes_above at test es = map node_of (above_index at test es)

-- what is above a node, and nothing where there is none
abbrev pub above_found : Option Node → Test → List Entry → List Node
above_found None t es = []
above_found (Some node) t es = nodes_above node.at t es
