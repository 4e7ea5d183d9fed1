-- Nodes that have a later sibling among contexts (this project's own).
use Rattle.std.specs.Prelude.{◌≡◌, ℕ, Bool, true, ◌&&◌, nat_le, nat_lt, List, map, filter, reverse}
use Rattle.std.specs.List.{AllByRecursion, list_any}
use Rattle.xml_model.specs.declared.Node.{Node}
use Rattle.xml_model.specs.Laws.{is_child_thing, same_parent}
use Rattle.xml_model.specs.Tree.{Entry}
use Rattle.vtd_words.specs.Table.{node_of}
use Rattle.xpath_steps.specs.Waits.{Gathered}

-- whether a node is an earlier sibling of a context
abbrev pub is_earlier : List Entry → Entry → Bool
is_earlier cs y = list_any (λ c. same_parent c y && nat_lt y.index c.index) cs

-- the earlier siblings of contexts that begin at an index or later, the last one first
abbrev pub earlier_from : List Entry → ℕ → List Entry → List Node
earlier_from es n ds = map node_of (reverse (filter (λ y. nat_le n y.index && is_earlier ds y) es))

-- the contexts that are children
abbrev pub children_among : List Entry → List Entry
children_among cs = filter (λ c. is_child_thing c.what) cs

-- going backward, at an index: the contexts were passed, it is flagged at which levels they wait for their parent, and
-- their earlier siblings that were passed were gathered
pub record Earlier (es ds : List Entry) (n : ℕ) (flags : ℕ → Bool) (held : List Node) : Type 0 where
  pub children : AllByRecursion (λ c. is_child_thing c.what ≡ true) ds
  pub parents : List Node
  pub waiting : Gathered es ds n flags parents
  pub gathered : held ≡ earlier_from es n ds
