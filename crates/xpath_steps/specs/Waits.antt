-- Contexts that wait for the node that holds them (this project's own).
use Rattle.std.specs.Prelude.{◌≡◌, ℕ, ◌≤◌, ◌⊎◌, Bool, false, not, ◌&&◌, ◌==◌, nat_le, nat_lt, List}
use Rattle.std.specs.Prelude.{map, filter, length, reverse, Contains}
use Rattle.std.specs.List.{AllByRecursion, list_any, slice_index_or}
use Rattle.xml_model.specs.declared.Kind.TheVariants as kinds
use Rattle.xml_model.specs.declared.Node.{Node}
use Rattle.xml_model.specs.Contexts.{is_parent_of_any}
use Rattle.xml_model.specs.Laws.{holder_index, is_root_thing, nodes_above}
use Rattle.xml_model.specs.Tree.{Entry, kind_of}
use Rattle.vtd_words.specs.Table.{node_of}
use Rattle.xpath_steps.specs.Steps.{AreAmong}

-- whether a level has its flag
abbrev pub flagged : List Bool → ℕ → Bool
flagged flags level = slice_index_or flags level false

-- whether a context of a level is held by a node that begins before an index
abbrev pub waits : ℕ → ℕ → Entry → Bool
waits n level c = not (is_root_thing c.what) && (length c.holders == level && nat_lt (holder_index c.holders) n)

-- the parents of contexts that begin at an index or later, the last one first
abbrev pub parents_from : List Entry → ℕ → List Entry → List Node
parents_from es n ds = map node_of (reverse (filter (λ y. nat_le n y.index && is_parent_of_any ds y) es))

-- going backward, at an index: the contexts were passed, it is flagged at which levels some wait, and the parents of
-- the others were gathered
pub record Gathered (es ds : List Entry) (n : ℕ) (flags : ℕ → Bool) (held : List Node) : Type 0 where
  pub among : AreAmong ds es
  pub passed : AllByRecursion (λ c. n ≤ c.index) ds
  pub waiting : (level : ℕ) → flags level ≡ list_any (waits n level) ds
  pub gathered : held ≡ parents_from es n ds

-- the root or an element begins at an index, and what it is the parent of is of a level
pub record IsHolderAt (es : List Entry) (at : ℕ) (node : Node) (inside : ℕ) : Type 0 where
  pub entry : Entry
  pub there : Contains es entry
  pub index : entry.index ≡ at
  pub shown : node_of entry ≡ node
  pub kind : (kind_of entry.what ≡ kinds.Root) ⊎ (kind_of entry.what ≡ kinds.Element)
  pub above : nodes_above entry ≡ inside

-- neither the root nor an element begins at an index
abbrev pub NoneHolds : List Entry → ℕ → Type 0
NoneHolds es at =
    (y : Entry) → Contains es y → y.index ≡ at → (kind_of y.what ≡ kinds.Root) ⊎ (kind_of y.what ≡ kinds.Element) → ⊥
