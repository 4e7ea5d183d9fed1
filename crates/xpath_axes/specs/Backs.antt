-- Walks backward along the records (this project's own).
use Rattle.std.specs.Prelude.{◌≡◌, ℕ, zero, suc, ◌≤◌, Bool, true, false, cond, ◌&&◌, List, map, filter, reverse, length}
use Rattle.std.specs.Prelude.{nat_lt, nat_le, Contains}
use Rattle.xml_model.specs.declared.Kind.{Kind}
use Rattle.xml_model.specs.declared.Kind.TheVariants as kinds
use Rattle.xml_model.specs.declared.Node.{Node}
use Rattle.xml_model.specs.Laws.{is_child_thing}
use Rattle.xml_model.specs.Names.{Test, passes}
use Rattle.xml_model.specs.Records.{Record}
use Rattle.xml_model.specs.Scan.{level_of, record_at}
use Rattle.xml_model.specs.Tree.{Entry}
use Rattle.vtd_words.specs.Table.{node_of}
use Rattle.xpath_axes.specs.declared.back.Back.{Back}
use Rattle.xpath_axes.specs.Walks.{level_is}

-- the lowest level of the records from one index up to another, both included
pub record IsLow (rs : List Record) (from to low : ℕ) : Type 0 where
  pub least : (k : ℕ) → from ≤ k → k ≤ to → low ≤ level_of (record_at k rs)
  pub index : ℕ
  pub after : from ≤ index
  pub within : index ≤ to
  pub is : low ≡ level_of (record_at index rs)

-- the index after the last record before an index that is of a level below a floor, and 0 where there is none
abbrev pub back_stop : ℕ → ℕ → List Record → ℕ
back_stop floor zero rs = 0
back_stop floor (suc n) rs = cond (nat_le floor (level_of (record_at n rs))) (back_stop floor n rs) (suc n)

-- whether a walk backward wants a node: a child that ended before the record where the walk began
abbrev pub wants_back : Back → Entry → Bool
wants_back b y = nat_le y.past b.from && (level_is b.level (length y.holders) && is_child_thing y.what)

-- the nodes that are left of a walk backward, the last one first
abbrev pub left_before : Back → Test → List Record → List Entry → List Entry
left_before b test rs es =
    reverse (filter (λ y. nat_lt y.index b.at && (nat_le (back_stop b.floor b.at rs) y.index
    && (wants_back b y && passes test false y))) es)

-- the same, by their kinds and indexes
abbrev pub nodes_before : Back → Test → List Record → List Entry → List Node
nodes_before b test rs es = map node_of (left_before b test rs es)

-- a walk backward began at a node, and knows the lowest level of the records that it passed
pub record IsBack (rs : List Record) (es : List Entry) (b : Back) : Type 0 where
  pub entry : Entry
  pub there : Contains es entry
  pub began : entry.index ≡ b.from
  pub passed : b.at ≤ b.from
  pub low : IsLow rs b.at b.from b.low

-- whether a child of a kind and a level ends before records from its first one on, whose lowest level is given
abbrev pub ends_before : Kind → ℕ → ℕ → Bool
ends_before kinds.Root level low = false
ends_before kinds.Attribute level low = false
ends_before kinds.Element level low = nat_le low level
ends_before _ level low = true
