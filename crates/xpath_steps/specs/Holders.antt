-- From contexts to the nodes that they are in (this project's own).
use Rattle.std.specs.Prelude.{ℕ, zero, suc, Bool, true, false, ◌&&◌, nat_le, nat_lt, List, filter, reverse}
use Rattle.std.specs.List.{slice_index_or}
use Rattle.xml_model.specs.declared.Kind.{Kind}
use Rattle.xml_model.specs.declared.Kind.TheVariants as kinds
use Rattle.xml_model.specs.declared.Node.{Node}
use Rattle.xml_model.specs.Tree.{Entry}
use Rattle.xpath_axes.specs.declared.back.Back.{Back}

-- the nodes from an index on that a climb still passes, the last one first: those that begin before the record where it
-- is, and end after the one where it began
abbrev pub holders_left : Back → ℕ → List Entry → List Entry
holders_left b stop es =
    reverse (filter (λ y. nat_lt y.index b.at && (nat_le stop y.index && nat_lt b.from y.past)) es)

-- whether a node of a kind and a level goes on over records after its first one, whose lowest level is given
abbrev pub goes_over : Kind → ℕ → ℕ → Bool
goes_over kinds.Root level low = true
goes_over kinds.Element level low = nat_lt level low
goes_over _ level low = false

-- the index of the node before one of a list, and 0 before the first
abbrev pub index_before : List Node → ℕ → ℕ
index_before nodes zero = 0
index_before nodes (suc i) = (slice_index_or nodes i (record { kind = kinds.Root; at = 0 })).at
