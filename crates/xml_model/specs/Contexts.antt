-- The nodes on an axis of some of a list of context nodes, in document order, each once (XPath 1.0, sections 2 and
-- 2.2), and what a pass over the tree finds for them. The latter is this project's own.
use Rattle.std.specs.Prelude.{ℕ, suc, ◌<◌, Bool, cond, not, ◌&&◌, ◌||◌, ◌==◌, List, [], ◌∷◌, ◌++◌}
use Rattle.std.specs.Prelude.{nat_lt, nat_le, min, max, filter, Contains}
use Rattle.std.specs.List.{AllByRecursion, list_any}
use Rattle.xml_model.specs.declared.Axis.{Axis}
use Rattle.xml_model.specs.Tree.{Entry, on_axis}
use Rattle.xml_model.specs.Laws.{holder_index, is_child_thing, is_root_thing, is_under}

-- whether a node is on an axis of one of the contexts
abbrev pub on_any : Axis → List Entry → Entry → Bool
on_any axis cs y = list_any (λ c. on_axis axis c.path y.path) cs

-- the nodes on an axis of some context, in document order, each once
unfoldable pub union_list : Axis → List Entry → List Entry → List Entry
union_list axis cs es = filter (on_any axis cs) es

-- the indexes rise along a list of nodes
abbrev pub Rises : List Entry → Type 0
Rises [] = Unit {0}
Rises (e ∷ es) = AllByRecursion (λ y. e.index < y.index) es × Rises es

-- the contexts are nodes of the tree, in document order, each once
pub record AreContexts (cs es : List Entry) : Type 0 where
  pub among : (c : Entry) → Contains cs c → Contains es c
  pub rise : Rises cs

-- the least end of contexts, and a bound where there is none
abbrev pub least_past : ℕ → List Entry → ℕ
least_past bound [] = bound
least_past bound (c ∷ cs) = min c.past (least_past bound cs)

-- the greatest index of contexts, and 0 where there is none
abbrev pub greatest_index : List Entry → ℕ
greatest_index [] = 0
greatest_index (c ∷ cs) = max c.index (greatest_index cs)

-- the contexts from an index on that are in no earlier one
abbrev pub outermost : ℕ → List Entry → List Entry
outermost low [] = []
outermost low (c ∷ cs) =
    cond (nat_lt c.index low) [] (c ∷ []) ++ outermost (cond (nat_lt c.index low) low c.past) cs

-- the ancestors of each context from an index on: of the first from low on, of any other from the context before it on
abbrev pub new_ancestors : List Entry → ℕ → List Entry → List Entry
new_ancestors es low [] = []
new_ancestors es low (c ∷ cs) =
    filter (λ y. is_under y c && nat_le low y.index) es ++ new_ancestors es c.index cs

-- the same with the contexts themselves: of the first from low on, of any other from after the context before it on
abbrev pub new_ancestors_or_selves : List Entry → ℕ → List Entry → List Entry
new_ancestors_or_selves es low [] = []
new_ancestors_or_selves es low (c ∷ cs) =
    filter (λ y. (y.index == c.index || is_under y c) && nat_le low y.index) es
    ++ new_ancestors_or_selves es (suc c.index) cs

-- whether an index is that of a context
abbrev pub is_index_of : List Entry → ℕ → Bool
is_index_of cs n = list_any (λ c. c.index == n) cs

-- whether a node is a child whose nearest holder is a context
abbrev pub is_child_of_any : List Entry → Entry → Bool
is_child_of_any cs y = is_child_thing y.what && is_index_of cs (holder_index y.holders)

-- whether a node is the nearest holder of a context that is not the root
abbrev pub is_parent_of_any : List Entry → Entry → Bool
is_parent_of_any cs y = list_any (λ c. not (is_root_thing c.what) && y.index == holder_index c.holders) cs

-- whether a node is a child that begins at an index or later
abbrev pub is_child_from : ℕ → Entry → Bool
is_child_from n y = nat_le n y.index && is_child_thing y.what

-- whether a node is a child whose records end at an index or earlier
abbrev pub is_child_up_to : ℕ → Entry → Bool
is_child_up_to n y = nat_le y.past n && is_child_thing y.what
