-- The location caches: the elements of depth 1 to 5, of the tree, and by the records alone; and the child elements of
-- an element, by the records alone. All of it is this project's own.
use Rattle.std.specs.Prelude.{◌≡◌, ℕ, suc, ◌+◌, ◌*◌, ◌^◌, ◌≤◌, Bool, true, false, cond}
use Rattle.std.specs.Prelude.{◌&&◌, List, [], ◌∷◌, ◌++◌, map, length}
use Rattle.std.specs.Prelude.{drop, nat_le, nat_lt, ◌==◌, Option, Some, None, filter, position, option_and_then}
use Rattle.std.specs.Option.{unwrap_or}
use Rattle.xml_model.specs.Records.{Record}
use Rattle.xml_model.specs.Tree.{Thing, Entry, steps, is_child, on_axis}
use Rattle.xml_model.specs.Records.{kind_number}
use Rattle.xml_model.specs.Scan.{level_of, record_at, end_by_scan}
use Rattle.xml_model.specs.declared.Axis.TheVariants as axes
use Rattle.xml_model.specs.declared.Counts.{Counts}
use Rattle.xml_model.specs.declared.TokenKind.TheVariants as token

-- whether a node is an element
abbrev pub is_element : Thing → Bool
is_element (Thing.element t inside) = true
is_element _ = false

-- the elements of a depth, in document order
abbrev pub at_depth : ℕ → List Entry → List Entry
at_depth k es = filter (λ e. is_element e.what && length e.holders == k) es

-- what is written where there is no child
abbrev pub no_child : ℕ
no_child = 0xFFFF_FFFF

-- the position of an element's first child element among the elements one deeper
abbrev pub first_child : List Entry → Entry → ℕ
first_child deeper e = unwrap_or (position (λ c. is_child (steps e.path c.path)) deeper) no_child

-- of each element of a depth its index, and the position of its first child element among the elements one deeper
unfoldable pub level : ℕ → List Entry → List (ℕ × ℕ)
level k es = map (λ e. (e.index, first_child (at_depth (suc k) es) e)) (at_depth k es)

-- the indexes of the elements of a depth
unfoldable pub last_level : ℕ → List Entry → List ℕ
last_level k es = map (λ e. e.index) (at_depth k es)

-- an entry as a number of 64 bits: the index in the upper half
unfoldable pub level_word : ℕ × ℕ → ℕ
level_word x = x.0 * 2 ^ 32 + x.1

-- five levels as lists of numbers
pub record Levels : Type 0 where
  pub level1 : List ℕ
  pub level2 : List ℕ
  pub level3 : List ℕ
  pub level4 : List ℕ
  pub level5 : List ℕ

-- the levels of a tree: those of depth 1 to 4 tell the first child of each element, and the fifth has indexes alone
unfoldable pub tree_levels : List Entry → Levels
tree_levels es = record {
  level1 = map level_word (level 1 es);
  level2 = map level_word (level 2 es);
  level3 = map level_word (level 3 es);
  level4 = map level_word (level 4 es);
  level5 = last_level 5 es;
}

-- three levels, as the first version of index files has them
pub record LevelsOne : Type 0 where
  pub level1 : List ℕ
  pub level2 : List ℕ
  pub level3 : List ℕ

-- the three levels of a tree: the third has indexes alone
unfoldable pub tree_levels_one : List Entry → LevelsOne
tree_levels_one es = record {
  level1 = map level_word (level 1 es);
  level2 = map level_word (level 2 es);
  level3 = last_level 3 es;
}

-- whether a record is a starting tag's
abbrev pub is_tag : Record → Bool
is_tag r = r.token == kind_number token.StartTag

-- an index, where the record is a starting tag's of a depth
abbrev pub if_tag_of : ℕ → ℕ → Record → List ℕ
if_tag_of k n r = cond (is_tag r && r.depth == k) (n ∷ []) []

-- the indexes, from n on, of the starting tags of a depth
abbrev pub tags_from : ℕ → ℕ → List Record → List ℕ
tags_from k n [] = []
tags_from k n (r ∷ rs) = if_tag_of k n r ++ tags_from k (suc n) rs

-- one step of the search for a first child: a starting tag ends it
abbrev pub child_here : ℕ → ℕ → Record → Option ℕ → Option ℕ
child_here k n r o = cond (is_tag r) (cond (nat_le r.depth k) None (Some n)) o

-- the index, from n on, of the first starting tag, where its depth is above k
abbrev pub child_from : ℕ → ℕ → List Record → Option ℕ
child_from k n [] = None
child_from k n (r ∷ rs) = child_here k n r (child_from k (suc n) rs)

-- the position of the first child element of the starting tag with index r among those one deeper
abbrev pub child_position : ℕ → List Record → ℕ → ℕ
child_position k rs r =
    unwrap_or (option_and_then (λ j. position (λ m. m == j) (tags_from (suc k) 0 rs))
    (child_from k (suc r) (drop (suc r) rs))) no_child

-- of each starting tag of a depth its index, and the position of its first child element, by the records
unfoldable pub record_level : ℕ → List Record → List (ℕ × ℕ)
record_level k rs = map (λ r. (r, child_position k rs r)) (tags_from k 0 rs)

-- the levels of records
unfoldable pub levels : List Record → Levels
levels rs = record {
  level1 = map level_word (record_level 1 rs);
  level2 = map level_word (record_level 2 rs);
  level3 = map level_word (record_level 3 rs);
  level4 = map level_word (record_level 4 rs);
  level5 = tags_from 5 0 rs;
}

-- the three levels of records, as the first version of index files has them
unfoldable pub levels_one : List Record → LevelsOne
levels_one rs = record {
  level1 = map level_word (record_level 1 rs);
  level2 = map level_word (record_level 2 rs);
  level3 = tags_from 3 0 rs;
}

-- the child elements of the element with the index n: the starting tags one deeper among its records
abbrev pub child_tags : ℕ → List Record → List ℕ
child_tags n rs =
    filter (λ j. nat_lt n j && nat_lt j (end_by_scan n rs)) (tags_from (suc (record_at n rs).depth) 0 rs)

-- the child elements of an element of the tree
abbrev pub child_elements : Entry → List Entry → List Entry
child_elements x es = filter (λ e. is_element e.what && on_axis axes.Child x.path e.path) es

-- how deep the record after one may be: a starting tag's is followed by what is in it
abbrev pub deepest_next : Record → ℕ
deepest_next r = cond (is_tag r) (suc r.depth) (level_of r)

-- each record is at most so deep as the one before it allows, the first at most at a level
abbrev pub StepsDown : ℕ → List Record → Type 0
StepsDown l [] = Unit {0}
StepsDown l (r ∷ rs) = (level_of r ≤ l) × StepsDown (deepest_next r) rs

-- records as those of documents are: what is deeper is in what is before it, and there is one root element
pub record AreNested (rs : List Record) : Type 0 where
  pub steps : StepsDown 0 rs
  pub root : length (tags_from 0 0 rs) ≡ 1

-- counts of levels are those of the levels of records
pub record CountsLevels (counts : Counts) (rs : List Record) : Type 0 where
  pub level1 : counts.level1 ≡ length (tags_from 1 0 rs)
  pub level2 : counts.level2 ≡ length (tags_from 2 0 rs)
  pub level3 : counts.level3 ≡ length (tags_from 3 0 rs)
  pub level4 : counts.level4 ≡ length (tags_from 4 0 rs)
  pub level5 : counts.level5 ≡ length (tags_from 5 0 rs)

-- one more, where two numbers are the same
abbrev pub one_if : ℕ → ℕ → ℕ → ℕ
one_if k depth n = cond (depth == k) (suc n) n

-- counts with one more element of a depth
abbrev pub with_element : ℕ → Counts → Counts
with_element depth c = record {
  records = c.records;
  level1 = one_if 1 depth c.level1;
  level2 = one_if 2 depth c.level2;
  level3 = one_if 3 depth c.level3;
  level4 = one_if 4 depth c.level4;
  level5 = one_if 5 depth c.level5;
}

-- counts of levels are at most a number
pub record LevelsAtMost (n : ℕ) (c : Counts) : Type 0 where
  pub level1 : c.level1 ≤ n
  pub level2 : c.level2 ≤ n
  pub level3 : c.level3 ≤ n
  pub level4 : c.level4 ≤ n
  pub level5 : c.level5 ≤ n
