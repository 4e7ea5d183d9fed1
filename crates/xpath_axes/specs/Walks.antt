-- Walks along the records (this project's own): which nodes are left of one, and where it stops.
use Rattle.std.specs.Prelude.{◌≡◌, ℕ, suc, Bool, cond, not, ◌&&◌, ◌||◌, ◌==◌, nat_le, nat_lt, List, [], ◌∷◌, drop, map}
use Rattle.std.specs.Prelude.{true, filter, Option, Some, None}
use Rattle.xml_model.specs.declared.Axis.{Axis}
use Rattle.xml_model.specs.declared.Node.{Node}
use Rattle.xml_model.specs.declared.TokenKind.TheVariants as token
use Rattle.xml_model.specs.Laws.{is_child_thing, is_attribute_thing}
use Rattle.xml_model.specs.Names.{Test, passes}
use Rattle.xml_model.specs.Records.{Record, kind_number}
use Rattle.xml_model.specs.Scan.{level_of}
use Rattle.xml_model.specs.Tree.{Thing, Entry}
use Rattle.std.specs.Prelude.{length}
use Rattle.vtd_words.specs.Table.{node_of}
use Rattle.xpath_axes.specs.declared.walk.Walk.{Walk}
use Rattle.xpath_axes.specs.Tests.{passing}

-- whether a record is of an attribute or of a declaration of a namespace, its name or its value
abbrev pub is_attribute_record : Record → Bool
is_attribute_record r =
    r.token == kind_number token.AttributeName || r.token == kind_number token.NamespaceName
    || r.token == kind_number token.Value

-- whether a walk goes on over a record
abbrev pub goes_on : Bool → ℕ → Record → Bool
goes_on attributes floor r = (not attributes || is_attribute_record r) && nat_le floor (level_of r)

-- the index, from n on, of the first record that does not pass
abbrev pub stop_from : (Record → Bool) → ℕ → List Record → ℕ
stop_from pass n [] = n
stop_from pass n (r ∷ rs) = cond (pass r) (stop_from pass (suc n) rs) n

-- the record where a walk stops
abbrev pub stop_of : Walk → List Record → ℕ
stop_of w rs = stop_from (goes_on w.attributes w.floor) w.at (drop w.at rs)

-- whether a level is the one that is asked for
abbrev pub level_is : Option ℕ → ℕ → Bool
level_is None l = true
level_is (Some m) l = l == m

-- whether a walk wants a thing that so many elements hold
abbrev pub wants : Walk → Thing → ℕ → Bool
wants w what l = level_is w.level l && cond w.attributes (is_attribute_thing what) (is_child_thing what)

-- whether a node is wanted and passes a test
abbrev pub is_sought : Walk → Test → Entry → Bool
is_sought w test e = wants w e.what (length e.holders) && passes test w.attributes e

-- the nodes that are left of a walk: those from its record on, before it stops, that it seeks
abbrev pub left_of : Walk → Test → List Record → List Entry → List Entry
left_of w test rs es =
    filter (λ e. nat_le w.at e.index && (nat_lt e.index (stop_of w rs) && is_sought w test e)) es

-- the same, by their kinds and indexes
abbrev pub nodes_left : Walk → Test → List Record → List Entry → List Node
nodes_left w test rs es = map node_of (left_of w test rs es)

-- the nodes that are left of a walk are those on an axis, whatever test they are to pass
abbrev pub Covers : Axis → Walk → List Record → List Entry → Entry → Type 0
Covers axis w rs es z = (test : Test) → left_of w test rs es ≡ passing axis test z es

-- where a walk goes on after a node that it found, it stops at the same record; where it found none, it is there
abbrev pub StopsAt : Walk → List Record → Option Node → ℕ → Type 0
StopsAt w rs None next = next ≡ stop_of w rs
StopsAt w rs (Some node) next = stop_of w rs ≡ stop_of (record w { at = next }) rs
