-- The laws, each of one nest and its nodes, in the form in which other crates cite them.
use Rattle.std.proofs.Common.{◌≡◌, ℕ, zero, suc, ◌+◌, ◌<◌, true, false, List, [], ◌∷◌, map, ap, sym, ◌∙◌, arith, subst, not, ◌&&◌, ◌==◌, is_some, option_map}
use Rattle.std.specs.List.{AllByRecursion as Each, Contains, slice_index, list_all}
use Rattle.std.specs.List.Sorted.{IsStrictlyIncreasing}
use Rattle.xml_model.specs.declared.Axis.{Axis}
use Rattle.xml_model.specs.declared.Axis.TheVariants as axes
use Rattle.xml_model.specs.Items.{meets}
use Rattle.xml_model.specs.Nest.{Forest, is_nest, flat}
use Rattle.xml_model.specs.Records.{Record, records}
use Rattle.xml_model.specs.Tree.{Thing, Entry, kind_of, all, at_index, on_axis, axis_list, is_reverse, reverse_if}
use Rattle.xml_model.specs.Scan.{end_by_scan, past_by_scan, holder_by_scan, kind_by_scan, starts_by_scan, begins_by_scan, IsElement, EndsAt}
use Rattle.xml_model.specs.Laws.{IsNode, HasRecords, FirstRecordShows, IndexesDecide, SiblingsDecide, HasParent, by_indexes, list_by_indexes, is_root_thing, holder_index}
use Rattle.xml_model.proofs.Filters.{filter_same}
use Rattle.xml_model.proofs.Each.{Rising, rising_map, each_at, each_more}
use Rattle.xml_model.proofs.Bounds.{nest_shallow}
use Rattle.xml_model.proofs.Rise.{index, indexes_rise}
use Rattle.xml_model.proofs.Proper.{nest_proper}
use Rattle.xml_model.proofs.Axes.{Related, related, formed}
use Rattle.xml_model.proofs.FirstRecords.{HolderByScan, EndsByScan, nodes_have_records, first_records, pasts_by_scan, holders_by_scan}
use Rattle.xml_model.proofs.AllAxes.{ParentDecides, ParentThere, AxisDecides, parents_decide, parents_there, all_axes, siblings_decide}
use Rattle.xml_model.proofs.NodeAt.{indexes_are_starts, begins_decide, kinds_decide}

-- a fact of each two nodes, at two of them
at_two : (R : Entry → Entry → Type 0) (es : List Entry) → Each (λ x. Each (R x) es) es → (x y : Entry) → Contains es x → Contains es y → R x y
at_two R es h x y c d = each_at (R x) es y (each_at (λ x. Each (R x) es) es x h c) d

increasing : (low high : ℕ) (ns : List ℕ) → Rising (λ n. n) low ns high → IsStrictlyIncreasing ns
increasing low high [] h k l = absurd (omega arith)
increasing low high (n ∷ []) h k l = absurd (omega arith)
increasing low high (n ∷ m ∷ ns) h zero l = h.1.0
increasing low high (n ∷ m ∷ ns) h (suc k) l =
    let next : suc (k + 1) ≡ suc k + 1 = omega arith in
    let Above : ℕ → Type 0 = λ j. slice_index (m ∷ ns) k < slice_index (n ∷ m ∷ ns) j in
    subst Above next (increasing (suc n) high (m ∷ ns) h.1 k (omega arith))

pub indexes_increase : (nest : Forest) (first : ℕ) → IsStrictlyIncreasing (map (λ e. e.index) (all nest first))
indexes_increase nest first = increasing 0 _ (map index (all nest first)) (rising_map (λ n. n) index 0 _ (all nest first) (indexes_rise nest first))

pub records_of_node : (nest : Forest) (first : ℕ) → is_nest nest ≡ true → (e : Entry) → IsNode nest first e → HasRecords (records nest first) e
records_of_node nest first n e c = each_at (HasRecords (records nest first)) (all nest first) e (nodes_have_records nest first (nest_shallow nest n)) c

pub first_record_of_node : (nest : Forest) (first : ℕ) → is_nest nest ≡ true → (e : Entry) → IsNode nest first e → FirstRecordShows (records nest first) e
first_record_of_node nest first n e c = each_at (FirstRecordShows (records nest first)) (all nest first) e (first_records nest first (nest_shallow nest n)) c

pub past_of_node : (nest : Forest) (first : ℕ) → is_nest nest ≡ true → (e : Entry) → IsNode nest first e → e.past ≡ past_by_scan (kind_of e.what) e.index (records nest first)
past_of_node nest first n e c = each_at (EndsByScan (records nest first)) (all nest first) e (pasts_by_scan nest first (nest_shallow nest n)) c

element_past : (what : Thing) (rs : List Record) (index at past : ℕ) → IsElement what → index ≡ at → past ≡ past_by_scan (kind_of what) index rs → past ≡ end_by_scan at rs
element_past (Thing.element t inside) rs index at past k p h = h ∙ ap (λ n. end_by_scan n rs) p
element_past (Thing.root first f) rs index at past k p h = absurd k
element_past (Thing.attribute a) rs index at past k p h = absurd k
element_past (Thing.text xs) rs index at past k p h = absurd k
element_past (Thing.comment cs) rs index at past k p h = absurd k
element_past (Thing.instruction i) rs index at past k p h = absurd k

pub end_of_element : (nest : Forest) (first : ℕ) → is_nest nest ≡ true → (at : ℕ) → EndsAt nest first at (end_by_scan at (records nest first))
end_of_element nest first n at =
    let rs = records nest first in
    each_more (EndsByScan rs) (λ e. IsElement e.what → e.index ≡ at → e.past ≡ end_by_scan at rs)
    (λ e h k p. element_past e.what rs e.index at e.past k p h) (all nest first) (pasts_by_scan nest first (nest_shallow nest n))

pub places_of_two : (nest : Forest) (first : ℕ) (x y : Entry) → IsNode nest first x → IsNode nest first y → IndexesDecide x y
places_of_two nest first x y c d = let r = at_two Related (all nest first) (related nest first) x y c d in record { under = r.under; order = r.order; same = r.same }

pub axis_of_two : (nest : Forest) (first : ℕ) → is_nest nest ≡ true → (axis : Axis) (x y : Entry) → IsNode nest first x → IsNode nest first y → on_axis axis x.path y.path ≡ by_indexes axis x y
axis_of_two nest first n axis x y c d = at_two (AxisDecides axis) (all nest first) (all_axes nest first (nest_shallow nest n) axis) x y c d

pub axis_list_of_node : (nest : Forest) (first : ℕ) → is_nest nest ≡ true → (axis : Axis) (x : Entry) → IsNode nest first x → axis_list axis x.path (all nest first) ≡ list_by_indexes axis x (all nest first)
unfolding axis_list
axis_list_of_node nest first n axis x c =
    let es = all nest first in
    ap (reverse_if (is_reverse axis)) (filter_same (λ e. on_axis axis x.path e.path) (by_indexes axis x) es (λ y d. axis_of_two nest first n axis x y c d))

pub siblings_of_child : (nest : Forest) (first : ℕ) → is_nest nest ≡ true → (z x y : Entry) → IsNode nest first z → IsNode nest first x → IsNode nest first y → on_axis axes.Child z.path x.path ≡ true → SiblingsDecide z x y
siblings_of_child nest first n z x y b c d h =
    let es = all nest first in
    let s = nest_shallow nest n in
    let parents = parents_decide nest first s in
    let forms = formed nest first in
    siblings_decide z x y (each_at _ es x forms c) (each_at _ es y forms d) (at_two ParentDecides es parents x z c b) (at_two ParentDecides es parents y z d b) (axis_of_two nest first n axes.Child z y b d)
    (axis_of_two nest first n axes.FollowingSibling x y c d) (axis_of_two nest first n axes.PrecedingSibling x y c d) h

pub holder_of_node : (nest : Forest) (first : ℕ) → is_nest nest ≡ true → (e : Entry) → IsNode nest first e → holder_by_scan e.index (records nest first) ≡ holder_index e.holders
holder_of_node nest first n e c = each_at (HolderByScan (records nest first)) (all nest first) e (holders_by_scan nest first (nest_shallow nest n)) c

pub parent_of_node : (nest : Forest) (first : ℕ) → is_nest nest ≡ true → (x y : Entry) → IsNode nest first x → IsNode nest first y →
    on_axis axes.Parent x.path y.path ≡ (not (is_root_thing x.what) && y.index == holder_by_scan x.index (records nest first))
unfolding on_axis
parent_of_node nest first n x y c d =
    at_two ParentDecides (all nest first) (parents_decide nest first (nest_shallow nest n)) x y c d ∙ ap (λ m. not (is_root_thing x.what) && y.index == m) (sym (holder_of_node nest first n x c))

pub parent_there : (nest : Forest) (first : ℕ) → is_nest nest ≡ true → (x : Entry) → IsNode nest first x → is_root_thing x.what ≡ false → HasParent nest first x
parent_there nest first n x c = each_at (ParentThere nest first) (all nest first) x (parents_there nest first (nest_shallow nest n)) c

pub starts_of_nodes : (nest : Forest) (first : ℕ) → is_nest nest ≡ true → list_all meets (flat nest) ≡ true → map (λ e. e.index) (all nest first) ≡ starts_by_scan (records nest first)
starts_of_nodes nest first n m = indexes_are_starts nest first (nest_shallow nest n) (nest_proper nest n m)

pub begins_at_record : (nest : Forest) (first : ℕ) → is_nest nest ≡ true → list_all meets (flat nest) ≡ true → (n : ℕ) → is_some (at_index n (all nest first)) ≡ begins_by_scan n (records nest first)
begins_at_record nest first n m = begins_decide nest first (nest_shallow nest n) (nest_proper nest n m)

pub node_at_record : (nest : Forest) (first : ℕ) → is_nest nest ≡ true → list_all meets (flat nest) ≡ true → (n : ℕ) → option_map (λ e. kind_of e.what) (at_index n (all nest first)) ≡ kind_by_scan n (records nest first)
node_at_record nest first n m = kinds_decide nest first (nest_shallow nest n) (nest_proper nest n m)
