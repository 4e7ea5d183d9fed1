-- Steps along `following` and `preceding`: the least end of contexts, and the last of them.
use Rattle.std.proofs.Common.{◌≡◌, ℕ, zero, suc, ◌+◌, ◌≤◌, true, false, ◌&&◌, List, [], ◌∷◌, ◌++◌, length, drop, map, reverse, refl, ap}
use Rattle.std.proofs.Common.{sym, ◌∙◌, arith, filter, min, nat_lt, nat_le, Option, Some, None, Bool}
use Rattle.std.proofs.lemmas.Bool.{false≢true, and_from, and_parts, le-leb, lt-ltb}
use Rattle.std.proofs.lemmas.Grind.{common_steps}
use Rattle.std.proofs.lemmas.List.{drop_all, map-append}
use Rattle.xml_model.specs.declared.Axis.TheVariants as axes
use Rattle.xml_model.specs.Contexts.{union_list, least_past, greatest_index, is_child_from, is_child_up_to, AreContexts, Rises}
use Rattle.xml_model.specs.Laws.{by_indexes, is_child_thing}
use Rattle.xml_model.specs.Names.{Expanded, NameTest, Test, expanded, is_principal, name_passes, passes}
use Rattle.xml_model.specs.Nest.{Forest, is_nest}
use Rattle.xml_model.specs.Records.{records}
use Rattle.xml_model.specs.Tree.{Entry, all}
use Rattle.xml_model.proofs.Contexts.{union_by_indexes, following_of_contexts, preceding_of_contexts}
use Rattle.xml_model.proofs.Filters.{filter_same, none_of, same_test}
use Rattle.xml_model.proofs.NodeLaws.{axis_list_of_node}
use Rattle.xml_model.proofs.TreeOrder.{InOrder, in_order}
use Rattle.vtd_words.specs.Table.{node_of}
use Rattle.xml_model.specs.declared.NameTest.{NameTest as Name}
use Rattle.xml_model.specs.declared.NodeTest.{NodeTest as Tested}
use Rattle.xml_model.specs.declared.NodeTest.TheVariants as tested
use Rattle.xpath_axes.specs.Tests.{node_test, passing}
use Rattle.xpath_axes.specs.Walks.{goes_on, nodes_left, stop_from}
use Rattle.xpath_axes.proofs.AxisLemmas.{filter_filter, stop_is}
use Rattle.xpath_axes.proofs.ClimbLemmas.{filter_reverse}
use Rattle.xpath_steps.specs.Steps.{step_nodes, AreAmong}
use Rattle.xpath_steps.proofs.AboveLemmas.{filtered_among}
use Rattle.xpath_steps.proofs.StepLemmas.{At}

-- The least end.

least_low : (bound : ℕ) (cs : List Entry) → least_past bound cs ≤ bound
least_low bound [] = omega arith
least_low bound (c ∷ cs) = omega (arith, least_low bound cs)

-- the least end is that of the contexts that were looked at or of the others
pub least_first : (bound : ℕ) (cs : List Entry) → least_past bound cs ≡ min bound (least_past bound cs)
least_first bound cs = omega (arith, least_low bound cs)

pub least_on : (bound end : ℕ) (cs : List Entry) (i : ℕ) (a : At cs i) (next : ℕ) → next ≡ min end a.entry.past →
    min end (least_past bound (drop i cs)) ≡ min next (least_past bound (drop (i + 1) cs))
least_on bound end cs i a next h = ap (λ ds. min end (least_past bound ds)) a.split
    ∙ (let m : min end (min a.entry.past (least_past bound (drop (i + 1) cs))) ≡ min next (least_past bound (drop (i + 1) cs)) = omega (arith, h) in m)

pub least_all : (bound end : ℕ) (cs : List Entry) (i : ℕ) → length cs ≤ i → end ≤ bound → min end (least_past bound (drop i cs)) ≡ end
least_all bound end cs i h l = ap (λ ds. min end (least_past bound ds)) (drop_all i cs h) ∙ (let m : min end bound ≡ end = omega (arith, l) in m)

-- the walk from the least end on
pub following_left : (nest : Forest) (first : ℕ) → is_nest nest ≡ true → (cs : List Entry) → AreContexts cs (all nest first) → (test : Test) (at : ℕ) →
    at ≡ least_past (length (records nest first)) cs →
    nodes_left (record { at = at; floor = 0; level = None; attributes = false }) test (records nest first) (all nest first)
    ≡ step_nodes axes.Following test cs (all nest first)
following_left nest first n cs k test at e =
    let rs = records nest first in
    let es = all nest first in
    let order : InOrder (length rs) es = in_order nest first n in
    let low : at ≤ length rs = omega (arith, e, least_low (length rs) cs) in
    let stop = stop_is (goes_on false 0) rs at (length rs) low (omega arith) (λ j a b. le-leb 0 _ (omega arith)) (λ b. absurd (omega (arith, b))) in
    ap (map node_of)
    (filter_same _ (λ y. is_child_from at y && passes test false y) es (λ y d. same_test _ _
    (λ t. let p = and_parts (nat_le at y.index) _ t in
    let q = and_parts (nat_lt y.index (stop_from (goes_on false 0) at (drop at rs))) _ p.1 in
    let r = and_parts (is_child_thing y.what) (passes test false y) q.1 in
    and_from _ _ (and_from _ _ p.0 r.0) r.1)
    (λ t. let p = and_parts (is_child_from at y) (passes test false y) t in
    let q = and_parts (nat_le at y.index) (is_child_thing y.what) p.0 in
    and_from _ _ q.0 (and_from _ _ (lt-ltb y.index _ (omega (arith, stop, order.within y d))) (and_from _ _ q.1 p.1))))
    ∙ sym (filter_filter (passes test false) (is_child_from at) es)
    ∙ ap (λ m. filter (passes test false) (filter (is_child_from m) es)) e
    ∙ sym (ap (filter (passes test false)) (union_by_indexes nest first n axes.Following cs k.among ∙ following_of_contexts (length rs) es cs order)))

-- The last context.

reverse_cons : {X : Type 0} (x : X) (xs : List X) → reverse (x ∷ xs) ≡ reverse xs ++ x ∷ []
reverse_cons x xs = grind (arith, common_steps)

append_one : {X : Type 0} (xs : List X) (x : X) → reverse (xs ++ x ∷ []) ≡ x ∷ reverse xs
append_one xs x = grind (arith, common_steps)

last_is : (c : Entry) (cs : List Entry) (i : ℕ) → i + 1 ≡ length (c ∷ cs) → (e : Entry) → drop i (c ∷ cs) ≡ e ∷ [] → Rises (c ∷ cs) →
    greatest_index (c ∷ cs) ≡ e.index
last_is c [] zero h e s r = let same : c ≡ e = cc in omega (arith, ap (λ (z : Entry). z.index) same)
last_is c [] (suc i) h e s r = absurd (omega (arith, h))
last_is c (d ∷ cs) zero h e s r = absurd (omega (arith, h))
last_is c (d ∷ cs) (suc i) h e s r =
    let g = last_is d cs i (omega (arith, h)) e s r.1 in
    omega (arith, g, r.0.0)

greatest_of_last : (cs : List Entry) → Rises cs → (i : ℕ) (a : At cs i) → i + 1 ≡ length cs → greatest_index cs ≡ a.entry.index
greatest_of_last [] r i a h = absurd (omega (arith, h))
greatest_of_last (c ∷ cs) r i a h =
    last_is c cs i h a.entry (a.split ∙ ap (λ ds. a.entry ∷ ds) (drop_all (i + 1) (c ∷ cs) (omega (arith, h)))) r

turned_back : (xs : List Entry) → reverse (map node_of (reverse xs)) ≡ map node_of xs
turned_back [] = refl
turned_back (x ∷ xs) =
    ap (λ ys. reverse (map node_of ys)) (reverse_cons x xs) ∙ ap reverse (map-append node_of (reverse xs) (x ∷ []))
    ∙ append_one (map node_of (reverse xs)) (node_of x) ∙ ap (λ ys. node_of x ∷ ys) (turned_back xs)

-- what precedes the last context, turned round
pub preceding_left : (nest : Forest) (first : ℕ) → is_nest nest ≡ true → (cs : List Entry) → AreContexts cs (all nest first) →
    (test : Test) (i : ℕ) (a : At cs i) →
    i + 1 ≡ length cs →
    reverse (map node_of (passing axes.Preceding test a.entry (all nest first))) ≡ step_nodes axes.Preceding test cs (all nest first)
preceding_left nest first n cs k test i a h =
    let es = all nest first in
    let e = a.entry in
    let P = λ (y : Entry). passes test false y in
    let Q = λ (y : Entry). by_indexes axes.Preceding e y in
    let greatest : greatest_index cs ≡ e.index = greatest_of_last cs k.rise i a h in
    ap (λ xs. reverse (map node_of (filter P xs))) (axis_list_of_node nest first n axes.Preceding e (k.among e a.there))
    ∙ ap (λ xs. reverse (map node_of xs)) (filter_reverse P (filter Q es))
    ∙ turned_back (filter P (filter Q es))
    ∙ sym (ap (λ xs. map node_of (filter P xs)) (union_by_indexes nest first n axes.Preceding cs k.among
    ∙ preceding_of_contexts (length (records nest first)) es cs (in_order nest first n) ∙ ap (λ m. filter (is_child_up_to m) es) greatest))

pub none_precede : (nest : Forest) (first : ℕ) → is_nest nest ≡ true → (cs : List Entry) → AreContexts cs (all nest first) → (test : Test) → length cs ≡ 0 →
    step_nodes axes.Preceding test cs (all nest first) ≡ []
none_precede nest first n [] k test h = ap (λ xs. map node_of (filter (passes test false) xs))
    (union_by_indexes nest first n axes.Preceding [] k.among ∙ none_of (λ y. false) (all nest first) (λ y d t. false≢true t))
none_precede nest first n (c ∷ cs) k test h = absurd (omega (arith, h))

-- Names, asked of elements.

pub union_among : (cs es : List Entry) → AreAmong (union_list axes.Preceding cs es) es
unfolding union_list
union_among cs es = filtered_among _ es

pub kept_among : (P : Entry → Bool) (xs es : List Entry) → AreAmong xs es → AreAmong (filter P xs) es
kept_among P xs es a c k = a c (filtered_among P xs c k)

-- what passes a name test is an element
pub elements_first : (x : NameTest) (xs : List Entry) →
    filter (passes (Test.name x) false) (filter (passes (Test.name NameTest.any) false) xs) ≡ filter (passes (Test.name x) false) xs
unfolding passes
elements_first x xs = filter_filter (passes (Test.name x) false) (passes (Test.name NameTest.any) false) xs
    ∙ filter_same _ _ xs (λ y d. same_test _ _
    (λ t. (and_parts (is_principal false y.what && name_passes NameTest.any (expanded y)) (is_principal false y.what && name_passes x (expanded y)) t).1)
    (λ t. let p = and_parts (is_principal false y.what) (name_passes x (expanded y)) t in
    and_from _ _ (and_from _ _ p.0 (named (expanded y) p.1)) t))
  where
    named : (e : Option Expanded) → name_passes x e ≡ true → name_passes NameTest.any e ≡ true
    named None t = absurd (false≢true t)
    named (Some e) t = refl

-- the same of a name test, whatever its name
pub named_of_elements : (t : Tested) (x : Name) → t ≡ tested.Name x → (xs : List Entry) →
    map node_of (filter (passes (node_test t) false) (filter (passes (Test.name NameTest.any) false) xs)) ≡ map node_of (filter (passes (node_test t) false) xs)
named_of_elements t x h xs =
    ap (λ u. map node_of (filter (passes (node_test u) false) (filter (passes (Test.name NameTest.any) false) xs))) h
    ∙ ap (map node_of) (elements_first _ xs)
    ∙ sym (ap (λ u. map node_of (filter (passes (node_test u) false) xs)) h)
