-- Steps from a list of nodes, one context after another.
use Rattle.std.proofs.Common.{subst}
use Rattle.std.proofs.Common.{◌≡◌, ℕ, zero, suc, ◌+◌, ◌<◌, ◌≤◌, Bool, true, false, cond, ◌||◌, ◌==◌, List, [], ◌∷◌, ◌++◌, length, drop, map, refl, ap, ap₂, ◌^◌}
use Rattle.std.proofs.Common.{sym, ◌∙◌, arith, filter, nat_lt, ◌&&◌}
use Rattle.std.specs.List.{AllByRecursion as Each, Contains, flat_map, list_any, slice_index_or}
use Rattle.std.proofs.lemmas.Bool.{false≢true, and_from, and_parts, lt-ltb, le-ltb, eq-eqb, eqb-true}
use Rattle.std.proofs.lemmas.List.{map-append, drop_all}
use Rattle.xml_model.specs.declared.Axis.{Axis}
use Rattle.xml_model.specs.declared.Axis.TheVariants as axes
use Rattle.xml_model.specs.declared.Node.{Node}
use Rattle.xml_model.specs.Contexts.{outermost, AreContexts, Rises}
use Rattle.xml_model.specs.Laws.{by_indexes, is_one_under, is_under}
use Rattle.xml_model.specs.Names.{Test, passes}
use Rattle.xml_model.specs.Nest.{Forest, is_nest}
use Rattle.xml_model.specs.Records.{records}
use Rattle.xml_model.specs.Tree.{Entry, Identifies, all, is_reverse, kind_of}
use Rattle.xml_model.proofs.Contexts.{union_by_indexes, descendants_of_contexts, apart_joins, Apart}
use Rattle.xml_model.proofs.AttributeSteps.{attributes_of_contexts}
use Rattle.xml_model.proofs.Each.{contains_here, contains_next, each_at, each_more}
use Rattle.xml_model.proofs.Filters.{any_out, filter_same, none_of, one_here, same_test, split_or}
use Rattle.xml_model.proofs.Indexes.{all_rise}
use Rattle.xml_model.proofs.NodeLaws.{axis_list_of_node}
use Rattle.xml_model.proofs.TreeOrder.{in_order, under_within}
use Rattle.vtd_words.specs.Lists.{Lists}
use Rattle.vtd_words.specs.Table.{IsNodeOf, node_of}
use Rattle.vtd_words.proofs.Same.{node_holds}
use Rattle.xpath_axes.specs.declared.walk.Walk.{Walk}
use Rattle.xpath_axes.specs.Tests.{is_attribute_axis}
use Rattle.xpath_axes.specs.Walks.{nodes_left, Covers}
use Rattle.xpath_axes.proofs.ClimbLemmas.{filter_append}
use Rattle.xpath_steps.specs.Steps.{step_nodes, AreAmong, ApartFrom}

-- A context of a list.

-- the entry at an index, and those after it
pub record At (cs : List Entry) (i : ℕ) : Type 0 where
  pub entry : Entry
  pub split : drop i cs ≡ entry ∷ drop (i + 1) cs
  pub there : Contains cs entry
  pub node : (d : Node) → slice_index_or (map node_of cs) i d ≡ node_of entry

pub at_index : (cs : List Entry) (i : ℕ) → i < length cs → At cs i
at_index [] i h = absurd (omega (arith, h))
at_index (c ∷ cs) zero h = record { entry = c; split = refl; there = contains_here c cs; node = λ d. refl }
at_index (c ∷ cs) (suc i) h =
    let a = at_index cs i (omega (arith, h)) in
    record {
      entry = a.entry;
      split = a.split ∙ ap (λ n. a.entry ∷ drop n (c ∷ cs)) (let z : suc (i + 1) ≡ suc i + 1 = omega arith in z);
      there = contains_next c cs a.entry a.there;
      node = a.node;
    }

map_length : (cs : List Entry) → length (map node_of cs) ≡ length cs
map_length [] = refl
map_length (c ∷ cs) = ap suc (map_length cs)

pub as_many : (cs : List Entry) (nodes : List Node) → map node_of cs ≡ nodes → length nodes ≡ length cs
as_many cs nodes h = sym (ap length h) ∙ map_length cs

-- the node of a context
pub node_at : (cs : List Entry) (nodes : List Node) → map node_of cs ≡ nodes → (i : ℕ) (a : At cs i) (d : Node) → slice_index_or nodes i d ≡ node_of a.entry
node_at cs nodes h i a d = ap (λ ns. slice_index_or ns i d) (sym h) ∙ a.node d

-- an entry of a list is that of its node
pub entry_is : (es cs : List Entry) → AreAmong cs es → (nodes : List Node) → map node_of cs ≡ nodes → (i : ℕ) (a : At cs i) (d : Node) →
    Identifies (slice_index_or nodes i d).kind (slice_index_or nodes i d).at a.entry es
entry_is es cs k nodes h i a d =
    let here = node_at cs nodes h i a d in
    (k a.entry a.there, sym (ap (λ n. n.kind) here), sym (ap (λ n. n.at) here))

-- a context is the entry of its node
pub context_is : (es cs : List Entry) → AreContexts cs es → (nodes : List Node) → map node_of cs ≡ nodes → (i : ℕ) (a : At cs i) (d : Node) →
    Identifies (slice_index_or nodes i d).kind (slice_index_or nodes i d).at a.entry es
context_is es cs k nodes h i a d = entry_is es cs k.among nodes h i a d

-- What was gathered, and what is left.

pub all_gathered : (whole held left : List Node) → whole ≡ held ++ left → left ≡ [] → held ≡ whole
all_gathered whole held left e n = sym (e ∙ ap (λ xs. held ++ xs) n ∙ Rattle.std.proofs.Common.append-nil held)

pub gathered_on : (whole held held' found left left' : List Node) → whole ≡ held ++ left → left ≡ found ++ left' → held' ≡ held ++ found →
    whole ≡ held' ++ left'
gathered_on whole held held' found left left' e f g =
    e ∙ ap (λ xs. held ++ xs) f ∙ sym (Rattle.std.proofs.Common.append_assoc held found left') ∙ ap (λ xs. xs ++ left') (sym g)

-- One list after another.

-- the nodes of contexts on an axis that pass, one context after another
abbrev pub each_of : Axis → Test → List Entry → List Entry → List Node
each_of axis test es ds = map node_of (filter (passes test (is_attribute_axis axis)) (flat_map (λ c. filter (by_indexes axis c) es) ds))

-- those of one context
abbrev pub one_of : Axis → Test → List Entry → Entry → List Node
one_of axis test es c = map node_of (filter (passes test (is_attribute_axis axis)) (filter (by_indexes axis c) es))

each_on : (axis : Axis) (test : Test) (es : List Entry) (c : Entry) (ds : List Entry) →
    each_of axis test es (c ∷ ds) ≡ one_of axis test es c ++ each_of axis test es ds
each_on axis test es c ds =
    ap (map node_of) (filter_append (passes test (is_attribute_axis axis)) (filter (by_indexes axis c) es) (flat_map (λ c. filter (by_indexes axis c) es) ds))
    ∙ map-append node_of (filter (passes test (is_attribute_axis axis)) (filter (by_indexes axis c) es)) _

pub each_at_index : (axis : Axis) (test : Test) (es cs : List Entry) (i : ℕ) (a : At cs i) →
    each_of axis test es (drop i cs) ≡ one_of axis test es a.entry ++ each_of axis test es (drop (i + 1) cs)
each_at_index axis test es cs i a = ap (each_of axis test es) a.split ∙ each_on axis test es a.entry (drop (i + 1) cs)

pub each_ended : (axis : Axis) (test : Test) (es cs : List Entry) (i : ℕ) → length cs ≤ i → each_of axis test es (drop i cs) ≡ []
each_ended axis test es cs i h = ap (each_of axis test es) (drop_all i cs h)

-- what a walk that covers an axis of a node appends
pub appended : (nest : Forest) (first : ℕ) → is_nest nest ≡ true → (axis : Axis) → is_reverse axis ≡ false → (e : Entry) → Contains (all nest first) e →
    (w : Walk) →
    Covers axis w (records nest first) (all nest first) e → (test : Test) (old new : List Node) →
    new ≡ old ++ nodes_left w test (records nest first) (all nest first) → new ≡ old ++ one_of axis test (all nest first) e
appended nest first n axis r e c w k test old new h =
    h ∙ ap (λ xs. old ++ map node_of xs) (k test ∙ ap (filter (passes test (is_attribute_axis axis)))
    (axis_list_of_node nest first n axis e c ∙ ap (λ b. Rattle.xml_model.specs.Tree.reverse_if b (filter (by_indexes axis e) (all nest first))) r))

-- Attributes.

pub all_attributes : (nest : Forest) (first : ℕ) → is_nest nest ≡ true → (cs : List Entry) → AreContexts cs (all nest first) → (test : Test) →
    step_nodes axes.Attribute test cs (all nest first) ≡ each_of axes.Attribute test (all nest first) cs
all_attributes nest first n cs k test =
    ap (λ xs. map node_of (filter (passes test true) xs)) (union_by_indexes nest first n axes.Attribute cs k.among ∙ attributes_of_contexts nest first n cs k)

-- Descendants.

-- what is still to come of descendants, from an index on
abbrev pub below : Test → List Entry → ℕ → List Entry → List Node
below test es low ds = each_of axes.Descendant test es (outermost low ds)

pub skipped : (test : Test) (es cs : List Entry) (i low : ℕ) (a : At cs i) → a.entry.index < low →
    below test es low (drop i cs) ≡ below test es low (drop (i + 1) cs)
skipped test es cs i low a h =
    ap (below test es low) a.split
    ∙ ap (λ b. each_of axes.Descendant test es (cond b [] (a.entry ∷ []) ++ outermost (cond b low a.entry.past) (drop (i + 1) cs)))
    (lt-ltb a.entry.index low h)

pub gone_down : (test : Test) (es cs : List Entry) (i low : ℕ) (a : At cs i) → low ≤ a.entry.index →
    below test es low (drop i cs) ≡ one_of axes.Descendant test es a.entry ++ below test es a.entry.past (drop (i + 1) cs)
gone_down test es cs i low a h =
    ap (below test es low) a.split
    ∙ ap (λ b. each_of axes.Descendant test es (cond b [] (a.entry ∷ []) ++ outermost (cond b low a.entry.past) (drop (i + 1) cs)))
    (le-ltb a.entry.index low h)
    ∙ each_on axes.Descendant test es a.entry (outermost a.entry.past (drop (i + 1) cs))

pub none_below : (test : Test) (es cs : List Entry) (i low : ℕ) → length cs ≤ i → below test es low (drop i cs) ≡ []
none_below test es cs i low h = ap (below test es low) (drop_all i cs h)

pub all_below : (nest : Forest) (first : ℕ) → is_nest nest ≡ true → (cs : List Entry) → AreContexts cs (all nest first) → (test : Test) →
    step_nodes axes.Descendant test cs (all nest first) ≡ below test (all nest first) 0 cs
all_below nest first n cs k test =
    ap (λ xs. map node_of (filter (passes test false) xs))
    (union_by_indexes nest first n axes.Descendant cs k.among ∙ descendants_of_contexts _ _ cs (in_order nest first n) k)

-- Selves.

-- the contexts are the nodes with the index of one
selves : (es cs : List Entry) → Rises es → Rises cs → ((c : Entry) → Contains cs c → Contains es c) →
    filter (λ y. list_any (λ c. c.index == y.index) cs) es ≡ cs
selves es [] r q a = none_of (λ y. false) es (λ y d t. false≢true t)
selves es (c ∷ cs) r q a =
    split_or (λ y. c.index == y.index) (λ y. list_any (λ x. x.index == y.index) cs) (suc c.index) es r
    (λ y d t. omega (arith, eqb-true c.index y.index t))
    (λ y d t. let o = any_out (λ x. x.index == y.index) cs t in
    let later : c.index < o.entry.index = each_at (λ x. c.index < x.index) cs o.entry q.0 o.there in
    omega (arith, later, eqb-true o.entry.index y.index o.passes))
    ∙ ap₂ (λ xs ys. xs ++ ys) (filter_same _ (λ y. y.index == c.index && true) es (λ y d. same_test _ _
    (λ t. and_from _ _ (eq-eqb y.index c.index (sym (eqb-true c.index y.index t))) refl)
    (λ t. eq-eqb c.index y.index (sym (eqb-true y.index c.index (and_parts (y.index == c.index) true t).0))))
    ∙ one_here (λ y. true) c.index es r c (a c (contains_here c cs)) refl refl)
    (selves es cs r q.1 (λ x k. a x (contains_next c cs x k)))

pub all_selves : (nest : Forest) (first : ℕ) → is_nest nest ≡ true → (cs : List Entry) → AreContexts cs (all nest first) → (test : Test) →
    step_nodes axes.Itself test cs (all nest first) ≡ map node_of (filter (passes test false) cs)
all_selves nest first n cs k test = ap (λ xs. map node_of (filter (passes test false) xs))
    (union_by_indexes nest first n axes.Itself cs k.among ∙ selves (all nest first) cs (all_rise nest first) k.rise k.among)

pub self_at_index : (test : Test) (cs : List Entry) (i : ℕ) (a : At cs i) →
    map node_of (filter (passes test false) (drop i cs))
    ≡ map node_of (filter (passes test false) (a.entry ∷ [])) ++ map node_of (filter (passes test false) (drop (i + 1) cs))
self_at_index test cs i a = ap (λ ds. map node_of (filter (passes test false) ds)) a.split
    ∙ ap (map node_of) (filter_append (passes test false) (a.entry ∷ []) (drop (i + 1) cs))
    ∙ map-append node_of (filter (passes test false) (a.entry ∷ [])) (filter (passes test false) (drop (i + 1) cs))

pub self_ended : (test : Test) (cs : List Entry) (i : ℕ) → length cs ≤ i → map node_of (filter (passes test false) (drop i cs)) ≡ []
self_ended test cs i h = ap (λ ds. map node_of (filter (passes test false) ds)) (drop_all i cs h)

-- Children of contexts that are apart.

module _ (nest : Forest) (first : ℕ) (n : is_nest nest ≡ true) where
  apart_each : (low : ℕ) (cs : List Entry) → ((c : Entry) → Contains cs c → Contains (all nest first) c) → ApartFrom low cs → Each (λ d. low ≤ d.index) cs
  apart_each low [] a h = tt
  apart_each low (c ∷ cs) a h =
      let some : c.index < c.past = (in_order nest first n).some c (a c (contains_here c cs)) in (
        h.0,
        each_more (λ d. c.past ≤ d.index) (λ d. low ≤ d.index) (λ d q. omega (arith, q, some, h.0)) cs
            (apart_each c.past cs (λ x k. a x (contains_next c cs x k)) h.1),
      )

  apart_is : (low : ℕ) (cs : List Entry) → ((c : Entry) → Contains cs c → Contains (all nest first) c) → ApartFrom low cs → Apart cs
  apart_is low [] a h = tt
  apart_is low (c ∷ cs) a h = (
    apart_each c.past cs (λ x k. a x (contains_next c cs x k)) h.1,
    apart_is c.past cs (λ x k. a x (contains_next c cs x k)) h.1,
  )

  pub all_children : (cs : List Entry) → AreContexts cs (all nest first) → ApartFrom 0 cs → (test : Test) →
      step_nodes axes.Child test cs (all nest first) ≡ each_of axes.Child test (all nest first) cs
  all_children cs k h test =
      ap (λ xs. map node_of (filter (passes test false) xs))
      (union_by_indexes nest first n axes.Child cs k.among
      ∙ apart_joins (by_indexes axes.Child) (all nest first) cs (all_rise nest first) (apart_is 0 cs k.among h)
      (λ c y t. let u = under_within c y (and_parts (is_under c y) _ (and_parts (is_one_under c y) _ t).0).0 in (omega (arith, u.0), u.1)))

-- contexts from an index on that are apart from an end on
pub apart_on : (cs : List Entry) (i low past : ℕ) (a : At cs i) → past ≡ a.entry.past → low ≤ a.entry.index → ApartFrom past (drop (i + 1) cs) →
    ApartFrom low (drop i cs)
apart_on cs i low past a p l h =
    subst (ApartFrom low) (sym a.split) (l, subst (λ m. ApartFrom m (drop (i + 1) cs)) p h)

pub apart_off : (cs : List Entry) (i low past : ℕ) (a : At cs i) → past ≡ a.entry.past → ApartFrom low (drop i cs) → ApartFrom past (drop (i + 1) cs)
apart_off cs i low past a p h =
    let g : (low ≤ a.entry.index) × ApartFrom a.entry.past (drop (i + 1) cs) = subst (ApartFrom low) a.split h in
    subst (λ m. ApartFrom m (drop (i + 1) cs)) (sym p) g.1

pub apart_first : (cs : List Entry) (i low : ℕ) (a : At cs i) → ApartFrom low (drop i cs) → low ≤ a.entry.index
apart_first cs i low a h =
    let g : (low ≤ a.entry.index) × ApartFrom a.entry.past (drop (i + 1) cs) = subst (ApartFrom low) a.split h in
    g.0

pub apart_ended : (cs : List Entry) (i low : ℕ) → length cs ≤ i → ApartFrom low (drop i cs)
apart_ended cs i low h = subst (ApartFrom low) (sym (drop_all i cs h)) tt

-- nodes of one table with one index are one node
pub same_node : (bytes : List ℕ) (lists : Lists) → length bytes < 2 ^ 30 → (x y : Node) → IsNodeOf bytes lists x → IsNodeOf bytes lists y → x.at ≡ y.at → x ≡ y
same_node bytes lists few x y m n h =
    let o = node_holds bytes lists few y n m.nest m.shown in
    let same : m.entry ≡ o.0 = Rattle.xml_model.proofs.Indexes.one_node m.nest _ m.entry o.0 m.holds.0 o.1.0 (m.holds.2 ∙ h ∙ sym o.1.2) in
    let kind : x.kind ≡ y.kind = sym m.holds.1 ∙ ap (λ (e : Entry). kind_of e.what) same ∙ o.1.1 in
    ap₂ (λ k a. record { kind = k; at = a }) kind h
