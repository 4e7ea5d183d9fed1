-- Walks backward over what precedes a node.
use Rattle.std.proofs.Common.{◌≡◌, ℕ, zero, suc, ◌+◌, ◌<◌, ◌≤◌, ◌⊎◌, Bool, true, false, cond, ◌&&◌, ◌||◌, ◌==◌, List, [], ◌∷◌, ◌++◌, length}
use Rattle.std.proofs.Common.{map, reverse, refl, ap, ap₂, sym, ◌∙◌, subst, arith, filter, nat_lt, nat_le, min, inl, inr, Option, Some, None, option_map}
use Rattle.std.specs.Option.{option_to_list}
use Rattle.std.specs.List.{Contains}
use Rattle.std.proofs.lemmas.Bool.{false≢true, and_parts, and_from, or_cases, or_left, or_right, cases_lt, ltb-true, leb-true, eqb-true, eq-eqb}
use Rattle.std.proofs.lemmas.Bool.{lt-ltb, le-leb, lt-leb, and_right}
use Rattle.std.proofs.lemmas.List.{reverse-append, map-append}
use Rattle.xml_model.specs.declared.Kind.{Kind}
use Rattle.xml_model.specs.declared.Kind.TheVariants as kinds
use Rattle.xml_model.specs.declared.Node.{Node}
use Rattle.xml_model.specs.declared.Axis.TheVariants as axes
use Rattle.xml_model.specs.Items.{first_place}
use Rattle.xml_model.specs.Names.{Test, passes}
use Rattle.xml_model.specs.Nest.{Forest, is_nest}
use Rattle.xml_model.specs.Records.{Record, records}
use Rattle.xml_model.specs.Scan.{level_of, record_at}
use Rattle.xml_model.specs.Tree.{Entry, Identifies, all, kind_of, at_index, on_axis}
use Rattle.xml_model.specs.Laws.{by_indexes, is_child_kind, is_child_thing, is_under, is_one_under, nodes_above}
use Rattle.xml_model.proofs.Filters.{same_test, filter_same, none_of, one_here, split_or}
use Rattle.xml_model.proofs.Indexes.{all_rise, one_kind}
use Rattle.xml_model.proofs.Inside.{Holds, above_held, child_after, element_holds, held_by, later_after, levels_shown, one_under_out, one_under_back}
use Rattle.xml_model.proofs.Inside.{under_kind}
use Rattle.xml_model.proofs.NodeLaws.{axis_of_two, axis_list_of_node, siblings_of_child}
use Rattle.xml_model.proofs.Siblings.{and_yes}
use Rattle.xml_model.proofs.Things.{child_kind, child_no_root, root_kind}
use Rattle.xml_model.proofs.TreeOrder.{InOrder, in_order, under_is, under_within}
use Rattle.vtd_words.specs.declared.packing.Parts.{Parts}
use Rattle.vtd_words.specs.Lists.{Lists}
use Rattle.vtd_words.specs.Packed.{record_of}
use Rattle.vtd_words.specs.Table.{ForEachNest, IsNestOf, IsTable, node_of, nodes_of}
use Rattle.vtd_words.proofs.Nodes.{indexes_within}
use Rattle.vtd_words.proofs.Found.{none_at}
use Rattle.xpath_axes.specs.declared.back.Back.{Back}
use Rattle.xpath_axes.specs.Backs.{back_stop, ends_before, left_before, nodes_before, wants_back, IsBack, IsLow}
use Rattle.xpath_axes.specs.Tests.{may_pass, passing}
use Rattle.xpath_axes.specs.Walks.{level_is}
use Rattle.xpath_axes.proofs.AxisLemmas.{filter_filter}
use Rattle.xpath_axes.proofs.ClimbLemmas.{filter_reverse}
use Rattle.xpath_axes.proofs.WalkLemmas.{none_here, node_here, may_begin_node}

child_ends : (k : Kind) (level low : ℕ) (b : Bool) → (k ≡ kinds.Element → nat_le low level ≡ b) →
    ((k ≡ kinds.Root → ⊥) → (k ≡ kinds.Element → ⊥) → b ≡ true) → (b && is_child_kind k) ≡ ends_before k level low
child_ends kinds.Root level low b e o = and_right b false refl
child_ends kinds.Attribute level low b e o = and_right b false refl
child_ends kinds.Element level low b e o = ap (λ x. x && true) (sym (e refl)) ∙ and_yes (nat_le low level)
child_ends kinds.Text level low b e o = ap (λ x. x && true) (o (λ h. cc) (λ h. cc))
child_ends kinds.Comment level low b e o = ap (λ x. x && true) (o (λ h. cc) (λ h. cc))
child_ends kinds.Instruction level low b e o = ap (λ x. x && true) (o (λ h. cc) (λ h. cc))

-- Stops.

pub stop_down : (floor at next : ℕ) (rs : List Record) → at ≡ suc next → floor ≤ level_of (record_at next rs) → back_stop floor at rs ≡ back_stop floor next rs
stop_down floor at next rs e h = ap (λ m. back_stop floor m rs) e ∙ ap (λ b. cond b (back_stop floor next rs) (suc next)) (le-leb floor _ h)

pub stop_up : (floor at next : ℕ) (rs : List Record) → at ≡ suc next → level_of (record_at next rs) < floor → back_stop floor at rs ≡ at
stop_up floor at next rs e h = ap (λ m. back_stop floor m rs) e ∙ ap (λ b. cond b (back_stop floor next rs) (suc next)) (lt-leb floor _ h) ∙ sym e

stop_within : (floor n : ℕ) (rs : List Record) → back_stop floor n rs ≤ n
stop_within floor zero rs = omega arith
stop_within floor (suc n) rs = by (nat_le floor (level_of (record_at n rs))) (stop_within floor n rs)
  where
    by : (b : Bool) → back_stop floor n rs ≤ n → cond b (back_stop floor n rs) (suc n) ≤ suc n
    by true h = omega (arith, h)
    by false h = omega arith

-- where no record from one on is of a lower level, the walk goes down to it
stop_low : (floor m n : ℕ) (rs : List Record) → ((k : ℕ) → m ≤ k → k < n → floor ≤ level_of (record_at k rs)) → back_stop floor n rs ≤ m
stop_low floor m zero rs h = omega arith
stop_low floor m (suc n) rs h = elim (cases_lt n m) [
  | inl less ↦ omega (arith, stop_within floor (suc n) rs, less)
  | inr more ↦ omega (arith, stop_down floor (suc n) n rs refl (h n more (omega arith)), stop_low floor m n rs (λ k a b. h k a (omega (arith, b))))
]

-- a record of a lower level is passed by no walk
stop_high : (floor m n : ℕ) (rs : List Record) → m < n → level_of (record_at m rs) < floor → m < back_stop floor n rs
stop_high floor m zero rs l h = absurd (omega (arith, l))
stop_high floor m (suc n) rs l h = elim (cases_lt m n) [
  | inl less ↦ elim (cases_lt (level_of (record_at n rs)) floor) [
    | inl low ↦ omega (arith, stop_up floor (suc n) n rs refl low, l)
    | inr high ↦ omega (arith, stop_down floor (suc n) n rs refl high, stop_high floor m n rs less h)
  ]
  | inr more ↦
      let same : m ≡ n = omega (arith, l, more) in
      let low : level_of (record_at n rs) < floor = subst (λ k. level_of (record_at k rs) < floor) same h in
      omega (arith, stop_up floor (suc n) n rs refl low, l)
]

pub low_on : (rs : List Record) (at next to low level : ℕ) → at ≡ suc next → next ≤ to → IsLow rs at to low → level ≡ level_of (record_at next rs) →
    IsLow rs next to (min low level)
low_on rs at next to low level e b l h = by (cases_lt level low)
  where
    least : (k : ℕ) → next ≤ k → k ≤ to → (level ≤ level_of (record_at k rs)) ⊎ (low ≤ level_of (record_at k rs))
    least k a c = elim (cases_lt next k) [
      | inl later ↦ inr (l.least k (omega (arith, e, later)) c)
      | inr same ↦ let is : k ≡ next = omega (arith, a, same) in inl (omega (arith, h, ap (λ n. level_of (record_at n rs)) is))
    ]

    by : (level < low) ⊎ (low ≤ level) → IsLow rs next to (min low level)
    by (inl less) = record {
      least = λ k a c. elim (least k a c) [
        | inl u ↦ omega (arith, u)
        | inr u ↦ omega (arith, u)
      ];
      index = next;
      after = omega arith;
      within = b;
      is = omega (arith, less, h);
    }
    by (inr more) = record {
      least = λ k a c. elim (least k a c) [
        | inl u ↦ omega (arith, u)
        | inr u ↦ omega (arith, u)
      ];
      index = l.index;
      after = omega (arith, l.after, e);
      within = l.within;
      is = omega (arith, more, l.is);
    }

-- the same walk with one record less
pub back_less : (rs : List Record) (es : List Entry) (b : Back) (next level : ℕ) → IsBack rs es b → b.at ≡ suc next → level ≡ level_of (record_at next rs) →
    IsBack rs es (record b { at = next; low = min b.low level })
back_less rs es b next level h e l = record {
  entry = h.entry;
  there = h.there;
  began = h.began;
  passed = omega (arith, h.passed, e);
  low = low_on rs b.at next b.from b.low level e (omega (arith, h.passed, e)) h.low l;
}

abbrev pub is_sought : Back → Test → Entry → Bool
is_sought b test y = wants_back b y && passes test false y

module _ (nest : Forest) (first : ℕ) (n : is_nest nest ≡ true) where
  order : InOrder (length (records nest first)) (all nest first)
  order = in_order nest first n

  -- a node before another ends before it exactly where its kind, its level and the lowest level after it say so
  precedes : (x : Entry) → Contains (all nest first) x → (from : ℕ) → x.index ≡ from → (y : Entry) → Contains (all nest first) y → 1 ≤ y.index →
      y.index < from → (low : ℕ) → IsLow (records nest first) (suc y.index) from low →
      (nat_le y.past from && is_child_thing y.what) ≡ ends_before (kind_of y.what) (length y.holders) low
  precedes x c from is y d one before low l =
      ap (λ b. nat_le y.past from && b) (child_kind y.what)
      ∙ child_ends (kind_of y.what) (length y.holders) low (nat_le y.past from)
      (λ k. let h : Holds (records nest first) y (suc (length y.holders)) = element_holds nest first n y d k in
      same_test _ _
      (λ t. elim (cases_lt from y.past) [
        | inl within ↦ absurd (omega (
          arith,
          leb-true low (length y.holders) t,
          l.is,
          h.inside l.index (omega (arith, l.after)) (omega
              (arith, l.within, within)),
        ))
        | inr over ↦ le-leb y.past from over
      ])
      (λ t. let over = leb-true y.past from t in
      le-leb low (length y.holders)
      (omega (arith, l.least y.past (omega (arith, order.some y d)) over, h.after (omega (arith, over, is, order.within x c))))))
      (λ r e. elim (cases_lt from y.past) [
        | inl within ↦ absurd (elim (under_kind nest first n y x d c (under_is y x (omega (arith, before, is)) (omega (arith, within, is)))) [
          | inl root ↦ r (root_kind y.what root)
          | inr tag ↦ e tag
        ])
        | inr over ↦ le-leb y.past from over
      ])

  -- Steps.

  turned : (o : Option Node) (xs : List Entry) → option_to_list o ≡ map node_of xs → map node_of (reverse xs) ≡ option_to_list o
  turned o [] h = sym h
  turned o (e ∷ []) h = sym h
  turned None (e ∷ f ∷ xs) h = absurd cc
  turned (Some m) (e ∷ f ∷ xs) h = absurd cc

  module _ (b : Back) (test : Test) where
    reaches : ℕ → ℕ → Entry → Bool
    reaches at stop y = nat_lt y.index at && (nat_le stop y.index && is_sought b test y)

    pub back_on : (next low : ℕ) (o : Option Node) → b.at ≡ suc next → b.floor ≤ level_of (record_at next (records nest first)) →
        option_to_list o ≡ map node_of (filter (λ y. y.index == next && is_sought b test y) (all nest first)) →
        nodes_before b test (records nest first) (all nest first)
        ≡ option_to_list o ++ nodes_before (record b { at = next; low = low }) test (records nest first) (all nest first)
    back_on next low o e f h =
        let es = all nest first in
        let rs = records nest first in
        let stop = back_stop b.floor next rs in
        let same : back_stop b.floor b.at rs ≡ stop = stop_down b.floor b.at next rs e f in
        let Q = λ (y : Entry). is_sought b test y in
        ap (λ xs. map node_of (reverse xs))
        (filter_same _ (λ y. (nat_lt y.index next && (nat_le stop y.index && Q y)) || (y.index == next && Q y)) es (λ y d. same_test _ _
        (λ t. let p = and_parts (nat_lt y.index b.at) _ t in
        let q = and_parts (nat_le (back_stop b.floor b.at rs) y.index) (Q y) p.1 in
        elim (cases_lt y.index next) [
          | inl less ↦ or_left _ _ (and_from _ _ (lt-ltb y.index next less)
              (and_from _ _ (le-leb stop y.index (omega (arith, same, leb-true _ y.index q.0))) q.1))
          | inr more ↦ or_right (nat_lt y.index next && (nat_le stop y.index && Q y)) _
              (and_from _ _ (eq-eqb y.index next (omega (arith, more, e, ltb-true y.index b.at p.0))) q.1)
        ])
        (λ t. elim (or_cases (nat_lt y.index next && (nat_le stop y.index && Q y)) (y.index == next && Q y) t) [
          | inl u ↦
              let p = and_parts (nat_lt y.index next) _ u in
              let q = and_parts (nat_le stop y.index) (Q y) p.1 in
              and_from _ _ (lt-ltb y.index b.at (omega (arith, e, ltb-true y.index next p.0)))
              (and_from _ _ (le-leb _ y.index (omega (arith, same, leb-true stop y.index q.0))) q.1)
          | inr u ↦
              let p = and_parts (y.index == next) (Q y) u in
              let is : y.index ≡ next = eqb-true y.index next p.0 in
              and_from _ _ (lt-ltb y.index b.at (omega (arith, e, is)))
              (and_from _ _ (le-leb _ y.index (omega (arith, same, is, stop_within b.floor next rs))) p.1)
        ]))
        ∙ split_or (λ y. nat_lt y.index next && (nat_le stop y.index && Q y)) (λ y. y.index == next && Q y) next es (all_rise nest first)
        (λ y d t. ltb-true y.index next (and_parts (nat_lt y.index next) _ t).0)
        (λ y d t. omega (arith, eqb-true y.index next (and_parts (y.index == next) (Q y) t).0)))
        ∙ ap (map node_of) (reverse-append (filter (λ y. nat_lt y.index next && (nat_le stop y.index && Q y)) es) (filter (λ y. y.index == next && Q y) es))
        ∙ map-append node_of (reverse (filter (λ y. y.index == next && Q y) es)) _
        ∙ ap (λ xs. xs ++ nodes_before (record b { at = next; low = low }) test rs es) (turned o (filter (λ y. y.index == next && Q y) es) h)

    -- where the next record is of a lower level, nothing is left
    pub none_stopped : (next : ℕ) → b.at ≡ suc next → level_of (record_at next (records nest first)) < b.floor →
        nodes_before b test (records nest first) (all nest first) ≡ []
    none_stopped next e f = ap (λ xs. map node_of (reverse xs)) (none_of _ (all nest first) (λ y d t.
        let p = and_parts (nat_lt y.index b.at) _ t in
        let q = and_parts (nat_le (back_stop b.floor b.at (records nest first)) y.index) (is_sought b test y) p.1 in
        omega (arith, stop_up b.floor b.at next (records nest first) e f, ltb-true y.index b.at p.0, leb-true _ y.index q.0)))

    -- nothing that precedes a node begins at the root's record
    pub none_first : b.at ≤ 1 → nodes_before b test (records nest first) (all nest first) ≡ []
    none_first l = ap (λ xs. map node_of (reverse xs)) (none_of _ (all nest first) (λ y d t.
        let p = and_parts (nat_lt y.index b.at) _ t in
        let q = and_parts (nat_le (back_stop b.floor b.at (records nest first)) y.index) (is_sought b test y) p.1 in
        let r = and_parts (wants_back b y) (passes test false y) q.1 in
        let v = and_parts (nat_le y.past b.from) (level_is b.level (length y.holders) && is_child_thing y.what) r.0 in
        let w = and_parts (level_is b.level (length y.holders)) (is_child_thing y.what) v.1 in
        omega (arith, l, ltb-true y.index b.at p.0, child_after nest first n y d w.1)))

  -- Starts.

  reversed : (axis : Rattle.xml_model.specs.declared.Axis.Axis) (test : Test) (z : Entry) (P : Entry → Bool) →
      ((y : Entry) → Contains (all nest first) y → P y ≡ (by_indexes axis z y && passes test false y)) →
      reverse (filter P (all nest first)) ≡ filter (passes test false) (reverse (filter (by_indexes axis z) (all nest first)))
  reversed axis test z P h =
      ap reverse (filter_same P _ (all nest first) h ∙ sym (filter_filter (passes test false) (by_indexes axis z) (all nest first)))
      ∙ sym (filter_reverse (passes test false) (filter (by_indexes axis z) (all nest first)))

  module _ (z : Entry) (c : Contains (all nest first) z) (test : Test) (at : ℕ) (here : z.index ≡ at) (low : ℕ) where
    pub preceding : left_before (record { at = at; from = at; low = low; floor = 0; level = None }) test (records nest first) (all nest first)
        ≡ passing axes.Preceding test z (all nest first)
    preceding =
        let rs = records nest first in
        let zero_stop : back_stop 0 at rs ≤ 0 = stop_low 0 0 at rs (λ k a b. omega arith) in
        reversed axes.Preceding test z _ (λ y d. same_test _ _
        (λ t. let p = and_parts (nat_lt y.index at) _ t in
        let q = and_parts (nat_le (back_stop 0 at rs) y.index) _ p.1 in
        let r = and_parts (nat_le y.past at && is_child_thing y.what) (passes test false y) q.1 in
        let v = and_parts (nat_le y.past at) (is_child_thing y.what) r.0 in
        and_from _ _ (and_from _ _ (le-leb y.past z.index (omega (arith, here, leb-true y.past at v.0))) v.1) r.1)
        (λ t. let r = and_parts (nat_le y.past z.index && is_child_thing y.what) (passes test false y) t in
        let v = and_parts (nat_le y.past z.index) (is_child_thing y.what) r.0 in
        let over : y.past ≤ at = omega (arith, here, leb-true y.past z.index v.0) in
        and_from _ _ (lt-ltb y.index at (omega (arith, over, order.some y d)))
        (and_from _ _ (le-leb _ y.index (omega (arith, zero_stop))) (and_from _ _ (and_from _ _ (le-leb y.past at over) v.1) r.1))))
        ∙ sym (ap (filter (passes test false)) (axis_list_of_node nest first n axes.Preceding z c))

    pub preceding_siblings : is_child_thing z.what ≡ true → (level : ℕ) → level ≡ length z.holders →
        left_before (record { at = at; from = at; low = low; floor = level; level = Some level }) test (records nest first) (all nest first)
        ≡ passing axes.PrecedingSibling test z (all nest first)
    preceding_siblings child level l =
        let rs = records nest first in
        let no_root = child_no_root z.what child in
        let held = held_by nest first n z c no_root in
        let p = held.0 in
        let o = and_parts (is_under p z) (nodes_above z == suc (nodes_above p)) held.1.above in
        let u = under_within p z o.0 in
        let above : nodes_above p ≡ level = omega (arith, l, above_held z no_root, eqb-true (nodes_above z) (suc (nodes_above p)) o.1) in
        let h : Holds rs p level = subst (λ m. Holds rs p m) above held.1.holds in
        let upward : on_axis axes.Child p.path z.path ≡ true = axis_of_two nest first n axes.Child p z held.1.there c ∙ and_from _ _ held.1.above child in
        let reach : back_stop level at rs ≤ suc p.index = stop_low level (suc p.index) at rs (λ k a b. h.inside k (omega (arith, a)) (omega
        (arith, b, here, u.1))) in
        reversed axes.PrecedingSibling test z _ (λ y d.
        let known : by_indexes axes.PrecedingSibling z y ≡ (by_indexes axes.Child p y && nat_lt y.index z.index) =
        sym (axis_of_two nest first n axes.PrecedingSibling z y c d) ∙ (siblings_of_child nest first n p z y held.1.there c d upward).preceding in
        same_test _ _
        (λ t. let a = and_parts (nat_lt y.index at) _ t in
        let q = and_parts (nat_le (back_stop level at rs) y.index) _ a.1 in
        let r = and_parts (nat_le y.past at && (length y.holders == level && is_child_thing y.what)) (passes test false y) q.1 in
        let v = and_parts (nat_le y.past at) (length y.holders == level && is_child_thing y.what) r.0 in
        let w = and_parts (length y.holders == level) (is_child_thing y.what) v.1 in
        let before : y.index < z.index = omega (arith, here, ltb-true y.index at a.0) in
        let after : p.index < y.index = elim (cases_lt 0 p.index) [
          | inl later ↦ omega (arith, stop_high level p.index at rs (omega (arith, here, u.0)) (h.own later), leb-true _ y.index q.0)
          | inr none ↦ omega (arith, none, child_after nest first n y d w.1)
        ] in
        and_from _ _ (known ∙ and_from _ _ (and_from _ _ (one_under_back p y level above (child_no_root y.what w.1) (record {
          after = after;
          before = omega (arith, before, u.1);
          held = eqb-true (length y.holders) level w.0;
        })) w.1) (lt-ltb y.index z.index before)) r.1)
        (λ t. let a = and_parts (by_indexes axes.PrecedingSibling z y) (passes test false y) t in
        let b = and_parts (by_indexes axes.Child p y) (nat_lt y.index z.index) (sym known ∙ a.0) in
        let r = and_parts (is_one_under p y) (is_child_thing y.what) b.0 in
        let v = one_under_out p y level above (child_no_root y.what r.1) r.0 in
        let before = ltb-true y.index z.index b.1 in
        let as_many : nodes_above y ≡ nodes_above z = omega (arith, above_held y (child_no_root y.what r.1), v.held, above_held z no_root, l) in
        let over : y.past ≤ z.index = later_after nest first y z d c as_many before in
        and_from _ _ (lt-ltb y.index at (omega (arith, here, before)))
        (and_from _ _ (le-leb _ y.index (omega (arith, reach, v.after)))
        (and_from _ _ (and_from _ _ (le-leb y.past at (omega (arith, here, over))) (and_from _ _ (eq-eqb (length y.holders) level v.held) r.1)) a.1))))
        ∙ sym (ap (filter (passes test false)) (axis_list_of_node nest first n axes.PrecedingSibling z c))

-- where a walk backward begins
pub back_starts : (rs : List Record) (es : List Entry) (z : Entry) → Contains es z → (b : Back) → z.index ≡ b.from → b.at ≡ b.from →
    b.low ≡ level_of (record_at b.from rs) → IsBack rs es b
back_starts rs es z c b here same low = record {
  entry = z;
  there = c;
  began = here;
  passed = omega (arith, same);
  low = record {
    least = λ k a d. let is : k ≡ b.from = omega (arith, a, d, same) in omega (arith, low, ap (λ m. level_of (record_at m rs)) is);
    index = b.from;
    after = omega (arith, same);
    within = omega arith;
    is = low;
  };
}

-- One record.

module _ (bytes : List ℕ) (lists : Lists) (nest : Forest) (s : IsNestOf bytes lists nest) (b : Back) (test : Test) (at : ℕ) (parts : Parts)
    (r : record_of parts ≡ record_at at (records nest (first_place bytes))) where
  pub other_token : (t : Bool) → t ≡ may_pass test false parts.token → t ≡ false →
      ◌≡◌ {A = List Node} [] (map node_of (filter (λ y. y.index == at && is_sought b test y) (nodes_of bytes nest)))
  other_token t h f = none_here (is_sought b test) at (nodes_of bytes nest) (λ e c p q.
      false≢true (sym f ∙ h ∙ may_begin_node bytes lists nest s test false at parts r e c p (and_parts (wants_back b e) (passes test false e) q).1))

  held_is : (level : ℕ) → level ≡ level_of (record_of parts) → (e : Entry) → Contains (nodes_of bytes nest) e → e.index ≡ at → length e.holders ≡ level
  held_is level l e c p = sym (levels_shown nest (first_place bytes) s.accepted.document.nests e c)
      ∙ ap (λ m. level_of (record_at m (records nest (first_place bytes)))) p ∙ sym (l ∙ ap level_of r)

  pub other_level : (level : ℕ) (t : Bool) → level ≡ level_of (record_of parts) → t ≡ level_is b.level level → t ≡ false →
      ◌≡◌ {A = List Node} [] (map node_of (filter (λ y. y.index == at && is_sought b test y) (nodes_of bytes nest)))
  other_level level t l h f = none_here (is_sought b test) at (nodes_of bytes nest) (λ e c p q.
      let v = and_parts (wants_back b e) (passes test false e) q in
      let w = and_parts (nat_le e.past b.from) (level_is b.level (length e.holders) && is_child_thing e.what) v.0 in
      false≢true (sym f ∙ h ∙ ap (level_is b.level) (sym (held_is level l e c p))
      ∙ (and_parts (level_is b.level (length e.holders)) (is_child_thing e.what) w.1).0))

  pub no_node : None ≡ option_map node_of (at_index at (nodes_of bytes nest)) →
      ◌≡◌ {A = List Node} [] (map node_of (filter (λ y. y.index == at && is_sought b test y) (nodes_of bytes nest)))
  no_node h = none_here (is_sought b test) at (nodes_of bytes nest) (λ e c p q. none_at (λ x. true) (nodes_of bytes nest) at h e c refl p)

  module _ (level : ℕ) (l : level ≡ level_of (record_of parts)) (k : IsBack (records nest (first_place bytes)) (nodes_of bytes nest) b) (one : 1 ≤ at)
      (less : at + 1 ≡ b.at) (node : Node) (h : Some node ≡ option_map node_of (at_index at (nodes_of bytes nest))) where
    n : is_nest nest ≡ true
    n = s.accepted.document.nests

    kind_is : (y : Entry) → Contains (nodes_of bytes nest) y → y.index ≡ at → kind_of y.what ≡ node.kind
    kind_is y d p =
        let z = node_here bytes nest at node h in
        one_kind nest (first_place bytes) y z.entry d z.there (p ∙ sym z.index) ∙ sym (ap (λ m. m.kind) z.shown)

    decides : (y : Entry) → Contains (nodes_of bytes nest) y → y.index ≡ at →
        (nat_le y.past b.from && is_child_thing y.what) ≡ ends_before node.kind level b.low
    decides y d p =
        let start : b.at ≡ suc y.index = omega (arith, less, p) in
        let low : IsLow (records nest (first_place bytes)) (suc y.index) b.from b.low =
        subst (λ m. IsLow (records nest (first_place bytes)) m b.from b.low) start k.low in
        precedes nest (first_place bytes) n k.entry k.there b.from k.began y d (omega (arith, one, p)) (omega (arith, start, k.passed)) b.low low
        ∙ ap₂ (λ m q. ends_before m q b.low) (kind_is y d p) (held_is level l y d p)

    pub not_over : (t : Bool) → t ≡ ends_before node.kind level b.low → t ≡ false →
        ◌≡◌ {A = List Node} [] (map node_of (filter (λ y. y.index == at && is_sought b test y) (nodes_of bytes nest)))
    not_over t e f = none_here (is_sought b test) at (nodes_of bytes nest) (λ y d p q.
        let v = and_parts (wants_back b y) (passes test false y) q in
        let w = and_parts (nat_le y.past b.from) (level_is b.level (length y.holders) && is_child_thing y.what) v.0 in
        let x = and_parts (level_is b.level (length y.holders)) (is_child_thing y.what) w.1 in
        false≢true (sym f ∙ e ∙ sym (decides y d p) ∙ and_from _ _ w.0 x.1))

    pub not_passed : (t : Bool) → ((e : Entry) → Identifies node.kind node.at e (nodes_of bytes nest) → t ≡ passes test false e) → t ≡ false →
        ◌≡◌ {A = List Node} [] (map node_of (filter (λ y. y.index == at && is_sought b test y) (nodes_of bytes nest)))
    not_passed t e f = none_here (is_sought b test) at (nodes_of bytes nest) (λ y d p q.
        let z = node_here bytes nest at node h in
        let index : y.index ≡ node.at = p ∙ sym z.index ∙ sym (ap (λ m. m.at) z.shown) in
        false≢true (sym f ∙ e y (d, kind_is y d p, index) ∙ (and_parts (wants_back b y) (passes test false y) q).1))

    pub passed : (v t u : Bool) → v ≡ level_is b.level level → v ≡ true → t ≡ ends_before node.kind level b.low → t ≡ true →
        ((e : Entry) → Identifies node.kind node.at e (nodes_of bytes nest) → u ≡ passes test false e) → u ≡ true →
        node ∷ [] ≡ map node_of (filter (λ y. y.index == at && is_sought b test y) (nodes_of bytes nest))
    passed v t u a a' e f g q =
        let z = node_here bytes nest at node h in
        let y = z.entry in
        let kind : kind_of y.what ≡ node.kind = sym (ap (λ m. m.kind) z.shown) in
        let index : y.index ≡ node.at = sym (ap (λ m. m.at) z.shown) in
        let both = and_parts (nat_le y.past b.from) (is_child_thing y.what) (decides y z.there z.index ∙ sym e ∙ f) in
        let level_right : level_is b.level (length y.holders) ≡ true = ap (level_is b.level) (held_is level l y z.there z.index) ∙ sym a ∙ a' in
        let sought : is_sought b test y ≡ true =
        and_from _ _ (and_from _ _ both.0 (and_from _ _ level_right both.1)) (sym (g y (z.there, kind, index)) ∙ q) in
        ap (λ m. m ∷ []) z.shown
        ∙ sym (ap (map node_of) (one_here (is_sought b test) at (nodes_of bytes nest) (all_rise nest (first_place bytes)) y z.there z.index sought))

-- the records from a walk backward on are among those of the table
pub back_room : (bytes : List ℕ) (lists : Lists) (t : IsTable bytes lists) (b : Back) →
    ForEachNest bytes lists (λ nest. IsBack (records nest (first_place bytes)) (nodes_of bytes nest) b) → b.at < length lists.records
back_room bytes lists t b h =
    let k = h t.nest t.shown in
    omega (arith, indexes_within bytes lists t.few t.nest t.shown (length lists.records) (omega arith) k.entry k.there, k.began, k.passed)
