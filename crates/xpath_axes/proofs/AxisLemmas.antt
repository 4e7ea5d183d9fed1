-- The walks over axes: which nodes they reach.
use Rattle.std.proofs.Common.{◌≡◌, ℕ, zero, suc, ◌+◌, ◌-◌, ◌<◌, ◌≤◌, Bool, true, false, cond, ◌&&◌, ◌||◌, ◌==◌, List, [], ◌∷◌, ◌++◌}
use Rattle.std.proofs.Common.{length, length-append, drop, refl, ap, ap₂, sym, ◌∙◌, subst, arith, filter, nat_lt, nat_le, inl, inr, Some, None}
use Rattle.std.specs.List.{Contains}
use Rattle.std.proofs.lemmas.Bool.{false≢true, and_parts, and_from, and_right, cases_lt, ltb-true, leb-true, eqb-true, eq-eqb, lt-ltb, le-leb, lt-leb}
use Rattle.std.proofs.lemmas.List.{drop_more, drop_all}
use Rattle.xml_model.specs.declared.Kind.TheVariants as kinds
use Rattle.xml_model.specs.declared.Axis.{Axis}
use Rattle.xml_model.specs.declared.Axis.TheVariants as axes
use Rattle.xml_model.specs.Names.{passes}
use Rattle.xml_model.specs.Nest.{Forest, is_nest}
use Rattle.xml_model.specs.Records.{Record, document, records}
use Rattle.xml_model.specs.Scan.{level_of, record_at, is_attribute_part}
use Rattle.xml_model.specs.Tree.{Entry, kind_of, all, is_reverse, on_axis, reverse_if}
use Rattle.xml_model.specs.Laws.{by_indexes, is_child_thing, is_attribute_thing, is_under, is_one_under, nodes_above, same_parent}
use Rattle.xml_model.specs.Laws.{records_of, HasRecords}
use Rattle.xml_model.proofs.AttributeRuns.{attribute_held, attribute_part, attributes_pass}
use Rattle.xml_model.proofs.Filters.{same_test, filter_same, none_of}
use Rattle.xml_model.proofs.Inside.{Holds, above_held, above_root, element_holds, held_by, keeps, later_after, nested, one_under_out}
use Rattle.xml_model.proofs.Inside.{one_under_back, root_first, root_holds, under_kind}
use Rattle.xml_model.proofs.NodeLaws.{axis_of_two, axis_list_of_node, records_of_node, siblings_of_child}
use Rattle.xml_model.proofs.Things.{attribute_no_root, child_no_root, kind_root, root_kind}
use Rattle.xml_model.proofs.TreeOrder.{InOrder, in_order, under_is, under_within}
use Rattle.xpath_axes.specs.declared.walk.Walk.{Walk}
use Rattle.xpath_axes.specs.Tests.{is_attribute_axis}
use Rattle.xpath_axes.specs.Walks.{Covers, goes_on, is_attribute_record, stop_from, wants}
use Rattle.xpath_axes.proofs.WalkLemmas.{stop_later, left_ended}

-- Filters.

pub filter_filter : (P Q : Entry → Bool) (es : List Entry) → filter P (filter Q es) ≡ filter (λ e. Q e && P e) es
filter_filter P Q [] = refl
filter_filter P Q (e ∷ es) = by (Q e) (filter_filter P Q es)
  where
    by : (b : Bool) → filter P (filter Q es) ≡ filter (λ e. Q e && P e) es →
        filter P (cond b (e ∷ filter Q es) (filter Q es)) ≡ cond (b && P e) (e ∷ filter (λ e. Q e && P e) es) (filter (λ e. Q e && P e) es)
    by true h = ap (λ xs. cond (P e) (e ∷ xs) xs) h
    by false h = h

and_on : (a b c d : Bool) → (a && (b && (c && d))) ≡ ((a && (b && c)) && d)
and_on true true c d = refl
and_on true false c d = refl
and_on false b c d = refl

-- what a walk reaches and wants
abbrev pub reaches : Walk → List Record → Entry → Bool
reaches w rs y =
    nat_le w.at y.index && (nat_lt y.index (stop_from (goes_on w.attributes w.floor) w.at (drop w.at rs)) && wants w y.what (length y.holders))

-- Stops.

stop_by : (pass : Record → Bool) (rs : List Record) (d n m : ℕ) → n + d ≡ m → m ≤ length rs →
    ((k : ℕ) → n ≤ k → k < m → pass (record_at k rs) ≡ true) → (m < length rs → pass (record_at m rs) ≡ false) →
    stop_from pass n (drop n rs) ≡ m
stop_by pass rs zero n m e l p f = elim (cases_lt n (length rs)) [
  | inl less ↦
      let same : n ≡ m = omega (arith, e) in
      ap (stop_from pass n) (drop_more rs n document less) ∙ ap (λ b. cond b (stop_from pass (suc n) (drop (n + 1) rs)) n)
      (ap (λ k. pass (record_at k rs)) same ∙ f (omega (arith, same, less))) ∙ same
  | inr more ↦ ap (stop_from pass n) (drop_all n rs more) ∙ omega (arith, e)
]
stop_by pass rs (suc d) n m e l p f =
    let less : n < m = omega (arith, e) in
    ap (stop_from pass n) (drop_more rs n document (omega (arith, less, l)))
    ∙ ap (λ b. cond b (stop_from pass (suc n) (drop (n + 1) rs)) n) (p n (omega arith) less)
    ∙ ap (λ k. stop_from pass (suc n) (drop k rs)) (let z : n + 1 ≡ suc n = omega arith in z)
    ∙ stop_by pass rs d (suc n) m (omega (arith, e)) l (λ k a b. p k (omega (arith, a)) b) f

pub stop_is : (pass : Record → Bool) (rs : List Record) (n m : ℕ) → n ≤ m → m ≤ length rs →
    ((k : ℕ) → n ≤ k → k < m → pass (record_at k rs) ≡ true) → (m < length rs → pass (record_at m rs) ≡ false) →
    stop_from pass n (drop n rs) ≡ m
stop_is pass rs n m h l p f = stop_by pass rs (m - n) n m (omega (arith, h)) l p f

stop_low_by : (pass : Record → Bool) (rs : List Record) (d n m : ℕ) → n + d ≡ m → m ≤ length rs →
    (m < length rs → pass (record_at m rs) ≡ false) → stop_from pass n (drop n rs) ≤ m
stop_low_by pass rs zero n m e l f = omega (arith, stop_by pass rs zero n m e l (λ k a b. absurd (omega (arith, a, b, e))) f)
stop_low_by pass rs (suc d) n m e l f =
    by (pass (record_at n rs)) (ap (stop_from pass n) (drop_more rs n document (omega (arith, e, l)))) (stop_low_by pass rs d (suc n) m (omega (arith, e)) l f)
  where
    by : (b : Bool) → stop_from pass n (drop n rs) ≡ cond b (stop_from pass (suc n) (drop (n + 1) rs)) n →
        stop_from pass (suc n) (drop (suc n) rs) ≤ m → stop_from pass n (drop n rs) ≤ m
    by true h i = omega (arith, h, i, ap (λ k. stop_from pass (suc n) (drop k rs)) (let z : n + 1 ≡ suc n = omega arith in z))
    by false h i = omega (arith, h, e)

stop_past_by : (pass : Record → Bool) (rs : List Record) (d n m : ℕ) → n + d ≡ m → m < length rs →
    ((k : ℕ) → n ≤ k → k ≤ m → pass (record_at k rs) ≡ true) → m < stop_from pass n (drop n rs)
stop_past_by pass rs zero n m e l p =
    let go : stop_from pass n (drop n rs) ≡ stop_from pass (suc n) (drop (n + 1) rs) =
    ap (stop_from pass n) (drop_more rs n document (omega (arith, e, l)))
    ∙ ap (λ b. cond b (stop_from pass (suc n) (drop (n + 1) rs)) n) (p n (omega arith) (omega (arith, e))) in
    omega (arith, go, stop_later pass (suc n) (drop (n + 1) rs), e)
stop_past_by pass rs (suc d) n m e l p =
    let go : stop_from pass n (drop n rs) ≡ stop_from pass (suc n) (drop (suc n) rs) =
    ap (stop_from pass n) (drop_more rs n document (omega (arith, e, l)))
    ∙ ap (λ b. cond b (stop_from pass (suc n) (drop (n + 1) rs)) n) (p n (omega arith) (omega (arith, e)))
    ∙ ap (λ k. stop_from pass (suc n) (drop k rs)) (let z : n + 1 ≡ suc n = omega arith in z) in
    omega (arith, go, stop_past_by pass rs d (suc n) m (omega (arith, e)) l (λ k a b. p k (omega (arith, a)) b))

part_goes : (l : ℕ) (r : Record) → is_attribute_part l r ≡ true → goes_on true l r ≡ true
part_goes l r h =
    let p = and_parts (r.token == 2 || r.token == 3 || r.token == 4) (level_of r == l) h in
    and_from _ _ p.0 (le-leb l (level_of r) (omega (arith, eqb-true (level_of r) l p.1)))

-- Walks.

-- the records of a node are among all
pub past_within : (nest : Forest) (first : ℕ) → is_nest nest ≡ true → (z : Entry) → Contains (all nest first) z → z.past ≤ length (records nest first)
past_within nest first n z c =
    let h : HasRecords (records nest first) z = records_of_node nest first n z c in
    let mine = records_of z.what (length z.holders) z.start in
    omega (arith, ap length h.split ∙ length-append (h.prefix ++ mine) h.rest ∙ ap (λ k. k + length h.rest) (length-append h.prefix mine), h.begins, h.stops)

module _ (nest : Forest) (first : ℕ) (n : is_nest nest ≡ true) (z : Entry) (c : Contains (all nest first) z) where
  order : InOrder (length (records nest first)) (all nest first)
  order = in_order nest first n

  -- a walk that reaches just what is on an axis covers it
  pub covers : (axis : Axis) (w : Walk) → is_reverse axis ≡ false → w.attributes ≡ is_attribute_axis axis →
      ((y : Entry) → Contains (all nest first) y → reaches w (records nest first) y ≡ by_indexes axis z y) →
      Covers axis w (records nest first) (all nest first) z
  covers axis w r a h test =
      filter_same _ (λ y. by_indexes axis z y && passes test (is_attribute_axis axis) y) (all nest first)
      (λ y d. and_on (nat_le w.at y.index) (nat_lt y.index (stop_from (goes_on w.attributes w.floor) w.at (drop w.at (records nest first))))
      (wants w y.what (length y.holders)) (passes test w.attributes y) ∙ ap₂ (λ b t. b && passes test t y) (h y d) a)
      ∙ sym (filter_filter (passes test (is_attribute_axis axis)) (by_indexes axis z) (all nest first))
      ∙ sym (ap (filter (passes test (is_attribute_axis axis)))
      (axis_list_of_node nest first n axis z c ∙ ap (λ b. reverse_if b (filter (by_indexes axis z) (all nest first))) r))

  pub stop_holds : (level at : ℕ) → Holds (records nest first) z level → at ≡ suc z.index →
      stop_from (goes_on false level) at (drop at (records nest first)) ≡ z.past
  stop_holds level at h e =
      stop_is (goes_on false level) (records nest first) at z.past (omega (arith, e, h.some)) (past_within nest first n z c)
      (λ k a b. le-leb level _ (h.inside k (omega (arith, e, a)) b)) (λ b. lt-leb level _ (h.after b))

  pub descendants : (level at : ℕ) → Holds (records nest first) z level → at ≡ suc z.index →
      Covers axes.Descendant (record { at = at; floor = level; level = None; attributes = false }) (records nest first) (all nest first) z
  descendants level at h e =
      let stop = stop_holds level at h e in
      covers axes.Descendant (record { at = at; floor = level; level = None; attributes = false }) refl refl (λ y d. same_test _ _
      (λ t. let p = and_parts (nat_le at y.index) _ t in
      let q = and_parts (nat_lt y.index (stop_from (goes_on false level) at (drop at (records nest first)))) (is_child_thing y.what) p.1 in
      and_from _ _ (under_is z y (omega (arith, e, leb-true at y.index p.0)) (omega (arith, stop, ltb-true y.index _ q.0))) q.1)
      (λ t. let p = and_parts (is_under z y) (is_child_thing y.what) t in
      let u = under_within z y p.0 in
      and_from _ _ (le-leb at y.index (omega (arith, e, u.0))) (and_from _ _ (lt-ltb y.index _ (omega (arith, stop, u.1))) p.1)))

  pub children : (level at : ℕ) → Holds (records nest first) z level → at ≡ suc z.index →
      Covers axes.Child (record { at = at; floor = level; level = Some level; attributes = false }) (records nest first) (all nest first) z
  children level at h e =
      let stop = stop_holds level at h e in
      covers axes.Child (record { at = at; floor = level; level = Some level; attributes = false }) refl refl (λ y d. same_test _ _
      (λ t. let p = and_parts (nat_le at y.index) _ t in
      let q = and_parts (nat_lt y.index (stop_from (goes_on false level) at (drop at (records nest first)))) _ p.1 in
      let r = and_parts (length y.holders == level) (is_child_thing y.what) q.1 in
      and_from _ _ (one_under_back z y level h.above (child_no_root y.what r.1) (record {
        after = omega (arith, e, leb-true at y.index p.0);
        before = omega (arith, stop, ltb-true y.index _ q.0);
        held = eqb-true (length y.holders) level r.0;
      })) r.1)
      (λ t. let p = and_parts (is_one_under z y) (is_child_thing y.what) t in
      let o = one_under_out z y level h.above (child_no_root y.what p.1) p.0 in
      and_from _ _ (le-leb at y.index (omega (arith, e, o.after)))
      (and_from _ _ (lt-ltb y.index _ (omega (arith, stop, o.before))) (and_from _ _ (eq-eqb (length y.holders) level o.held) p.1))))

  pub following : (at : ℕ) → at ≡ z.past →
      Covers axes.Following (record { at = at; floor = 0; level = None; attributes = false }) (records nest first) (all nest first) z
  following at e =
      let stop = stop_is (goes_on false 0) (records nest first) at (length (records nest first)) (omega (arith, e, past_within nest first n z c)) (omega arith)
      (λ k a b. le-leb 0 _ (omega arith)) (λ b. absurd (omega (arith, b))) in
      covers axes.Following (record { at = at; floor = 0; level = None; attributes = false }) refl refl (λ y d. same_test _ _
      (λ t. let p = and_parts (nat_le at y.index) _ t in
      let q = and_parts (nat_lt y.index (stop_from (goes_on false 0) at (drop at (records nest first)))) (is_child_thing y.what) p.1 in
      and_from _ _ (le-leb z.past y.index (omega (arith, e, leb-true at y.index p.0))) q.1)
      (λ t. let p = and_parts (nat_le z.past y.index) (is_child_thing y.what) t in
      and_from _ _ (le-leb at y.index (omega (arith, e, leb-true z.past y.index p.0)))
      (and_from _ _ (lt-ltb y.index _ (omega (arith, stop, order.within y d))) p.1)))

  pub attributes : (level at : ℕ) → kind_of z.what ≡ kinds.Element → Holds (records nest first) z level → level ≡ suc (length z.holders) → at ≡ suc z.index →
      Covers axes.Attribute (record { at = at; floor = level; level = Some level; attributes = true }) (records nest first) (all nest first) z
  attributes level at kind h l e =
      let rs = records nest first in
      let go = goes_on true level in
      let low : stop_from go at (drop at rs) ≤ z.past = stop_low_by go rs (z.past - at) at z.past (omega (arith, e, h.some)) (past_within nest first n z c)
      (λ b. and_right (is_attribute_record (record_at z.past rs)) _ (lt-leb level _ (h.after b))) in
      covers axes.Attribute (record { at = at; floor = level; level = Some level; attributes = true }) refl refl (λ y d. same_test _ _
      (λ t. let p = and_parts (nat_le at y.index) _ t in
      let q = and_parts (nat_lt y.index (stop_from go at (drop at rs))) _ p.1 in
      let r = and_parts (length y.holders == level) (is_attribute_thing y.what) q.1 in
      and_from _ _ (one_under_back z y level h.above (attribute_no_root y.what r.1) (record {
        after = omega (arith, e, leb-true at y.index p.0);
        before = omega (arith, low, ltb-true y.index _ q.0);
        held = eqb-true (length y.holders) level r.0;
      })) r.1)
      (λ t. let p = and_parts (is_one_under z y) (is_attribute_thing y.what) t in
      let o = one_under_out z y level h.above (attribute_no_root y.what p.1) p.0 in
      let pass = attributes_pass nest first n z c kind y d p.1 (omega (arith, o.held, l)) o.after o.before in
      let reach : y.index < stop_from go at (drop at rs) = stop_past_by go rs (y.index - at) at y.index (omega (arith, e, o.after)) (order.within y d)
      (λ k a b. elim (cases_lt k y.index) [
        | inl less ↦ part_goes level (record_at k rs) (subst (λ m. is_attribute_part m (record_at k rs) ≡ true) (sym l) (pass k (omega (arith, e, a)) less))
        | inr same ↦
            let is : k ≡ y.index = omega (arith, b, same) in
            subst (λ m. go (record_at m rs) ≡ true) (sym is) (part_goes level (record_at y.index rs)
            (subst (λ m. is_attribute_part m (record_at y.index rs) ≡ true) o.held (attribute_part nest first n y d p.1)))
      ]) in
      and_from _ _ (le-leb at y.index (omega (arith, e, o.after)))
      (and_from _ _ (lt-ltb y.index _ reach) (and_from _ _ (eq-eqb (length y.holders) level o.held) p.1))))

  -- Nothing is in what is neither the root nor an element.

  module _ (w : Walk) (l : length (records nest first) ≤ w.at) where
    -- a walk at the end covers an axis on which no node is
    pub covers_none : (axis : Axis) → is_reverse axis ≡ false → ((y : Entry) → Contains (all nest first) y → by_indexes axis z y ≡ true → ⊥) →
        Covers axis w (records nest first) (all nest first) z
    covers_none axis r h test =
        left_ended w test _ _ w.at order.within l
        ∙ sym (ap (filter (passes test (is_attribute_axis axis)))
        (axis_list_of_node nest first n axis z c ∙ ap (λ b. reverse_if b (filter (by_indexes axis z) (all nest first))) r
        ∙ none_of (by_indexes axis z) (all nest first) h))

    module _ (not_root : kind_of z.what ≡ kinds.Root → ⊥) (no_element : kind_of z.what ≡ kinds.Element → ⊥) where
      nothing_under : (y : Entry) → Contains (all nest first) y → is_under z y ≡ true → ⊥
      nothing_under y d h = elim (under_kind nest first n z y c d h) [
        | inl root ↦ not_root (root_kind z.what root)
        | inr tag ↦ no_element tag
      ]

      pub no_descendants : Covers axes.Descendant w (records nest first) (all nest first) z
      no_descendants = covers_none axes.Descendant refl (λ y d h. nothing_under y d (and_parts (is_under z y) (is_child_thing y.what) h).0)

      pub no_children : Covers axes.Child w (records nest first) (all nest first) z
      no_children = covers_none axes.Child refl
          (λ y d h. nothing_under y d (and_parts (is_under z y) _ (and_parts (is_one_under z y) (is_child_thing y.what) h).0).0)

    pub no_attributes : (kind_of z.what ≡ kinds.Element → ⊥) → Covers axes.Attribute w (records nest first) (all nest first) z
    no_attributes no_element = covers_none axes.Attribute refl (λ y d h.
        let p = and_parts (is_one_under z y) (is_attribute_thing y.what) h in
        let u = and_parts (is_under z y) (nodes_above y == suc (nodes_above z)) p.0 in
        elim (under_kind nest first n z y c d u.0) [
          | inl root ↦
              let above = above_held y (attribute_no_root y.what p.1) in
              omega (arith, attribute_held nest first n y d p.1, above_root z root, above, eqb-true (nodes_above y) (suc (nodes_above z)) u.1)
          | inr tag ↦ no_element tag
        ])

    pub no_following_siblings : is_child_thing z.what ≡ false → Covers axes.FollowingSibling w (records nest first) (all nest first) z
    no_following_siblings f = covers_none axes.FollowingSibling refl (λ y d h.
        false≢true (sym f ∙ (and_parts (is_child_thing z.what) _ (and_parts (is_child_thing z.what && is_child_thing y.what) _
        (and_parts (same_parent z y) (nat_lt z.index y.index) h).0).0).0))

  -- Siblings.

  pub following_siblings : is_child_thing z.what ≡ true → (level at : ℕ) → level ≡ length z.holders → at ≡ z.past →
      Covers axes.FollowingSibling (record { at = at; floor = level; level = Some level; attributes = false }) (records nest first) (all nest first) z
  following_siblings child level at l e =
      let rs = records nest first in
      let no_root = child_no_root z.what child in
      let q = held_by nest first n z c no_root in
      let p = q.0 in
      let o = and_parts (is_under p z) (nodes_above z == suc (nodes_above p)) q.1.above in
      let u = under_within p z o.0 in
      let above : nodes_above p ≡ level = omega (arith, l, above_held z no_root, eqb-true (nodes_above z) (suc (nodes_above p)) o.1) in
      let h : Holds rs p level = subst (λ m. Holds rs p m) above q.1.holds in
      let inner : z.past ≤ p.past = nested rs p z level h (keeps nest first n z c no_root) (omega (arith, l)) u.1 in
      let some : z.index < z.past = order.some z c in
      let stop : stop_from (goes_on false level) at (drop at rs) ≡ p.past =
      stop_is (goes_on false level) rs at p.past (omega (arith, e, inner)) (past_within nest first n p q.1.there)
      (λ k a b. le-leb level _ (h.inside k (omega (arith, e, a, u.0, some)) b)) (λ b. lt-leb level _ (h.after b)) in
      let upward : on_axis axes.Child p.path z.path ≡ true = axis_of_two nest first n axes.Child p z q.1.there c ∙ and_from _ _ q.1.above child in
      covers axes.FollowingSibling (record { at = at; floor = level; level = Some level; attributes = false }) refl refl (λ y d.
      let known : by_indexes axes.FollowingSibling z y ≡ (by_indexes axes.Child p y && nat_lt z.index y.index) =
      sym (axis_of_two nest first n axes.FollowingSibling z y c d) ∙ (siblings_of_child nest first n p z y q.1.there c d upward).following in
      same_test _ _
      (λ t. let a = and_parts (nat_le at y.index) _ t in
      let b = and_parts (nat_lt y.index (stop_from (goes_on false level) at (drop at rs))) _ a.1 in
      let r = and_parts (length y.holders == level) (is_child_thing y.what) b.1 in
      let from = leb-true at y.index a.0 in
      known ∙ and_from _ _ (and_from _ _ (one_under_back p y level above (child_no_root y.what r.1) (record {
        after = omega (arith, from, e, some, u.0);
        before = omega (arith, stop, ltb-true y.index _ b.0);
        held = eqb-true (length y.holders) level r.0;
      })) r.1) (lt-ltb z.index y.index (omega (arith, from, e, some))))
      (λ t. let a = and_parts (by_indexes axes.Child p y) (nat_lt z.index y.index) (sym known ∙ t) in
      let r = and_parts (is_one_under p y) (is_child_thing y.what) a.0 in
      let v = one_under_out p y level above (child_no_root y.what r.1) r.0 in
      let later = ltb-true z.index y.index a.1 in
      let as_many : nodes_above z ≡ nodes_above y = omega (arith, above_held y (child_no_root y.what r.1), v.held, above_held z no_root, l) in
      let after : z.past ≤ y.index = later_after nest first z y c d as_many later in
      and_from _ _ (le-leb at y.index (omega (arith, e, after)))
      (and_from _ _ (lt-ltb y.index _ (omega (arith, stop, v.before))) (and_from _ _ (eq-eqb (length y.holders) level v.held) r.1))))

pub at_root : (nest : Forest) (first : ℕ) → is_nest nest ≡ true → (z : Entry) → Contains (all nest first) z → kind_of z.what ≡ kinds.Root →
    Holds (records nest first) z 0 × (z.index ≡ 0)
at_root nest first n z c k = let r = kind_root z.what k in (root_holds nest first n z c r, root_first nest first n z c r)

pub at_element : (nest : Forest) (first : ℕ) → is_nest nest ≡ true → (z : Entry) → Contains (all nest first) z → kind_of z.what ≡ kinds.Element →
    (level : ℕ) → suc (length z.holders) ≡ level → Holds (records nest first) z level
at_element nest first n z c k level h = subst (λ m. Holds (records nest first) z m) h (element_holds nest first n z c k)
