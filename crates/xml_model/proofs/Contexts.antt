-- The laws of axes over lists of context nodes.
use Rattle.std.proofs.Common.{◌≡◌, ℕ, zero, suc, ◌<◌, ◌≤◌, Bool, true, false, cond, not, ◌&&◌, ◌||◌, ◌==◌, List, [], ◌∷◌, ◌++◌}
use Rattle.std.proofs.Common.{refl, ap, sym, ◌∙◌, arith, filter, nat_lt, nat_le, inl, inr}
use Rattle.std.specs.List.{AllByRecursion as Each, Contains, list_any, flat_map}
use Rattle.std.proofs.lemmas.Bool.{false≢true, and_parts, or_cases, and_from, or_left, or_right, cases_lt, ltb-true, ltb-false, leb-true}
use Rattle.std.proofs.lemmas.Bool.{le-leb, eq-eqb, eqb-true}
use Rattle.xml_model.specs.declared.Axis.{Axis}
use Rattle.xml_model.specs.declared.Axis.TheVariants as axes
use Rattle.xml_model.specs.Nest.{Forest, is_nest}
use Rattle.xml_model.specs.Tree.{Entry, all}
use Rattle.xml_model.specs.Laws.{by_indexes, holder_index, is_child_thing, is_root_thing, is_under, IsNode}
use Rattle.xml_model.proofs.AllAxes.{child_first}
use Rattle.xml_model.proofs.Each.{each_at, each_more, contains_here, contains_next}
use Rattle.xml_model.proofs.NodeLaws.{axis_of_two, parent_of_node, holder_of_node}
use Rattle.xml_model.specs.Contexts.{union_list, AreContexts, Rises, least_past, greatest_index, outermost, new_ancestors}
use Rattle.xml_model.specs.Contexts.{new_ancestors_or_selves, is_child_from, is_child_of_any, is_child_up_to, is_parent_of_any}
use Rattle.xml_model.proofs.Filters.{same_test, filter_same, none_of, split_or, any_out, any_in, any_same}
use Rattle.xml_model.proofs.Siblings.{and_no, and_yes}
use Rattle.xml_model.proofs.TreeOrder.{InOrder, under_is, under_within}

-- whether a node is on an axis of one of the contexts, by indexes
abbrev pub any_by_indexes : Axis → List Entry → Entry → Bool
any_by_indexes axis cs y = list_any (λ c. by_indexes axis c y) cs

-- each context ends before the next begins
abbrev pub Apart : List Entry → Type 0
Apart [] = Unit {0}
Apart (c ∷ cs) = Each (λ d. c.past ≤ d.index) cs × Apart cs

pub union_by_indexes : (nest : Forest) (first : ℕ) → is_nest nest ≡ true → (axis : Axis) (cs : List Entry) →
    ((c : Entry) → Contains cs c → Contains (all nest first) c) →
    union_list axis cs (all nest first) ≡ filter (any_by_indexes axis cs) (all nest first)
unfolding union_list
union_by_indexes nest first n axis cs a = filter_same _ _ (all nest first) (λ y d. any_same _ _ cs (λ c k. axis_of_two nest first n axis c y (a c k) d))

-- Following: all from the least end on.

least_at_most : (bound : ℕ) (cs : List Entry) (c : Entry) → Contains cs c → least_past bound cs ≤ c.past
least_at_most bound [] c k = absurd (omega (arith, k.1))
least_at_most bound (x ∷ cs) c (zero, l, s) = omega (arith, ap (λ z. z.past) s)
least_at_most bound (x ∷ cs) c (suc n, l, s) = omega (arith, least_at_most bound cs c (n, omega (arith, l), s))

least_is : (bound p : ℕ) (cs : List Entry) → p < bound → least_past bound cs ≤ p → list_any (λ c. nat_le c.past p) cs ≡ true
least_is bound p [] b h = absurd (omega (arith, b, h))
least_is bound p (c ∷ cs) b h = elim (cases_lt p c.past) [
  | inl less ↦ or_right (nat_le c.past p) _ (least_is bound p cs b (omega (arith, h, less)))
  | inr more ↦ or_left (nat_le c.past p) _ (le-leb c.past p more)
]

pub following_of_contexts : (bound : ℕ) (es cs : List Entry) → InOrder bound es →
    filter (any_by_indexes axes.Following cs) es ≡ filter (is_child_from (least_past bound cs)) es
following_of_contexts bound es cs f = filter_same _ _ es (λ y d. same_test _ _
    (λ h. let o = any_out (λ c. by_indexes axes.Following c y) cs h in
    let p = and_parts (nat_le o.entry.past y.index) (is_child_thing y.what) o.passes in
    and_from _ _ (le-leb (least_past bound cs) y.index (omega (arith, leb-true o.entry.past y.index p.0, least_at_most bound cs o.entry o.there))) p.1)
    (λ h. let p = and_parts (nat_le (least_past bound cs) y.index) (is_child_thing y.what) h in
    let o = any_out (λ c. nat_le c.past y.index) cs (least_is bound y.index cs (f.within y d) (leb-true _ y.index p.0)) in
    any_in (λ c. by_indexes axes.Following c y) cs o.entry o.there (and_from _ _ o.passes p.1)))

-- Preceding: all that end before the last context.

at_most_greatest : (cs : List Entry) (c : Entry) → Contains cs c → c.index ≤ greatest_index cs
at_most_greatest [] c k = absurd (omega (arith, k.1))
at_most_greatest (x ∷ cs) c (zero, l, s) = omega (arith, ap (λ z. z.index) s)
at_most_greatest (x ∷ cs) c (suc n, l, s) = omega (arith, at_most_greatest cs c (n, omega (arith, l), s))

greatest_is : (p : ℕ) (cs : List Entry) → 0 < p → p ≤ greatest_index cs → list_any (λ c. nat_le p c.index) cs ≡ true
greatest_is p [] b h = absurd (omega (arith, b, h))
greatest_is p (c ∷ cs) b h = elim (cases_lt c.index p) [
  | inl less ↦ or_right (nat_le p c.index) _ (greatest_is p cs b (omega (arith, h, less)))
  | inr more ↦ or_left (nat_le p c.index) _ (le-leb p c.index more)
]

pub preceding_of_contexts : (bound : ℕ) (es cs : List Entry) → InOrder bound es →
    filter (any_by_indexes axes.Preceding cs) es ≡ filter (is_child_up_to (greatest_index cs)) es
preceding_of_contexts bound es cs f = filter_same _ _ es (λ y d. same_test _ _
    (λ h. let o = any_out (λ c. by_indexes axes.Preceding c y) cs h in
    let p = and_parts (nat_le y.past o.entry.index) (is_child_thing y.what) o.passes in
    and_from _ _ (le-leb y.past (greatest_index cs) (omega (arith, leb-true y.past o.entry.index p.0, at_most_greatest cs o.entry o.there))) p.1)
    (λ h. let p = and_parts (nat_le y.past (greatest_index cs)) (is_child_thing y.what) h in
    let o = any_out (λ c. nat_le y.past c.index) cs (greatest_is y.past cs (omega (arith, f.some y d)) (leb-true y.past _ p.0)) in
    any_in (λ c. by_indexes axes.Preceding c y) cs o.entry o.there (and_from _ _ o.passes p.1)))

-- Descendants: those of the contexts that are in no earlier one.

absorb : (b u m : Bool) → (u ≡ true → b ≡ true) → (b || (u || m)) ≡ (b || m)
absorb true u m h = refl
absorb false true m h = absurd (false≢true (h refl))
absorb false false m h = refl

or_on : (b u m : Bool) → (b || (u || m)) ≡ ((b || u) || m)
or_on true u m = refl
or_on false u m = refl

outermost_cover : (bound low : ℕ) (es cs : List Entry) (y : Entry) (b : Bool) → InOrder bound es → Contains es y →
    ((c : Entry) → Contains cs c → Contains es c) → Rises cs →
    ((c : Entry) → Contains cs c → c.index < low → is_under c y ≡ true → b ≡ true) →
    (b || list_any (λ c. is_under c y) cs) ≡ (b || list_any (λ c. is_under c y) (outermost low cs))
outermost_cover bound low es [] y b f d a r h = refl
outermost_cover bound low es (c ∷ cs) y b f d a r h =
    by (λ m e g. outermost_cover bound m es cs y e f d (λ x k. a x (contains_next c cs x k)) r.1 g) (nat_lt c.index low) refl
  where
    by : ((m : ℕ) (e : Bool) → ((x : Entry) → Contains cs x → x.index < m → is_under x y ≡ true → e ≡ true) →
        (e || list_any (λ c. is_under c y) cs) ≡ (e || list_any (λ c. is_under c y) (outermost m cs))) →
        (t : Bool) → nat_lt c.index low ≡ t → (b || (is_under c y || list_any (λ c. is_under c y) cs)) ≡ (b || list_any (λ c. is_under c y)
        (cond t [] (c ∷ []) ++ outermost (cond t low c.past) cs))
    by rec true k = absorb b (is_under c y) _ (h c (contains_here c cs) (ltb-true c.index low k)) ∙ rec low b (λ x l. h x (contains_next c cs x l))
    by rec false k =
        or_on b (is_under c y) _
        ∙ rec c.past (b || is_under c y)
        (λ x l m u. or_right b (is_under c y) (f.on c x y (a c (contains_here c cs)) (a x (contains_next c cs x l)) d
        (under_is c x (each_at (λ z. c.index < z.index) cs x r.0 l) m) u))
        ∙ sym (or_on b (is_under c y) _)

any_and : (P : Entry → Bool) (t : Bool) (cs : List Entry) → list_any (λ c. P c && t) cs ≡ (list_any P cs && t)
any_and P t [] = refl
any_and P t (c ∷ cs) = ap (λ b. (P c && t) || b) (any_and P t cs) ∙ by (P c) t
  where
    by : (p t : Bool) → ((p && t) || (list_any P cs && t)) ≡ ((p || list_any P cs) && t)
    by true true = refl
    by true false = and_no (list_any P cs)
    by false t = refl

pub descendants_by_outermost : (bound : ℕ) (es cs : List Entry) → InOrder bound es → AreContexts cs es →
    filter (any_by_indexes axes.Descendant cs) es ≡ filter (any_by_indexes axes.Descendant (outermost 0 cs)) es
descendants_by_outermost bound es cs f a = filter_same _ _ es (λ y d.
    any_and (λ c. is_under c y) (is_child_thing y.what) cs
    ∙ ap (λ b. b && is_child_thing y.what) (outermost_cover bound 0 es cs y false f d a.among a.rise (λ c k m u. absurd (omega (arith, m))))
    ∙ sym (any_and (λ c. is_under c y) (is_child_thing y.what) (outermost 0 cs)))

-- Contexts that are apart: their lists one after another.

pub apart_joins : (T : Entry → Entry → Bool) (es cs : List Entry) → Rises es → Apart cs →
    ((c y : Entry) → T c y ≡ true → (c.index ≤ y.index) × (y.index < c.past)) →
    filter (λ y. list_any (λ c. T c y) cs) es ≡ flat_map (λ c. filter (T c) es) cs
apart_joins T es [] r a t = none_of (λ y. false) es (λ x c h. false≢true h)
apart_joins T es (c ∷ cs) r a t =
    split_or (T c) (λ y. list_any (λ c. T c y) cs) c.past es r (λ e k h. (t c e h).1)
    (λ e k h. let o = any_out (λ c. T c e) cs h in omega (arith, each_at (λ d. c.past ≤ d.index) cs o.entry a.0 o.there, (t o.entry e o.passes).0))
    ∙ ap (λ xs. filter (T c) es ++ xs) (apart_joins T es cs r a.1 t)

outermost_from : (low : ℕ) (cs : List Entry) → ((c : Entry) → Contains cs c → c.index < c.past) → Each (λ d. low ≤ d.index) (outermost low cs)
outermost_from low [] s = tt
outermost_from low (c ∷ cs) s = by (λ m. outermost_from m cs (λ x k. s x (contains_next c cs x k))) (nat_lt c.index low) refl
  where
    by : ((m : ℕ) → Each (λ d. m ≤ d.index) (outermost m cs)) → (t : Bool) → nat_lt c.index low ≡ t →
        Each (λ d. low ≤ d.index) (cond t [] (c ∷ []) ++ outermost (cond t low c.past) cs)
    by rec true k = rec low
    by rec false k =
        let from : low ≤ c.index = ltb-false c.index low k in (
          from,
          each_more (λ d. c.past ≤ d.index) (λ d. low ≤ d.index) (λ x h. omega (arith, h, from, s c (contains_here c cs))) (outermost c.past cs)
              (rec c.past),
        )

pub outermost_apart : (low : ℕ) (cs : List Entry) → ((c : Entry) → Contains cs c → c.index < c.past) → Apart (outermost low cs)
outermost_apart low [] s = tt
outermost_apart low (c ∷ cs) s =
    let some = λ (x : Entry) (k : Contains cs x). s x (contains_next c cs x k) in
    by (λ m. outermost_apart m cs some) (outermost_from c.past cs some) (nat_lt c.index low)
  where
    by : ((m : ℕ) → Apart (outermost m cs)) → Each (λ d. c.past ≤ d.index) (outermost c.past cs) → (t : Bool) →
        Apart (cond t [] (c ∷ []) ++ outermost (cond t low c.past) cs)
    by rec from true = rec low
    by rec from false = (from, rec c.past)

-- the descendants of contexts: those of the contexts that are in no earlier one, one after another
pub descendants_of_contexts : (bound : ℕ) (es cs : List Entry) → InOrder bound es → AreContexts cs es →
    filter (any_by_indexes axes.Descendant cs) es ≡ flat_map (λ c. filter (by_indexes axes.Descendant c) es) (outermost 0 cs)
descendants_of_contexts bound es cs f a =
    descendants_by_outermost bound es cs f a
    ∙ apart_joins (by_indexes axes.Descendant) es (outermost 0 cs) f.rises (outermost_apart 0 cs (λ c k. f.some c (a.among c k)))
    (λ c y h. let u = under_within c y (and_parts (is_under c y) (is_child_thing y.what) h).0 in (omega (arith, u), u.1))

-- Ancestors: each context's, from the one before it on.

pub ancestors_are : (low : ℕ) (es cs : List Entry) → Rises es → Rises cs → Each (λ c. low ≤ c.index) cs →
    filter (λ y. list_any (λ c. is_under y c) cs && nat_le low y.index) es ≡ new_ancestors es low cs
ancestors_are low es [] r q l = none_of (λ y. false) es (λ x c h. false≢true h)
ancestors_are low es (c ∷ cs) r q l =
    filter_same _ (λ y. (is_under y c && nat_le low y.index) || (list_any (λ c. is_under y c) cs && nat_le c.index y.index)) es
    (λ y d. same_test _ _ (out y) (back y))
    ∙ split_or (λ y. is_under y c && nat_le low y.index) (λ y. list_any (λ c. is_under y c) cs && nat_le c.index y.index) c.index es r
    (λ e k h. (under_within e c (and_parts (is_under e c) (nat_le low e.index) h).0).0)
    (λ e k h. leb-true c.index e.index (and_parts (list_any (λ c. is_under e c) cs) (nat_le c.index e.index) h).1)
    ∙ ap (λ xs. filter (λ y. is_under y c && nat_le low y.index) es ++ xs)
    (ancestors_are c.index es cs r q.1 (each_more (λ d. c.index < d.index) (λ d. c.index ≤ d.index) (λ x h. omega (arith, h)) cs q.0))
  where
    out : (y : Entry) → (list_any (λ c. is_under y c) (c ∷ cs) && nat_le low y.index) ≡ true →
        ((is_under y c && nat_le low y.index) || (list_any (λ c. is_under y c) cs && nat_le c.index y.index)) ≡ true
    out y h =
        let p = and_parts (list_any (λ c. is_under y c) (c ∷ cs)) (nat_le low y.index) h in
        elim (or_cases (is_under y c) (list_any (λ c. is_under y c) cs) p.0) [
          | inl u ↦ or_left _ _ (and_from _ _ u p.1)
          | inr m ↦ elim (cases_lt y.index c.index) [
            | inl less ↦
                let o = any_out (λ c. is_under y c) cs m in
                let later : c.index < o.entry.index = each_at (λ z. c.index < z.index) cs o.entry q.0 o.there in
                or_left _ _ (and_from _ _ (under_is y c less (omega (arith, later, under_within y o.entry o.passes))) p.1)
            | inr more ↦ or_right _ _ (and_from _ _ m (le-leb c.index y.index more))
          ]
        ]

    back : (y : Entry) → ((is_under y c && nat_le low y.index) || (list_any (λ c. is_under y c) cs && nat_le c.index y.index)) ≡ true →
        (list_any (λ c. is_under y c) (c ∷ cs) && nat_le low y.index) ≡ true
    back y h = elim (or_cases (is_under y c && nat_le low y.index) (list_any (λ c. is_under y c) cs && nat_le c.index y.index) h) [
      | inl u ↦ let p = and_parts (is_under y c) (nat_le low y.index) u in and_from _ _ (or_left _ _ p.0) p.1
      | inr m ↦
          let p = and_parts (list_any (λ c. is_under y c) cs) (nat_le c.index y.index) m in
          and_from _ _ (or_right (is_under y c) _ p.0) (le-leb low y.index (omega (arith, l.0, leb-true c.index y.index p.1)))
    ]

always : (cs : List Entry) → Each (λ c. 0 ≤ c.index) cs
always [] = tt
always (c ∷ cs) = (omega arith, always cs)

pub ancestors_of_contexts : (bound : ℕ) (es cs : List Entry) → InOrder bound es → AreContexts cs es →
    filter (any_by_indexes axes.Ancestor cs) es ≡ new_ancestors es 0 cs
ancestors_of_contexts bound es cs f a =
    filter_same _ _ es (λ y d. sym (ap (λ b. list_any (λ c. is_under y c) cs && b) (le-leb 0 y.index (omega arith)) ∙ and_yes _))
    ∙ ancestors_are 0 es cs f.rises a.rise (always cs)

-- Following, one context after another: where the second is in the first, the first adds nothing; else the first has them all.

pub following_on : (bound : ℕ) (es : List Entry) (c d : Entry) (cs : List Entry) → InOrder bound es → AreContexts (c ∷ d ∷ cs) es →
    filter (any_by_indexes axes.Following (c ∷ d ∷ cs)) es
    ≡ cond (nat_lt d.index c.past) (filter (any_by_indexes axes.Following (d ∷ cs)) es) (filter (by_indexes axes.Following c) es)
following_on bound es c d cs f a = by (nat_lt d.index c.past) refl
  where
    by : (t : Bool) → nat_lt d.index c.past ≡ t → filter (any_by_indexes axes.Following (c ∷ d ∷ cs)) es ≡ cond t (filter
        (any_by_indexes axes.Following (d ∷ cs)) es) (filter (by_indexes axes.Following c) es)
    by true k = filter_same _ _ es (λ y m. same_test _ _
        (λ h. elim (or_cases (by_indexes axes.Following c y) (any_by_indexes axes.Following (d ∷ cs) y) h) [
          | inl u ↦
              let p = and_parts (nat_le c.past y.index) (is_child_thing y.what) u in
              let above = leb-true c.past y.index p.0 in
              let inner : c.index < d.index = a.rise.0.0 in
              or_left _ _ (and_from _ _ (le-leb d.past y.index (elim (cases_lt y.index d.past) [
                | inl within ↦ absurd (let u = f.on c d y (a.among c (contains_here c (d ∷ cs)))
                    (a.among d (contains_next c (d ∷ cs) d (contains_here d cs))) m (under_is c d inner (ltb-true d.index c.past k))
                    (under_is d y (omega (arith, above, ltb-true d.index c.past k)) within) in
                    omega (arith, above, (under_within c y u).1))
                | inr past ↦ past
              ])) p.1)
          | inr r ↦ r
        ])
        (λ h. or_right (by_indexes axes.Following c y) _ h))
    by false k = filter_same _ _ es (λ y m. same_test _ _
        (λ h. elim (or_cases (by_indexes axes.Following c y) (any_by_indexes axes.Following (d ∷ cs) y) h) [
          | inl u ↦ u
          | inr r ↦
              let o = any_out (λ c. by_indexes axes.Following c y) (d ∷ cs) r in
              let p = and_parts (nat_le o.entry.past y.index) (is_child_thing y.what) o.passes in
              let after : d.index ≤ o.entry.index = least d cs a.rise.1.0 o.entry o.there in
              and_from _ _ (le-leb c.past y.index
              (omega (
                arith,
                after,
                ltb-false d.index c.past k,
                f.some o.entry
                    (a.among o.entry (contains_next c (d ∷ cs) o.entry o.there)),
                leb-true o.entry.past y.index p.0,
              ))) p.1
        ])
        (λ h. or_left _ _ h))
      where
        least : (d : Entry) (cs : List Entry) → Each (λ z. d.index < z.index) cs → (x : Entry) → Contains (d ∷ cs) x → d.index ≤ x.index
        least d cs r x (zero, l, s) = omega (arith, ap (λ z. z.index) s)
        least d cs r x (suc n, l, s) = omega (arith, each_at (λ z. d.index < z.index) cs x r (n, omega (arith, l), s))

-- Children and parents: by the index of what holds a node.

parent_by_holder : (nest : Forest) (first : ℕ) → is_nest nest ≡ true → (x y : Entry) → IsNode nest first x → IsNode nest first y →
    by_indexes axes.Parent y x ≡ (not (is_root_thing y.what) && x.index == holder_index y.holders)
parent_by_holder nest first n x y c d =
    sym (axis_of_two nest first n axes.Parent y x d c) ∙ parent_of_node nest first n y x d c
    ∙ ap (λ m. not (is_root_thing y.what) && x.index == m) (holder_of_node nest first n y d)

pub child_by_holder : (nest : Forest) (first : ℕ) → is_nest nest ≡ true → (x y : Entry) → IsNode nest first x → IsNode nest first y →
    by_indexes axes.Child x y ≡ (is_child_thing y.what && x.index == holder_index y.holders)
child_by_holder nest first n x y c d = ap (λ b. b && is_child_thing y.what) (parent_by_holder nest first n x y c d)
    ∙ child_first y.what (x.index == holder_index y.holders)

and_any : (P : Entry → Bool) (t : Bool) (cs : List Entry) → list_any (λ c. t && P c) cs ≡ (t && list_any P cs)
and_any P true cs = refl
and_any P false [] = refl
and_any P false (c ∷ cs) = and_any P false cs

-- the children of contexts: the children whose holder is a context
pub children_of_contexts : (nest : Forest) (first : ℕ) → is_nest nest ≡ true → (cs : List Entry) → AreContexts cs (all nest first) →
    filter (any_by_indexes axes.Child cs) (all nest first) ≡ filter (is_child_of_any cs) (all nest first)
children_of_contexts nest first n cs a = filter_same _ _ (all nest first) (λ y d.
    any_same _ _ cs (λ c k. child_by_holder nest first n c y (a.among c k) d)
    ∙ and_any (λ c. c.index == holder_index y.holders) (is_child_thing y.what) cs)

-- Ancestors and the contexts themselves.

abbrev pub on : Entry → Entry → Bool
on y c = y.index == c.index || is_under y c

pub ancestors_or_selves_are : (low : ℕ) (es cs : List Entry) → Rises es → Rises cs → Each (λ c. low ≤ c.index) cs →
    filter (λ y. list_any (λ c. y.index == c.index || is_under y c) cs && nat_le low y.index) es ≡ new_ancestors_or_selves es low cs
ancestors_or_selves_are low es [] r q l = none_of (λ y. false) es (λ x c h. false≢true h)
ancestors_or_selves_are low es (c ∷ cs) r q l =
    filter_same _ (λ y. (on y c && nat_le low y.index) || (list_any (λ c. on y c) cs && nat_le (suc c.index) y.index)) es
    (λ y d. same_test _ _ (out y) (back y))
    ∙ split_or (λ y. on y c && nat_le low y.index) (λ y. list_any (λ c. on y c) cs && nat_le (suc c.index) y.index) (suc c.index) es r
    (λ e k h. at_most e c (and_parts (on e c) (nat_le low e.index) h).0)
    (λ e k h. leb-true (suc c.index) e.index (and_parts (list_any (λ c. on e c) cs) (nat_le (suc c.index) e.index) h).1)
    ∙ ap (λ xs. filter (λ y. on y c && nat_le low y.index) es ++ xs)
    (ancestors_or_selves_are (suc c.index) es cs r q.1
    (each_more (λ d. c.index < d.index) (λ d. suc c.index ≤ d.index) (λ x h. omega (arith, h)) cs q.0))
  where
    at_most : (y c : Entry) → on y c ≡ true → y.index < suc c.index
    at_most y c h = elim (or_cases (y.index == c.index) (is_under y c) h) [
      | inl e ↦ omega (arith, eqb-true y.index c.index e)
      | inr u ↦ omega (arith, (under_within y c u).0)
    ]

    out : (y : Entry) → (list_any (λ c. on y c) (c ∷ cs) && nat_le low y.index) ≡ true →
        ((on y c && nat_le low y.index) || (list_any (λ c. on y c) cs && nat_le (suc c.index) y.index)) ≡ true
    out y h =
        let p = and_parts (list_any (λ c. on y c) (c ∷ cs)) (nat_le low y.index) h in
        elim (or_cases (on y c) (list_any (λ c. on y c) cs) p.0) [
          | inl u ↦ or_left _ _ (and_from _ _ u p.1)
          | inr m ↦ elim (cases_lt c.index y.index) [
            | inl later ↦ or_right (on y c && nat_le low y.index) _ (and_from _ _ m (le-leb (suc c.index) y.index (omega (arith, later))))
            | inr low_index ↦
                let o = any_out (λ c. on y c) cs m in
                let later : c.index < o.entry.index = each_at (λ z. c.index < z.index) cs o.entry q.0 o.there in
                or_left (on y c && nat_le low y.index) _ (and_from (on y c) (nat_le low y.index) (elim (cases_lt y.index c.index) [
                  | inl less ↦ or_right (y.index == c.index) (is_under y c) (elim (or_cases (y.index == o.entry.index) (is_under y o.entry) o.passes) [
                    | inl e ↦ absurd (omega (arith, later, less, eqb-true y.index o.entry.index e))
                    | inr u ↦ under_is y c less (omega (arith, later, under_within y o.entry u))
                  ])
                  | inr same ↦ or_left (y.index == c.index) (is_under y c) (eq-eqb y.index c.index (omega (arith, same, low_index)))
                ]) p.1)
          ]
        ]

    back : (y : Entry) → ((on y c && nat_le low y.index) || (list_any (λ c. on y c) cs && nat_le (suc c.index) y.index)) ≡ true →
        (list_any (λ c. on y c) (c ∷ cs) && nat_le low y.index) ≡ true
    back y h = elim (or_cases (on y c && nat_le low y.index) (list_any (λ c. on y c) cs && nat_le (suc c.index) y.index) h) [
      | inl u ↦ let p = and_parts (on y c) (nat_le low y.index) u in and_from _ _ (or_left _ _ p.0) p.1
      | inr m ↦
          let p = and_parts (list_any (λ c. on y c) cs) (nat_le (suc c.index) y.index) m in
          and_from _ _ (or_right (on y c) _ p.0) (le-leb low y.index (omega (arith, l.0, leb-true (suc c.index) y.index p.1)))
    ]

pub ancestors_or_selves_of_contexts : (bound : ℕ) (es cs : List Entry) → InOrder bound es → AreContexts cs es →
    filter (any_by_indexes axes.AncestorOrSelf cs) es ≡ new_ancestors_or_selves es 0 cs
ancestors_or_selves_of_contexts bound es cs f a =
    filter_same _ _ es (λ y d. sym (ap (λ b. list_any (λ c. y.index == c.index || is_under y c) cs && b) (le-leb 0 y.index (omega arith)) ∙ and_yes _))
    ∙ ancestors_or_selves_are 0 es cs f.rises a.rise (always cs)

-- the parents of contexts: not in the order of the contexts
pub parents_of_contexts : (nest : Forest) (first : ℕ) → is_nest nest ≡ true → (cs : List Entry) → AreContexts cs (all nest first) →
    filter (any_by_indexes axes.Parent cs) (all nest first) ≡ filter (is_parent_of_any cs) (all nest first)
parents_of_contexts nest first n cs a = filter_same _ _ (all nest first) (λ y d. any_same _ _ cs
    (λ c k. parent_by_holder nest first n y c d (a.among c k)))
