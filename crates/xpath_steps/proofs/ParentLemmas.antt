-- Going backward along the records, with a flag for each level at which contexts wait for their parent.
use Rattle.std.proofs.Common.{◌≡◌, ℕ, zero, suc, ◌+◌, ◌<◌, ◌≤◌, ◌⊎◌, Bool, true, false, cond, not, ◌&&◌, ◌||◌, ◌==◌, List, [], ◌∷◌, ◌++◌, length, map}
use Rattle.std.proofs.Common.{drop, reverse, refl, ap, ap₂, sym, ◌∙◌, subst, arith, filter, nat_lt, nat_le, inl, inr, Some, None, option_map, replicate}
use Rattle.std.specs.List.{AllByRecursion as Each, Contains, list_any, slice_index_or}
use Rattle.std.proofs.lemmas.Bool.{false≢true, and_parts, and_from, or_cases, or_left, or_right, cases_lt, ltb-true, leb-true, eqb-true, eq-eqb}
use Rattle.std.proofs.lemmas.Bool.{lt-ltb, le-leb}
use Rattle.std.proofs.lemmas.List.{reverse-append, reverse-reverse, map-append}
use Rattle.xml_model.specs.declared.Axis.TheVariants as axes
use Rattle.xml_model.specs.declared.Kind.TheVariants as kinds
use Rattle.xml_model.specs.declared.Node.{Node}
use Rattle.xml_model.specs.Contexts.{is_parent_of_any, AreContexts, Rises}
use Rattle.xml_model.specs.Laws.{holder_index, is_root_thing, is_under, nodes_above}
use Rattle.xml_model.specs.Names.{Test, passes}
use Rattle.xml_model.specs.Nest.{Forest, is_nest}
use Rattle.xml_model.specs.Records.{records}
use Rattle.xml_model.specs.Items.{first_place}
use Rattle.xml_model.specs.Tree.{Entry, Identifies, all, at_index, kind_of}
use Rattle.xml_model.proofs.Contexts.{union_by_indexes, parents_of_contexts}
use Rattle.xml_model.proofs.Each.{each_at, each_more}
use Rattle.xml_model.proofs.Filters.{any_out, any_same, filter_same, none_of, one_here, same_test, split_or}
use Rattle.xml_model.proofs.Indexes.{all_rise, one_kind, one_node}
use Rattle.xml_model.proofs.Inside.{above_held, above_root, held_by, levels_shown, root_first, Holds}
use Rattle.xml_model.proofs.NodeLaws.{axis_of_two, holder_of_node, parent_of_node}
use Rattle.xml_model.proofs.Things.{kind_root, no_root_element, root_kind}
use Rattle.xml_model.proofs.TreeOrder.{under_within}
use Rattle.vtd_words.specs.Table.{node_of, nodes_of}
use Rattle.vtd_words.proofs.Found.{none_at}
use Rattle.xpath_axes.proofs.WalkLemmas.{node_here}
use Rattle.xpath_steps.specs.Holders.{index_before}
use Rattle.xpath_steps.specs.Steps.{step_nodes, AreAmong}
use Rattle.xpath_steps.specs.Waits.{flagged, parents_from, waits, Gathered, IsHolderAt, NoneHolds}
use Rattle.xpath_steps.proofs.AboveLemmas.{filtered_among, map_reverse}
use Rattle.xpath_steps.proofs.StepLemmas.{At}

pub false_if : (b : Bool) → (b ≡ true → ⊥) → b ≡ false
false_if true h = absurd (h refl)
false_if false h = refl

pub not_false : (b : Bool) → not b ≡ true → b ≡ false
not_false true h = absurd (false≢true h)
not_false false h = refl

pub none_any : (P : Entry → Bool) (ds : List Entry) → ((c : Entry) → Contains ds c → P c ≡ true → ⊥) → list_any P ds ≡ false
none_any P ds h = false_if (list_any P ds) (λ t. let o = any_out P ds t in h o.entry o.there o.passes)

module _ (nest : Forest) (first : ℕ) (n : is_nest nest ≡ true) where
  -- what holds a node
  pub record HeldFrom (c p : Entry) : Type 0 where
    pub there : Contains (all nest first) p
    pub index : p.index ≡ holder_index c.holders
    pub level : nodes_above p ≡ length c.holders
    pub holds : Holds (records nest first) p (length c.holders)
    pub after : p.index < c.index
    pub before : c.index < p.past
    pub kind : (kind_of p.what ≡ kinds.Root) ⊎ (kind_of p.what ≡ kinds.Element)

  pub held_from : (c : Entry) → Contains (all nest first) c → is_root_thing c.what ≡ false → (p : Entry) × HeldFrom c p
  held_from c k r =
      let h = held_by nest first n c k r in
      let p = h.0 in
      let one = h.1.above in
      let o = and_parts (is_under p c) (nodes_above c == suc (nodes_above p)) one in
      let u = under_within p c o.0 in
      let level : nodes_above p ≡ length c.holders = omega (arith, above_held c r, eqb-true (nodes_above c) (suc (nodes_above p)) o.1) in
      let at : (not (is_root_thing c.what) && p.index == holder_index c.holders) ≡ true =
      ap (λ m. not (is_root_thing c.what) && p.index == m) (sym (holder_of_node nest first n c k))
      ∙ sym (parent_of_node nest first n c p k h.1.there) ∙ axis_of_two nest first n axes.Parent c p k h.1.there ∙ one in (
        p,
        record {
          there = h.1.there;
          index = eqb-true p.index (holder_index c.holders) (and_parts (not (is_root_thing c.what)) (p.index == holder_index c.holders) at).1;
          level = level;
          holds = subst (λ m. Holds (records nest first) p m) level h.1.holds;
          after = u.0;
          before = u.1;
          kind = elim h.1.kind [
            | inl x ↦ inl (root_kind p.what x)
            | inr x ↦ inr x
          ];
        },
      )

  module _ (at : ℕ) (node : Node) (inside : ℕ) (z : IsHolderAt (all nest first) at node inside) where
    -- what a node holds that begins at an index is of its level
    pub level_inside : (c : Entry) → Contains (all nest first) c → is_root_thing c.what ≡ false → holder_index c.holders ≡ at → length c.holders ≡ inside
    level_inside c k r h =
        let p = held_from c k r in
        let same : p.0 ≡ z.entry = one_node nest first p.0 z.entry p.1.there z.there (p.1.index ∙ h ∙ sym z.index) in
        sym p.1.level ∙ ap nodes_above same ∙ z.above

    -- what is of its level and after it, and begins in a node before it, begins in it
    pub holder_here : (c : Entry) → Contains (all nest first) c → is_root_thing c.what ≡ false → at < c.index → length c.holders ≡ inside →
        holder_index c.holders ≤ at → holder_index c.holders ≡ at
    holder_here c k r later l h =
        let p = held_from c k r in
        elim (cases_lt p.0.index at) [
          | inr more ↦ omega (arith, more, p.1.index, h)
          | inl less ↦
              let low = p.1.holds.inside z.entry.index (omega (arith, less, z.index)) (omega (arith, later, z.index, p.1.before)) in
              let shown = levels_shown nest first n z.entry z.there in
              absurd (elim z.kind [
                | inl root ↦ omega (arith, root_first nest first n z.entry z.there (kind_root z.entry.what root), z.index, less)
                | inr tag ↦ omega (arith, low, shown, above_held z.entry (no_root_element z.entry.what tag), z.above, l)
              ])
        ]

  -- Lists.

  pub one_more : (P : Entry → Bool) (at : ℕ) →
      map node_of (reverse (filter (λ y. nat_le at y.index && P y) (all nest first)))
      ≡ map node_of (reverse (filter (λ y. nat_le (suc at) y.index && P y) (all nest first)))
      ++ map node_of (reverse (filter (λ y. y.index == at && P y) (all nest first)))
  one_more P at =
      let es = all nest first in
      let A = λ (y : Entry). y.index == at && P y in
      let B = λ (y : Entry). nat_le (suc at) y.index && P y in
      ap (λ xs. map node_of (reverse xs)) (filter_same _ (λ y. A y || B y) es (λ y d. same_test _ _
      (λ t. let p = and_parts (nat_le at y.index) (P y) t in
      elim (cases_lt at y.index) [
        | inl more ↦ or_right (A y) _ (and_from _ _ (le-leb (suc at) y.index (omega (arith, more))) p.1)
        | inr less ↦ or_left _ _ (and_from _ _ (eq-eqb y.index at (omega (arith, less, leb-true at y.index p.0))) p.1)
      ])
      (λ t. elim (or_cases (A y) (B y) t) [
        | inl u ↦ let p = and_parts (y.index == at) (P y) u in
            let is : y.index ≡ at = eqb-true y.index at p.0 in and_from _ _ (le-leb at y.index (omega (arith, is))) p.1
        | inr u ↦ let p = and_parts (nat_le (suc at) y.index) (P y) u in
            and_from _ _ (le-leb at y.index (omega (arith, leb-true (suc at) y.index p.0))) p.1
      ]))
      ∙ split_or A B (suc at) es (all_rise nest first)
      (λ y d t. let is : y.index ≡ at = eqb-true y.index at (and_parts (y.index == at) (P y) t).0 in omega (arith, is))
      (λ y d t. leb-true (suc at) y.index (and_parts (nat_le (suc at) y.index) (P y) t).0))
      ∙ ap (map node_of) (reverse-append (filter A es) (filter B es)) ∙ map-append node_of (reverse (filter B es)) (reverse (filter A es))

  module _ (ds : List Entry) (at : ℕ) (flags : ℕ → Bool) (held : List Node) (g : Gathered (all nest first) ds (suc at) flags held) where
    later_than : (c : Entry) → Contains ds c → at < c.index
    later_than c k = let m : suc at ≤ c.index = each_at (λ x. suc at ≤ x.index) ds c g.passed k in omega (arith, m)

    passed_on : Each (λ c. at ≤ c.index) ds
    passed_on = each_more (λ c. suc at ≤ c.index) (λ c. at ≤ c.index) (λ c h. omega (arith, h)) ds g.passed

    -- a context that waits on is one that waited, but for those held from here
    waits_less : (level : ℕ) (c : Entry) → waits at level c ≡ true → waits (suc at) level c ≡ true
    waits_less level c t =
        let p = and_parts (not (is_root_thing c.what)) _ t in
        let q = and_parts (length c.holders == level) (nat_lt (holder_index c.holders) at) p.1 in
        and_from _ _ p.0 (and_from _ _ q.0 (lt-ltb (holder_index c.holders) (suc at) (omega (arith, ltb-true (holder_index c.holders) at q.1))))

    waits_more : (level : ℕ) (c : Entry) → (is_root_thing c.what ≡ false → length c.holders ≡ level → holder_index c.holders ≡ at → ⊥) →
        waits (suc at) level c ≡ true → waits at level c ≡ true
    waits_more level c other t =
        let p = and_parts (not (is_root_thing c.what)) _ t in
        let q = and_parts (length c.holders == level) (nat_lt (holder_index c.holders) (suc at)) p.1 in
        and_from _ _ p.0 (and_from _ _ q.0 (elim (cases_lt (holder_index c.holders) at) [
          | inl less ↦ lt-ltb (holder_index c.holders) at less
          | inr more ↦ absurd (other (not_false (is_root_thing c.what) p.0) (eqb-true (length c.holders) level q.0)
              (omega (arith, more, ltb-true (holder_index c.holders) (suc at) q.1)))
        ]))

    pub none_gathered : NoneHolds (all nest first) at → Gathered (all nest first) ds at flags held
    none_gathered other =
        let here : (c : Entry) → Contains ds c → is_root_thing c.what ≡ false → holder_index c.holders ≡ at → ⊥ =
        λ c k r h. (let p = held_from c (g.among c k) r in other p.0 p.1.there (p.1.index ∙ h) p.1.kind) in
        record {
          among = g.among;
          passed = passed_on;
          waiting = λ level. g.waiting level ∙ any_same _ _ ds (λ c k. same_test _ _
              (λ t. waits_more level c (λ r l h. here c k r h) t) (λ t. waits_less level c t));
          gathered = g.gathered ∙ sym (one_more (is_parent_of_any ds) at
              ∙ ap (λ xs. parents_from (all nest first) (suc at) ds ++ map node_of (reverse xs)) (none_of _ (all nest first) (λ y d t.
              let p = and_parts (y.index == at) (is_parent_of_any ds y) t in
              let o = any_out (λ c. not (is_root_thing c.what) && y.index == holder_index c.holders) ds p.1 in
              let q = and_parts (not (is_root_thing o.entry.what)) (y.index == holder_index o.entry.holders) o.passes in
              here o.entry o.there (not_false (is_root_thing o.entry.what) q.0)
              (sym (eqb-true y.index (holder_index o.entry.holders) q.1) ∙ eqb-true y.index at p.0)))
              ∙ Rattle.std.proofs.Common.append-nil _);
        }

    module _ (node : Node) (inside : ℕ) (z : IsHolderAt (all nest first) at node inside) where
      -- a node is the parent of a context exactly where one waits at its level
      parent_waited : (y : Entry) → y.index ≡ at → is_parent_of_any ds y ≡ list_any (waits (suc at) inside) ds
      parent_waited y here = any_same _ _ ds (λ c k. same_test _ _
          (λ t. let p = and_parts (not (is_root_thing c.what)) (y.index == holder_index c.holders) t in
          let from : holder_index c.holders ≡ at = sym (eqb-true y.index (holder_index c.holders) p.1) ∙ here in
          and_from _ _ p.0 (and_from _ _
          (eq-eqb (length c.holders) inside (level_inside at node inside z c (g.among c k) (not_false (is_root_thing c.what) p.0) from))
          (lt-ltb (holder_index c.holders) (suc at) (omega (arith, from)))))
          (λ t. let p = and_parts (not (is_root_thing c.what)) _ t in
          let q = and_parts (length c.holders == inside) (nat_lt (holder_index c.holders) (suc at)) p.1 in
          let from : holder_index c.holders ≡ at = holder_here at node inside z c (g.among c k) (not_false (is_root_thing c.what) p.0) (later_than c k)
          (eqb-true (length c.holders) inside q.0) (omega (arith, ltb-true (holder_index c.holders) (suc at) q.1)) in
          and_from _ _ p.0 (eq-eqb y.index (holder_index c.holders) (here ∙ sym from))))

      -- of another level the same wait
      others_wait : (level : ℕ) → (inside ≡ level → ⊥) → list_any (waits (suc at) level) ds ≡ list_any (waits at level) ds
      others_wait level other = any_same _ _ ds (λ c k. same_test _ _
          (λ t. waits_more level c (λ r l h. other (sym (level_inside at node inside z c (g.among c k) r h) ∙ l)) t)
          (λ t. waits_less level c t))

      none_waits : list_any (waits at inside) ds ≡ false
      none_waits = none_any (waits at inside) ds (λ c k t.
          let p = and_parts (not (is_root_thing c.what)) _ t in
          let q = and_parts (length c.holders == inside) (nat_lt (holder_index c.holders) at) p.1 in
          let less : holder_index c.holders < at = ltb-true (holder_index c.holders) at q.1 in
          let from : holder_index c.holders ≡ at = holder_here at node inside z c (g.among c k) (not_false (is_root_thing c.what) p.0) (later_than c k)
          (eqb-true (length c.holders) inside q.0) (omega (arith, less)) in
          omega (arith, less, from))

      flag_cleared : (next : ℕ → Bool) → ((l : ℕ) → next l ≡ cond (l == inside) false (flags l)) → (level : ℕ) → next level ≡ list_any (waits at level) ds
      flag_cleared next h level = h level ∙ by (level == inside) refl
        where
          by : (b : Bool) → (level == inside) ≡ b → cond b false (flags level) ≡ list_any (waits at level) ds
          by true e = sym (ap (λ l. list_any (waits at l) ds) (eqb-true level inside e) ∙ none_waits)
          by false e = g.waiting level ∙ others_wait level (λ i. false≢true (sym e ∙ eq-eqb level inside (sym i)))

      pub parent_gathered : flags inside ≡ true → (next : ℕ → Bool) → ((l : ℕ) → next l ≡ cond (l == inside) false (flags l)) →
          (new : List Node) → new ≡ held ++ node ∷ [] → Gathered (all nest first) ds at next new
      parent_gathered f next h new e = record {
        among = g.among;
        passed = passed_on;
        waiting = flag_cleared next h;
        gathered = e ∙ ap₂ (λ xs ys. xs ++ ys) g.gathered
            (ap (λ m. m ∷ []) (sym z.shown)
            ∙ sym (ap (λ xs. map node_of (reverse xs)) (one_here (is_parent_of_any ds) at (all nest first) (all_rise nest first) z.entry z.there z.index
            (parent_waited z.entry z.index ∙ sym (g.waiting inside) ∙ f))))
            ∙ sym (one_more (is_parent_of_any ds) at);
      }

      pub none_waited : flags inside ≡ false → Gathered (all nest first) ds at flags held
      none_waited f = record {
        among = g.among;
        passed = passed_on;
        waiting = λ level. by level (level == inside) refl;
        gathered = g.gathered ∙ sym (one_more (is_parent_of_any ds) at
            ∙ ap (λ xs. parents_from (all nest first) (suc at) ds ++ map node_of (reverse xs)) (none_of _ (all nest first) (λ y d t.
            let p = and_parts (y.index == at) (is_parent_of_any ds y) t in
            false≢true (sym f ∙ g.waiting inside ∙ sym (parent_waited y (eqb-true y.index at p.0)) ∙ p.1)))
            ∙ Rattle.std.proofs.Common.append-nil _);
      }
        where
          by : (level : ℕ) (b : Bool) → (level == inside) ≡ b → flags level ≡ list_any (waits at level) ds
          by level true e = ap flags (eqb-true level inside e) ∙ f ∙ sym (ap (λ l. list_any (waits at l) ds) (eqb-true level inside e) ∙ none_waits)
          by level false e = g.waiting level ∙ others_wait level (λ i. false≢true (sym e ∙ eq-eqb level inside (sym i)))

  -- One context more.

  module _ (c : Entry) (k : Contains (all nest first) c) (ds : List Entry) (flags : ℕ → Bool) (held : List Node)
      (g : Gathered (all nest first) ds c.index flags held) where
    among_more : AreAmong (c ∷ ds) (all nest first)
    among_more x (zero, l, s) = subst (Contains (all nest first)) s k
    among_more x (suc m, l, s) = g.among x (m, omega (arith, l), s)

    same_parents : parents_from (all nest first) c.index (c ∷ ds) ≡ parents_from (all nest first) c.index ds
    same_parents = ap (λ xs. map node_of (reverse xs)) (filter_same _ _ (all nest first) (λ y d. same_test _ _
        (λ t. let p = and_parts (nat_le c.index y.index) (is_parent_of_any (c ∷ ds) y) t in
        and_from _ _ p.0 (elim (or_cases (not (is_root_thing c.what) && y.index == holder_index c.holders) (is_parent_of_any ds y) p.1) [
          | inr u ↦ u
          | inl u ↦
              let q = and_parts (not (is_root_thing c.what)) (y.index == holder_index c.holders) u in
              let h = held_from c k (not_false (is_root_thing c.what) q.0) in
              absurd (omega (arith, leb-true c.index y.index p.0, eqb-true y.index (holder_index c.holders) q.1, h.1.index, h.1.after))
        ]))
        (λ t. let p = and_parts (nat_le c.index y.index) (is_parent_of_any ds y) t in
        and_from _ _ p.0 (or_right (not (is_root_thing c.what) && y.index == holder_index c.holders) _ p.1))))

    more : (next : ℕ → Bool) → ((level : ℕ) → next level ≡ list_any (waits c.index level) (c ∷ ds)) → Gathered (all nest first) (c ∷ ds) c.index next held
    more next h = record { among = among_more; passed = (omega arith, g.passed); waiting = h; gathered = g.gathered ∙ sym same_parents }

    pub root_more : kind_of c.what ≡ kinds.Root → Gathered (all nest first) (c ∷ ds) c.index flags held
    root_more r = more flags (λ level. g.waiting level ∙ ap (λ b. (not b && (length c.holders == level && nat_lt (holder_index c.holders) c.index))
        || list_any (waits c.index level) ds) (sym (kind_root c.what r)))

    pub other_more : is_root_thing c.what ≡ false → (next : ℕ → Bool) → (level : ℕ) → level ≡ length c.holders →
        ((l : ℕ) → next l ≡ cond (l == level) true (flags l)) → Gathered (all nest first) (c ∷ ds) c.index next held
    other_more r next level e h =
        let p = held_from c k r in
        let late : nat_lt (holder_index c.holders) c.index ≡ true = lt-ltb (holder_index c.holders) c.index (omega (arith, p.1.index, p.1.after)) in
        more next (λ l. h l ∙ by l (l == level) (length c.holders == l) refl refl
        ∙ ap₂ (λ a b. (not a && (length c.holders == l && b)) || list_any (waits c.index l) ds) (sym r) (sym late))
      where
        by : (l : ℕ) (b d : Bool) → (l == level) ≡ b → (length c.holders == l) ≡ d → cond b true (flags l) ≡ ((d && true) || list_any (waits c.index l) ds)
        by l true true i j = refl
        by l false false i j = g.waiting l
        by l true false i j = absurd (false≢true (sym j ∙ eq-eqb (length c.holders) l (sym e ∙ sym (eqb-true l level i))))
        by l false true i j = absurd (false≢true (sym i ∙ eq-eqb l level (sym (eqb-true (length c.holders) l j) ∙ sym e)))

  pub none_yet : (at : ℕ) (flags : ℕ → Bool) → ((l : ℕ) → flags l ≡ false) → Gathered (all nest first) [] at flags []
  none_yet at flags h = record {
    among = λ c k. absurd (omega (arith, k.1));
    passed = tt;
    waiting = h;
    gathered = sym (ap (λ xs. map node_of (reverse xs)) (none_of _ (all nest first) (λ y d t. false≢true (and_parts (nat_le at y.index) false t).1)));
  }

  -- The step.

  pub all_parents : (cs : List Entry) → AreContexts cs (all nest first) → (test : Test) →
      step_nodes axes.Parent test cs (all nest first) ≡ map node_of (filter (passes test false) (filter (is_parent_of_any cs) (all nest first)))
  all_parents cs k test = ap (λ xs. map node_of (filter (passes test false) xs))
      (union_by_indexes nest first n axes.Parent cs k.among ∙ parents_of_contexts nest first n cs k)

  pub turned_round : (cs : List Entry) (flags : ℕ → Bool) (held : List Node) → Gathered (all nest first) cs 0 flags held →
      reverse held ≡ map node_of (filter (is_parent_of_any cs) (all nest first))
  turned_round cs flags held g =
      ap reverse (g.gathered ∙ map_reverse (filter (λ y. nat_le 0 y.index && is_parent_of_any cs y) (all nest first)))
      ∙ reverse-reverse (map node_of (filter (λ y. nat_le 0 y.index && is_parent_of_any cs y) (all nest first)))
      ∙ ap (map node_of) (filter_same _ _ (all nest first) (λ y d. ap (λ b. b && is_parent_of_any cs y) (le-leb 0 y.index (omega arith))))

pub parents_among : (cs es : List Entry) → AreAmong (filter (is_parent_of_any cs) es) es
parents_among cs es = filtered_among (is_parent_of_any cs) es

-- the node before a context begins before it
pub before_earlier : (cs : List Entry) → Rises cs → (nodes : List Node) → map node_of cs ≡ nodes → (i : ℕ) (a : At cs i) → i < length cs →
    index_before nodes i ≤ a.entry.index
before_earlier cs r nodes e zero a h = omega arith
before_earlier cs r nodes e (suc i) a h =
    let d : Node = record { kind = kinds.Root; at = 0 } in
    let less : (slice_index_or (map node_of cs) i d).at < (slice_index_or (map node_of cs) (suc i) d).at = rising cs r i h in
    omega (arith, less, ap (λ (m : Node). m.at) (a.node d), ap (λ ns. (slice_index_or ns i d).at) e)
  where
    first_less : (c : Entry) (cs : List Entry) → Rises (c ∷ cs) → (i : ℕ) → suc i < length (c ∷ cs) →
        (slice_index_or (map node_of (c ∷ cs)) i (record { kind = kinds.Root; at = 0 })).at
        < (slice_index_or (map node_of (c ∷ cs)) (suc i) (record { kind = kinds.Root; at = 0 })).at
    first_less c [] r i h = absurd (omega (arith, h))
    first_less c (d ∷ cs) r zero h = r.0.0
    first_less c (d ∷ cs) r (suc i) h = first_less d cs r.1 i (omega (arith, h))

    rising : (cs : List Entry) → Rises cs → (i : ℕ) → suc i < length cs →
        (slice_index_or (map node_of cs) i (record { kind = kinds.Root; at = 0 })).at
        < (slice_index_or (map node_of cs) (suc i) (record { kind = kinds.Root; at = 0 })).at
    rising [] r i h = absurd (omega (arith, h))
    rising (c ∷ cs) r i h = first_less c cs r i h

-- Flags.

pub flag_none : (n : ℕ) (flags : List Bool) → flags ≡ replicate n false → (level : ℕ) → flagged flags level ≡ false
flag_none n flags e level = ap (λ fs. slice_index_or fs level false) e ∙ by n level
  where
    by : (n level : ℕ) → slice_index_or (replicate n false) level false ≡ false
    by zero level = refl
    by (suc n) zero = refl
    by (suc n) (suc level) = by n level

-- One record.

module _ (bytes : List ℕ) (nest : Forest) (at : ℕ) where
  pub no_node : None ≡ option_map node_of (at_index at (nodes_of bytes nest)) → NoneHolds (nodes_of bytes nest) at
  no_node h = λ y d p k. none_at (λ x. true) (nodes_of bytes nest) at h y d refl p

  module _ (node : Node) (h : Some node ≡ option_map node_of (at_index at (nodes_of bytes nest))) where
    kind_shown : kind_of (node_here bytes nest at node h).entry.what ≡ node.kind
    kind_shown = sym (ap (λ m. m.kind) (node_here bytes nest at node h).shown)

    pub at_root : node.kind ≡ kinds.Root → IsHolderAt (nodes_of bytes nest) at node 0
    at_root k =
        let z = node_here bytes nest at node h in
        record {
          entry = z.entry;
          there = z.there;
          index = z.index;
          shown = sym z.shown;
          kind = inl (kind_shown ∙ k);
          above = above_root z.entry (kind_root z.entry.what (kind_shown ∙ k));
        }

    pub at_element : node.kind ≡ kinds.Element → (level inside : ℕ) → inside ≡ level + 1 →
        ((e : Entry) → Identifies node.kind node.at e (nodes_of bytes nest) → level ≡ length e.holders) → IsHolderAt (nodes_of bytes nest) at node inside
    at_element k level inside i l =
        let z = node_here bytes nest at node h in
        let same : level ≡ length z.entry.holders = l z.entry (z.there, kind_shown, sym (ap (λ m. m.at) z.shown)) in
        record {
          entry = z.entry;
          there = z.there;
          index = z.index;
          shown = sym z.shown;
          kind = inr (kind_shown ∙ k);
          above = omega (arith, above_held z.entry (no_root_element z.entry.what (kind_shown ∙ k)), i, same);
        }

    pub at_other : is_nest nest ≡ true → (node.kind ≡ kinds.Root → ⊥) → (node.kind ≡ kinds.Element → ⊥) → NoneHolds (nodes_of bytes nest) at
    at_other n r e = λ y d p k.
        let z = node_here bytes nest at node h in
        let same : kind_of y.what ≡ node.kind = one_kind nest (first_place bytes) y z.entry d z.there (p ∙ sym z.index) ∙ kind_shown in
        elim k [
          | inl x ↦ r (sym same ∙ x)
          | inr x ↦ e (sym same ∙ x)
        ]

-- A context that is to wait.

module _ (nest : Forest) (first : ℕ) (n : is_nest nest ≡ true) (c : Entry) (k : Contains (all nest first) c) (ds : List Entry) (flags : ℕ → Bool)
    (held : List Node) (at : ℕ) (here : c.index ≡ at) (g : Gathered (all nest first) ds at flags held) where
  pub root_waits : kind_of c.what ≡ kinds.Root → Gathered (all nest first) (c ∷ ds) at flags held
  root_waits r =
      subst (λ m. Gathered (all nest first) (c ∷ ds) m flags held) here
      (root_more nest first n c k ds flags held (subst (λ m. Gathered (all nest first) ds m flags held) (sym here) g) r)

  pub other_waits : (kind_of c.what ≡ kinds.Root → ⊥) → (next : ℕ → Bool) → (level : ℕ) → level ≡ length c.holders →
      ((l : ℕ) → next l ≡ cond (l == level) true (flags l)) → Gathered (all nest first) (c ∷ ds) at next held
  other_waits r next level e h =
      subst (λ m. Gathered (all nest first) (c ∷ ds) m next held) here
      (other_more nest first n c k ds flags held (subst (λ m. Gathered (all nest first) ds m flags held) (sym here) g)
      (false_if (is_root_thing c.what) (λ t. r (root_kind c.what t))) next level e h)
