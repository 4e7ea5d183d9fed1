-- Going backward along the records, with a flag for each level at which contexts wait for their parent: their earlier siblings.
use Rattle.std.proofs.Common.{◌≡◌, ℕ, zero, suc, ◌+◌, ◌<◌, ◌≤◌, ◌⊎◌, Bool, true, false, cond, not, ◌&&◌, ◌||◌, ◌==◌, List, [], ◌∷◌, ◌++◌, length, map}
use Rattle.std.proofs.Common.{drop, reverse, refl, ap, ap₂, sym, ◌∙◌, subst, arith, filter, nat_lt, nat_le, inl, inr}
use Rattle.std.specs.List.{AllByRecursion as Each, Contains, list_any}
use Rattle.std.proofs.lemmas.Bool.{false≢true, and_parts, and_from, or_cases, or_right, cases_lt, ltb-true, leb-true, eqb-true, eq-eqb}
use Rattle.std.proofs.lemmas.Bool.{lt-ltb, le-leb}
use Rattle.std.proofs.lemmas.List.{reverse-reverse}
use Rattle.xml_model.specs.declared.Axis.TheVariants as axes
use Rattle.xml_model.specs.declared.Kind.{Kind}
use Rattle.xml_model.specs.declared.Kind.TheVariants as kinds
use Rattle.xml_model.specs.declared.Node.{Node}
use Rattle.xml_model.specs.Contexts.{AreContexts}
use Rattle.xml_model.specs.Laws.{holder_index, is_child_kind, is_child_thing, is_root_thing, nodes_above, same_parent}
use Rattle.xml_model.specs.Names.{Test, passes}
use Rattle.xml_model.specs.Nest.{Forest, is_nest}
use Rattle.xml_model.specs.Records.{records}
use Rattle.xml_model.specs.Scan.{level_of, record_at}
use Rattle.xml_model.specs.Tree.{Entry, all, kind_of}
use Rattle.xml_model.proofs.Contexts.{union_by_indexes}
use Rattle.xml_model.proofs.Each.{each_at}
use Rattle.xml_model.proofs.Filters.{any_in, any_out, any_same, filter_same, none_of, same_test}
use Rattle.xml_model.proofs.Indexes.{one_node}
use Rattle.xml_model.proofs.Inside.{above_held, above_root}
use Rattle.xml_model.proofs.Things.{child_kind, child_no_root, kind_root, no_root_element}
use Rattle.vtd_words.specs.Table.{node_of}
use Rattle.xpath_steps.specs.declared.forward.Sought.TheVariants as sought
use Rattle.xpath_steps.specs.Earlier.{children_among, earlier_from, is_earlier, Earlier}
use Rattle.xpath_steps.specs.Forward.{put_beside, put_inside, IsFloor, IsHere, NoneBegins}
use Rattle.xpath_steps.specs.Steps.{step_nodes}
use Rattle.xpath_steps.specs.Waits.{Gathered, IsHolderAt}
use Rattle.xpath_steps.proofs.AboveLemmas.{filtered_among, map_reverse}
use Rattle.xpath_steps.proofs.ParentLemmas.{false_if, none_any, none_gathered, none_waited, none_yet, one_more, other_waits, parent_gathered, held_from}
use Rattle.xpath_steps.proofs.ForwardLemmas.{at_one, same_holder, same_level}

-- Lists.

pub children_each : (cs : List Entry) → Each (λ c. is_child_thing c.what ≡ true) (children_among cs)
children_each [] = tt
children_each (c ∷ cs) = by (is_child_thing c.what) refl (children_each cs)
  where
    by : (b : Bool) → is_child_thing c.what ≡ b → Each (λ c. is_child_thing c.what ≡ true) (children_among cs) →
        Each (λ c. is_child_thing c.what ≡ true) (cond b (c ∷ children_among cs) (children_among cs))
    by true e rest = (e, rest)
    by false e rest = rest

any_among : (P : Entry → Bool) (cs : List Entry) → ((c : Entry) → P c ≡ true → is_child_thing c.what ≡ true) → list_any P (children_among cs) ≡ list_any P cs
any_among P [] h = refl
any_among P (c ∷ cs) h = by (is_child_thing c.what) refl (any_among P cs h)
  where
    by : (b : Bool) → is_child_thing c.what ≡ b → list_any P (children_among cs) ≡ list_any P cs →
        list_any P (cond b (c ∷ children_among cs) (children_among cs)) ≡ (P c || list_any P cs)
    by true e rest = ap (λ b. P c || b) rest
    by false e rest = rest ∙ ap (λ b. b || list_any P cs) (sym (false_if (P c) (λ t. false≢true (sym e ∙ h c t))))

child_of_two : (x y : Entry) → same_parent x y ≡ true → (is_child_thing x.what ≡ true) × (is_child_thing y.what ≡ true)
child_of_two x y t =
    let p = and_parts (is_child_thing x.what && is_child_thing y.what) (holder_index x.holders == holder_index y.holders) t in
    let q = and_parts (is_child_thing x.what) (is_child_thing y.what) p.0 in
    (q.0, q.1)

holder_of_two : (x y : Entry) → same_parent x y ≡ true → holder_index x.holders ≡ holder_index y.holders
holder_of_two x y t = eqb-true (holder_index x.holders) (holder_index y.holders)
    (and_parts (is_child_thing x.what && is_child_thing y.what) (holder_index x.holders == holder_index y.holders) t).1

module _ (nest : Forest) (first : ℕ) (n : is_nest nest ≡ true) where
  -- One record.

  -- the flag of what is directly in a node is cleared
  module _ (ds : List Entry) (at : ℕ) (flags : ℕ → Bool) (parents : List Node) (g : Gathered (all nest first) ds (suc at) flags parents)
      (node : Node) (inside : ℕ) (z : IsHolderAt (all nest first) at node inside)
      (next : ℕ → Bool) (h : (l : ℕ) → next l ≡ cond (l == inside) false (flags l)) where
    same_flags : flags inside ≡ false → (l : ℕ) → next l ≡ flags l
    same_flags f l = h l ∙ by (l == inside) refl
      where
        by : (b : Bool) → (l == inside) ≡ b → cond b false (flags l) ≡ flags l
        by true e = sym (ap flags (eqb-true l inside e) ∙ f)
        by false e = refl

    cleared : (ps : List Node) × Gathered (all nest first) ds at next ps
    cleared = by (flags inside) refl
      where
        by : (b : Bool) → flags inside ≡ b → (ps : List Node) × Gathered (all nest first) ds at next ps
        by true f = (parents ++ node ∷ [], parent_gathered nest first n ds at flags parents g node inside z f next h (parents ++ node ∷ []) refl)
        by false f =
            let w = none_waited nest first n ds at flags parents g node inside z f in (
              parents,
              record {
                among = w.among;
                passed = w.passed;
                waiting = λ level. same_flags f level ∙ w.waiting level;
                gathered = w.gathered;
              },
            )

  module _ (ds : List Entry) (at : ℕ) (flags : ℕ → Bool) (held : List Node) (g : Earlier (all nest first) ds (suc at) flags held) where
    pub none_earlier : NoneBegins (all nest first) at → Earlier (all nest first) ds at flags held
    none_earlier none = record {
      children = g.children;
      parents = g.parents;
      waiting = none_gathered nest first n ds at flags g.parents g.waiting (λ y d p k. none y d p);
      gathered = g.gathered ∙ sym (one_more nest first n (is_earlier ds) at
          ∙ ap (λ xs. earlier_from (all nest first) (suc at) ds ++ map node_of (reverse xs))
          (none_of _ (all nest first) (λ y d t. none y d (eqb-true y.index at (and_parts (y.index == at) (is_earlier ds y) t).0)))
          ∙ Rattle.std.proofs.Common.append-nil _);
    }

    module _ (node : Node) (level : ℕ) (z : IsHere (all nest first) at node level) where
      kind_is : kind_of z.entry.what ≡ node.kind
      kind_is = ap (λ m. m.kind) z.shown

      unmoved : {k : Kind} → (k ≡ kinds.Root → ⊥) → (k ≡ kinds.Element → ⊥) → node.kind ≡ k → (next : ℕ → Bool) → ((l : ℕ) → next l ≡ flags l) →
          (ps : List Node) × Gathered (all nest first) ds at next ps
      unmoved r t e next h =
          let w = none_gathered nest first n ds at flags g.parents g.waiting (λ y d p k.
          let same : y ≡ z.entry = one_node nest first y z.entry d z.there (p ∙ sym z.index) in
          elim k [
            | inl x ↦ r (sym e ∙ sym kind_is ∙ ap (λ (e : Entry). kind_of e.what) (sym same) ∙ x)
            | inr x ↦ t (sym e ∙ sym kind_is ∙ ap (λ (e : Entry). kind_of e.what) (sym same) ∙ x)
          ]) in (
            g.parents,
            record { among = w.among; passed = w.passed; waiting = λ l. h l ∙ w.waiting l; gathered = w.gathered },
          )

      let_go : (k : Kind) → node.kind ≡ k → (next : ℕ → Bool) → ((l : ℕ) → next l ≡ put_inside k level false flags l) →
          (ps : List Node) × Gathered (all nest first) ds at next ps
      let_go kinds.Root e next h = cleared ds at flags g.parents g.waiting node 0
          (record {
            entry = z.entry;
            there = z.there;
            index = z.index;
            shown = z.shown;
            kind = inl (kind_is ∙ e);
            above = above_root z.entry (kind_root z.entry.what (kind_is ∙ e));
          })
          next h
      let_go kinds.Element e next h = cleared ds at flags g.parents g.waiting node (suc level)
          (record {
            entry = z.entry;
            there = z.there;
            index = z.index;
            shown = z.shown;
            kind = inr (kind_is ∙ e);
            above = above_held z.entry (no_root_element z.entry.what (kind_is ∙ e)) ∙ ap suc z.held;
          })
          next h
      let_go kinds.Attribute e next h = unmoved (λ r. cc) (λ r. cc) e next h
      let_go kinds.Text e next h = unmoved (λ r. cc) (λ r. cc) e next h
      let_go kinds.Comment e next h = unmoved (λ r. cc) (λ r. cc) e next h
      let_go kinds.Instruction e next h = unmoved (λ r. cc) (λ r. cc) e next h

      -- a child has a later sibling among the contexts exactly where one waits at its level
      earlier_waits : is_child_thing z.entry.what ≡ true → is_earlier ds z.entry ≡ flags level
      earlier_waits c = any_same _ _ ds (λ x k. same_test _ _
          (λ t. let p = and_parts (same_parent x z.entry) (nat_lt z.entry.index x.index) t in
          let two = child_of_two x z.entry p.0 in
          let there = g.waiting.among x k in
          let h = holder_of_two x z.entry p.0 in
          let o = held_from nest first n z.entry z.there (child_no_root z.entry.what c) in
          and_from _ _ (ap not (child_no_root x.what two.0)) (and_from _ _
          (eq-eqb (length x.holders) level (same_level nest first n x z.entry there z.there (child_no_root x.what two.0) (child_no_root z.entry.what c) h ∙ z.held))
          (lt-ltb (holder_index x.holders) (suc at) (omega (arith, h, o.1.index, o.1.after, z.index)))))
          (λ t. let p = and_parts (not (is_root_thing x.what)) _ t in
          let q = and_parts (length x.holders == level) (nat_lt (holder_index x.holders) (suc at)) p.1 in
          let there = g.waiting.among x k in
          let child : is_child_thing x.what ≡ true = each_at (λ c. is_child_thing c.what ≡ true) ds x g.children k in
          let late : suc at ≤ x.index = each_at (λ c. suc at ≤ c.index) ds x g.waiting.passed k in
          let l : length x.holders ≡ level = eqb-true (length x.holders) level q.0 in
          let o = held_from nest first n x there (child_no_root x.what child) in
          let above : holder_index x.holders < z.entry.index = elim (cases_lt (holder_index x.holders) z.entry.index) [
            | inl less ↦ less
            | inr more ↦
                let same : o.0 ≡ z.entry = one_node nest first o.0 z.entry o.1.there z.there
                (omega (arith, o.1.index, more, z.index, ltb-true (holder_index x.holders) (suc at) q.1)) in
                let m : nodes_above z.entry ≡ length x.holders = ap nodes_above (sym same) ∙ o.1.level in
                absurd (omega (arith, m, l, z.held, above_held z.entry (child_no_root z.entry.what c)))
          ] in
          let one = same_holder nest first n z.entry x z.there there (child_no_root z.entry.what c) (child_no_root x.what child) above
          (omega (arith, z.index, late)) (z.held ∙ sym l) in
          and_from _ _ (and_from _ _ (and_from _ _ child c) (eq-eqb (holder_index x.holders) (holder_index z.entry.holders) (sym one)))
          (lt-ltb z.entry.index x.index (omega (arith, z.index, late)))))
          ∙ sym (g.waiting.waiting level)

      earlier_is : is_earlier ds z.entry ≡ (is_child_kind node.kind && flags level)
      earlier_is = by (is_child_thing z.entry.what) refl ∙ ap (λ b. b && flags level) (child_kind z.entry.what ∙ ap is_child_kind kind_is)
        where
          by : (b : Bool) → is_child_thing z.entry.what ≡ b → is_earlier ds z.entry ≡ (b && flags level)
          by true c = earlier_waits c
          by false c = none_any _ ds (λ x k t. false≢true (sym c
              ∙ (child_of_two x z.entry (and_parts (same_parent x z.entry) (nat_lt z.entry.index x.index) t).0).1))

      pub earlier_passed : (next : ℕ → Bool) → ((l : ℕ) → next l ≡ put_inside node.kind level false flags l) → (new : List Node) →
          new ≡ held ++ cond (is_child_kind node.kind && flags level) (node ∷ []) [] → Earlier (all nest first) ds at next new
      earlier_passed next h new e =
          let w = let_go node.kind refl next h in
          record {
            children = g.children;
            parents = w.0;
            waiting = w.1;
            gathered = e ∙ ap₂ (λ xs ys. xs ++ ys) g.gathered
                (ap (λ m. cond (is_child_kind node.kind && flags level) (m ∷ []) []) (sym z.shown)
                ∙ shown (is_child_kind node.kind && flags level)
                ∙ ap (λ b. map node_of (reverse (cond b (z.entry ∷ []) []))) (sym earlier_is)
                ∙ sym (ap (λ xs. map node_of (reverse xs)) (at_one nest first n (is_earlier ds) at z.entry z.there z.index)))
                ∙ sym (one_more nest first n (is_earlier ds) at);
          }
        where
          shown : (b : Bool) → cond b (node_of z.entry ∷ []) [] ≡ map node_of (reverse (cond b (z.entry ∷ []) []))
          shown true = refl
          shown false = refl

  -- One context more.

  module _ (c : Entry) (k : Contains (all nest first) c) (ds : List Entry) (flags : ℕ → Bool) (held : List Node) (at : ℕ) (here : c.index ≡ at)
      (g : Earlier (all nest first) (children_among ds) at flags held) (level : ℕ) (l : level ≡ length c.holders)
      (next : ℕ → Bool) (h : (m : ℕ) → next m ≡ put_beside (kind_of c.what) level true flags m) where
    same_earlier : earlier_from (all nest first) at (c ∷ children_among ds) ≡ earlier_from (all nest first) at (children_among ds)
    same_earlier = ap (λ xs. map node_of (reverse xs)) (filter_same _ _ (all nest first) (λ y d. same_test _ _
        (λ t. let p = and_parts (nat_le at y.index) (is_earlier (c ∷ children_among ds) y) t in
        and_from _ _ p.0 (elim (or_cases (same_parent c y && nat_lt y.index c.index) (is_earlier (children_among ds) y) p.1) [
          | inr u ↦ u
          | inl u ↦ absurd (omega (
            arith,
            leb-true at y.index p.0,
            here,
            ltb-true y.index c.index (and_parts (same_parent c y) (nat_lt y.index c.index) u).1,
          ))
        ]))
        (λ t. let p = and_parts (nat_le at y.index) (is_earlier (children_among ds) y) t in
        and_from _ _ p.0 (or_right (same_parent c y && nat_lt y.index c.index) _ p.1))))

    pub context_waits : Earlier (all nest first) (children_among (c ∷ ds)) at next held
    context_waits = by (is_child_thing c.what) refl
      where
        by : (b : Bool) → is_child_thing c.what ≡ b → Earlier (all nest first) (cond b (c ∷ children_among ds) (children_among ds)) at next held
        by true e = record {
          children = (e, g.children);
          parents = g.parents;
          waiting = other_waits nest first n c k (children_among ds) flags g.parents at here g.waiting
              (λ r. false≢true (sym (child_no_root c.what e) ∙ kind_root c.what r)) next level l
              (λ m. h m ∙ ap (λ b. cond (b && m == level) true (flags m)) (sym (child_kind c.what) ∙ e));
          gathered = g.gathered ∙ sym same_earlier;
        }
        by false e = record {
          children = g.children;
          parents = g.parents;
          waiting = record {
            among = g.waiting.among;
            passed = g.waiting.passed;
            waiting = λ m. h m ∙ ap (λ b. cond (b && m == level) true (flags m)) (sym (child_kind c.what) ∙ e) ∙ g.waiting.waiting m;
            gathered = g.waiting.gathered;
          };
          gathered = g.gathered;
        }

  pub none_yet_earlier : (at : ℕ) (flags : ℕ → Bool) → ((l : ℕ) → flags l ≡ false) → Earlier (all nest first) [] at flags []
  none_yet_earlier at flags h = record {
    children = tt;
    parents = [];
    waiting = none_yet nest first n at flags h;
    gathered = sym (ap (λ xs. map node_of (reverse xs)) (none_of _ (all nest first) (λ y d t. false≢true (and_parts (nat_le at y.index) false t).1)));
  }

  -- The end.

  module _ (cs : List Entry) (k : AreContexts cs (all nest first)) where
    is_earlier_among : (y : Entry) → is_earlier (children_among cs) y ≡ is_earlier cs y
    is_earlier_among y = any_among (λ c. same_parent c y && nat_lt y.index c.index) cs
        (λ c t. (child_of_two c y (and_parts (same_parent c y) (nat_lt y.index c.index) t).0).0)

    -- below records of a level below that of all contexts no sibling of one is left
    none_left : (floor at : ℕ) → IsFloor sought.LaterSiblings cs (all nest first) floor → Each (λ c. at ≤ c.index) (children_among cs) →
        ((m : ℕ) → at ≡ suc m → 0 < at → level_of (record_at m (records nest first)) < floor) →
        (y : Entry) → Contains (all nest first) y → y.index < at → is_earlier (children_among cs) y ≡ true → ⊥
    none_left floor zero f a h y d l t = omega (arith, l)
    none_left floor (suc m) f a h y d l t =
        let o = any_out (λ c. same_parent c y && nat_lt y.index c.index) (children_among cs) t in
        let x = o.entry in
        let p = and_parts (same_parent x y) (nat_lt y.index x.index) o.passes in
        let two = child_of_two x y p.0 in
        let u = any_out (λ c. same_parent c y && nat_lt y.index c.index) cs (sym (is_earlier_among y) ∙ t) in
        let v = and_parts (same_parent u.entry y) (nat_lt y.index u.entry.index) u.passes in
        let late : suc m ≤ x.index = each_at (λ c. suc m ≤ c.index) (children_among cs) x a o.there in
        let low : level_of (record_at m (records nest first)) < floor = h m refl (omega arith) in
        let high : floor ≤ length y.holders = f y (suc u.entry.index) d two.1 (any_in (λ c. same_parent c y && nat_lt c.index (suc u.entry.index)) cs u.entry u.there
        (and_from _ _ v.0 (lt-ltb u.entry.index (suc u.entry.index) (omega arith)))) in
        let there : Contains (all nest first) x = k.among x (filtered_among (λ c. is_child_thing c.what) cs x o.there) in
        let e = held_from nest first n x there (child_no_root x.what two.0) in
        let b = held_from nest first n y d (child_no_root y.what two.1) in
        let one = holder_of_two x y p.0 in
        let same = same_level nest first n x y there d (child_no_root x.what two.0) (child_no_root y.what two.1) one in
        let inside : length x.holders ≤ level_of (record_at m (records nest first)) =
        e.1.holds.inside m (omega (arith, e.1.index, one, b.1.index, b.1.after, l)) (omega (arith, late, e.1.before)) in
        omega (arith, low, high, inside, same)

    pub all_earlier : (floor at : ℕ) → IsFloor sought.LaterSiblings cs (all nest first) floor → (flags : ℕ → Bool) (held : List Node) →
        Earlier (all nest first) (children_among cs) at flags held →
        ((m : ℕ) → at ≡ suc m → 0 < at → level_of (record_at m (records nest first)) < floor) →
        reverse held ≡ map node_of (filter (is_earlier cs) (all nest first))
    all_earlier floor at f flags held g h =
        let es = all nest first in
        let P = λ (y : Entry). nat_le at y.index && is_earlier (children_among cs) y in
        ap reverse (g.gathered ∙ map_reverse (filter P es)) ∙ reverse-reverse (map node_of (filter P es))
        ∙ ap (map node_of) (filter_same P (is_earlier cs) es (λ y d. same_test _ _
        (λ t. sym (is_earlier_among y) ∙ (and_parts (nat_le at y.index) (is_earlier (children_among cs) y) t).1)
        (λ t. let u = is_earlier_among y ∙ t in
        and_from _ _ (elim (cases_lt y.index at) [
          | inl less ↦ absurd (none_left floor at f g.waiting.passed h y d less u)
          | inr more ↦ le-leb at y.index more
        ]) u)))

  pub all_earlier_siblings : (cs : List Entry) → AreContexts cs (all nest first) → (test : Test) →
      step_nodes axes.PrecedingSibling test cs (all nest first) ≡ map node_of (filter (passes test false) (filter (is_earlier cs) (all nest first)))
  all_earlier_siblings cs k test = ap (λ xs. map node_of (filter (passes test false) xs))
      (union_by_indexes nest first n axes.PrecedingSibling cs k.among)

pub siblings_among : (cs es : List Entry) → Rattle.xpath_steps.specs.Steps.AreAmong (filter (is_earlier cs) es) es
siblings_among cs es = filtered_among (is_earlier cs) es

pub each_if : (P : Node → Type 0) (b : Bool) (x : Node) → P x → Each P (cond b (x ∷ []) [])
each_if P true x h = (h, tt)
each_if P false x h = tt

-- of no contexts there are no siblings
pub no_siblings : (cs es : List Entry) → length cs ≡ 0 → map node_of (filter (is_earlier cs) es) ≡ []
no_siblings [] es h = ap (map node_of) (none_of _ es (λ y d t. false≢true t))
no_siblings (c ∷ cs) es h = absurd (omega (arith, h))
