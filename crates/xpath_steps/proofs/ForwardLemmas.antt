-- Going forward along the records, with a flag for each level.
use Rattle.std.proofs.Common.{◌≡◌, ℕ, zero, suc, ◌+◌, ◌<◌, ◌≤◌, ◌⊎◌, Bool, true, false, cond, not, ◌&&◌, ◌||◌, ◌==◌, List, [], ◌∷◌, ◌++◌, length, map}
use Rattle.std.proofs.Common.{drop, refl, ap, ap₂, sym, ◌∙◌, subst, arith, filter, nat_lt, nat_le, inl, inr, min, Some, None, option_map}
use Rattle.std.specs.List.{AllByRecursion as Each, Contains, list_any}
use Rattle.std.proofs.lemmas.Bool.{false≢true, and_parts, and_from, or_cases, or_left, or_right, cases_lt, ltb-true, eqb-true, eq-eqb}
use Rattle.std.proofs.lemmas.Bool.{lt-ltb}
use Rattle.std.proofs.lemmas.List.{map-append, drop_all}
use Rattle.xml_model.specs.declared.Axis.TheVariants as axes
use Rattle.xml_model.specs.declared.Kind.{Kind}
use Rattle.xml_model.specs.declared.Kind.TheVariants as kinds
use Rattle.xml_model.specs.declared.Node.{Node}
use Rattle.xml_model.specs.Contexts.{is_index_of, AreContexts, Rises}
use Rattle.xml_model.specs.Laws.{holder_index, is_child_kind, is_child_thing, is_one_under, is_root_thing, is_under, nodes_above, same_parent}
use Rattle.xml_model.specs.Names.{Test, passes}
use Rattle.xml_model.specs.Nest.{Forest, is_nest}
use Rattle.xml_model.specs.Records.{records}
use Rattle.xml_model.specs.Scan.{level_of, record_at}
use Rattle.xml_model.specs.Tree.{Entry, Identifies, all, at_index, kind_of}
use Rattle.xml_model.proofs.Contexts.{union_by_indexes, children_of_contexts}
use Rattle.xml_model.proofs.Each.{contains_here, contains_next, each_at, each_more}
use Rattle.xml_model.proofs.Filters.{any_in, any_out, any_same, filter_same, none_of, one_here, same_test, split_or}
use Rattle.xml_model.proofs.Indexes.{all_rise, one_node}
use Rattle.xml_model.proofs.Inside.{above_held, above_root}
use Rattle.xml_model.proofs.NodeLaws.{axis_of_two, holder_of_node, parent_of_node}
use Rattle.xml_model.proofs.Things.{child_kind, child_no_root, kind_root, no_root_element}
use Rattle.xml_model.proofs.TreeOrder.{in_order, under_is}
use Rattle.vtd_words.specs.Table.{node_of, nodes_of}
use Rattle.vtd_words.proofs.Found.{none_at}
use Rattle.xpath_axes.proofs.WalkLemmas.{node_here}
use Rattle.xpath_steps.specs.declared.forward.Sought.{Sought}
use Rattle.xpath_steps.specs.declared.forward.Sought.TheVariants as sought
use Rattle.xpath_steps.specs.Forward.{asked_before, axis_of, first_index, is_asked, marked, own_floor, put_inside}
use Rattle.xpath_steps.specs.Forward.{IsFloor, IsHere, NoneBegins, Passed}
use Rattle.xpath_steps.specs.Steps.{step_nodes}
use Rattle.xpath_steps.specs.Waits.{IsHolderAt}
use Rattle.xpath_steps.proofs.ParentLemmas.{false_if, none_any, held_from, level_inside, holder_here}
use Rattle.xpath_steps.proofs.StepLemmas.{At}

-- Flags.

put_in : (k : Kind) (level : ℕ) (b : Bool) (flags : ℕ → Bool) (l : ℕ) → (k ≡ kinds.Root → l ≡ 0) → (k ≡ kinds.Element → l ≡ suc level) →
    (k ≡ kinds.Root) ⊎ (k ≡ kinds.Element) → put_inside k level b flags l ≡ b
put_in kinds.Root level b flags l r e o = ap (λ c. cond c b (flags l)) (eq-eqb l 0 (r refl))
put_in kinds.Element level b flags l r e o = ap (λ c. cond c b (flags l)) (eq-eqb l (suc level) (e refl))
put_in kinds.Attribute level b flags l r e o = elim o [ inl x ↦ absurd cc | inr x ↦ absurd cc ]
put_in kinds.Text level b flags l r e o = elim o [ inl x ↦ absurd cc | inr x ↦ absurd cc ]
put_in kinds.Comment level b flags l r e o = elim o [ inl x ↦ absurd cc | inr x ↦ absurd cc ]
put_in kinds.Instruction level b flags l r e o = elim o [ inl x ↦ absurd cc | inr x ↦ absurd cc ]

pub put_off : (k : Kind) (level : ℕ) (b : Bool) (flags : ℕ → Bool) (l : ℕ) → (k ≡ kinds.Root → l ≡ 0 → ⊥) → (k ≡ kinds.Element → l ≡ suc level → ⊥) →
    put_inside k level b flags l ≡ flags l
put_off kinds.Root level b flags l r e = ap (λ c. cond c b (flags l)) (false_if (l == 0) (λ t. r refl (eqb-true l 0 t)))
put_off kinds.Element level b flags l r e = ap (λ c. cond c b (flags l)) (false_if (l == suc level) (λ t. e refl (eqb-true l (suc level) t)))
put_off kinds.Attribute level b flags l r e = refl
put_off kinds.Text level b flags l r e = refl
put_off kinds.Comment level b flags l r e = refl
put_off kinds.Instruction level b flags l r e = refl

root_is_none : (k : Kind) → k ≡ kinds.Root → is_child_kind k ≡ true → ⊥
root_is_none k r c = false≢true (sym (ap is_child_kind r) ∙ c)

-- Two nodes of a tree.

module _ (nest : Forest) (first : ℕ) (n : is_nest nest ≡ true) where
  -- what one node holds is of one level
  pub same_level : (x y : Entry) → Contains (all nest first) x → Contains (all nest first) y → is_root_thing x.what ≡ false →
      is_root_thing y.what ≡ false → holder_index x.holders ≡ holder_index y.holders → length x.holders ≡ length y.holders
  same_level x y c d r q h =
      let p = held_from nest first n x c r in
      let o = held_from nest first n y d q in
      let same : p.0 ≡ o.0 = one_node nest first p.0 o.0 p.1.there o.1.there (p.1.index ∙ h ∙ sym o.1.index) in
      sym p.1.level ∙ ap nodes_above same ∙ o.1.level

  -- of two nodes of a level, what holds the later one holds the earlier one where it begins before it
  pub same_holder : (x y : Entry) → Contains (all nest first) x → Contains (all nest first) y → is_root_thing x.what ≡ false →
      is_root_thing y.what ≡ false → holder_index y.holders < x.index → x.index < y.index → length x.holders ≡ length y.holders →
      holder_index x.holders ≡ holder_index y.holders
  same_holder x y c d r q a b l =
      let p = held_from nest first n y d q in
      let under : is_under p.0 x ≡ true = under_is p.0 x (omega (arith, p.1.index, a)) (omega (arith, b, p.1.before)) in
      let one : is_one_under p.0 x ≡ true = and_from _ _ under (eq-eqb (nodes_above x) (suc (nodes_above p.0)) (omega (arith, above_held x r, p.1.level, l))) in
      let at : (not (is_root_thing x.what) && p.0.index == holder_index x.holders) ≡ true =
      ap (λ m. not (is_root_thing x.what) && p.0.index == m) (sym (holder_of_node nest first n x c))
      ∙ sym (parent_of_node nest first n x p.0 c p.1.there) ∙ axis_of_two nest first n axes.Parent x p.0 c p.1.there ∙ one in
      sym (eqb-true p.0.index (holder_index x.holders) (and_parts (not (is_root_thing x.what)) (p.0.index == holder_index x.holders) at).1) ∙ p.1.index

  -- The node at an index.

  pub at_one : (P : Entry → Bool) (at : ℕ) (z : Entry) → Contains (all nest first) z → z.index ≡ at →
      filter (λ y. y.index == at && P y) (all nest first) ≡ filter P (z ∷ [])
  at_one P at z d h = by (P z) refl
    where
      by : (b : Bool) → P z ≡ b → filter (λ y. y.index == at && P y) (all nest first) ≡ cond (P z) (z ∷ []) []
      by true t = one_here P at (all nest first) (all_rise nest first) z d h t ∙ sym (ap (λ c. cond c (z ∷ []) []) t)
      by false t = none_of _ (all nest first) (λ y k u.
          let p = and_parts (y.index == at) (P y) u in
          let same : y ≡ z = one_node nest first y z k d (eqb-true y.index at p.0 ∙ sym h) in
          false≢true (sym t ∙ ap P (sym same) ∙ p.1))
          ∙ sym (ap (λ c. cond c (z ∷ []) []) t)

  one_on : (P : Entry → Bool) (at : ℕ) →
      map node_of (filter (λ y. nat_lt y.index (suc at) && P y) (all nest first))
      ≡ map node_of (filter (λ y. nat_lt y.index at && P y) (all nest first)) ++ map node_of (filter (λ y. y.index == at && P y) (all nest first))
  one_on P at =
      let es = all nest first in
      let A = λ (y : Entry). nat_lt y.index at && P y in
      let B = λ (y : Entry). y.index == at && P y in
      ap (map node_of) (filter_same _ (λ y. A y || B y) es (λ y d. same_test _ _
      (λ t. let p = and_parts (nat_lt y.index (suc at)) (P y) t in
      elim (cases_lt y.index at) [
        | inl less ↦ or_left _ _ (and_from _ _ (lt-ltb y.index at less) p.1)
        | inr more ↦ or_right (A y) _ (and_from _ _ (eq-eqb y.index at (omega (arith, more, ltb-true y.index (suc at) p.0))) p.1)
      ])
      (λ t. elim (or_cases (A y) (B y) t) [
        | inl u ↦ let p = and_parts (nat_lt y.index at) (P y) u in
            and_from _ _ (lt-ltb y.index (suc at) (omega (arith, ltb-true y.index at p.0))) p.1
        | inr u ↦ let p = and_parts (y.index == at) (P y) u in
            let is : y.index ≡ at = eqb-true y.index at p.0 in and_from _ _ (lt-ltb y.index (suc at) (omega (arith, is))) p.1
      ]))
      ∙ split_or A B at es (all_rise nest first)
      (λ y d t. ltb-true y.index at (and_parts (nat_lt y.index at) (P y) t).0)
      (λ y d t. let is : y.index ≡ at = eqb-true y.index at (and_parts (y.index == at) (P y) t).0 in omega (arith, is)))
      ∙ map-append node_of (filter A es) (filter B es)

  -- One record.

  module _ (s : Sought) (cs : List Entry) (k : AreContexts cs (all nest first)) (test : Test) (at : ℕ) (flags : ℕ → Bool) (held : List Node)
      (g : Passed s cs (all nest first) test at flags held) where
    abbrev wanted : Entry → Bool
    wanted y = is_child_thing y.what && (is_asked s cs y.index y && passes test false y)

    -- what asks before an index, and what asks at it
    asked_same : (y : Entry) → ((c : Entry) → Contains cs c → same_parent c y ≡ true → c.index ≡ at → ⊥) → is_asked s cs at y ≡ is_asked s cs (suc at) y
    asked_same y none = by s
      where
        by : (s : Sought) → is_asked s cs at y ≡ is_asked s cs (suc at) y
        by sought.Children = refl
        by sought.LaterSiblings = any_same _ _ cs (λ c d. same_test _ _
            (λ t. let p = and_parts (same_parent c y) (nat_lt c.index at) t in
            and_from _ _ p.0 (lt-ltb c.index (suc at) (omega (arith, ltb-true c.index at p.1))))
            (λ t. let p = and_parts (same_parent c y) (nat_lt c.index (suc at)) t in
            and_from _ _ p.0 (elim (cases_lt c.index at) [
              | inl less ↦ lt-ltb c.index at less
              | inr more ↦ absurd (none c d p.0 (omega (arith, more, ltb-true c.index (suc at) p.1)))
            ])))

    pub none_passed : NoneBegins (all nest first) at → Passed s cs (all nest first) test (suc at) flags held
    none_passed none = record {
      shown = λ y d c l h.
          let p = held_from nest first n y d (child_no_root y.what c) in
          let before : holder_index y.holders < at = elim (cases_lt (holder_index y.holders) at) [
            | inl less ↦ less
            | inr more ↦ absurd (none p.0 p.1.there (omega (arith, p.1.index, more, h)))
          ] in
          g.shown y d c (omega (arith, l)) before ∙ asked_same y (λ x e t is. none x (k.among x e) is);
      gathered = g.gathered ∙ sym (one_on wanted at
          ∙ ap (λ xs. asked_before s cs test at (all nest first) ++ map node_of xs)
          (none_of _ (all nest first) (λ y d t. none y d (eqb-true y.index at (and_parts (y.index == at) (wanted y) t).0)))
          ∙ Rattle.std.proofs.Common.append-nil _);
    }

    module _ (node : Node) (level : ℕ) (z : IsHere (all nest first) at node level) (context : Bool) (is : is_index_of cs at ≡ context) where
      kind_is : kind_of z.entry.what ≡ node.kind
      kind_is = ap (λ m. m.kind) z.shown

      as_root : node.kind ≡ kinds.Root → IsHolderAt (all nest first) at node 0
      as_root h = record {
        entry = z.entry;
        there = z.there;
        index = z.index;
        shown = z.shown;
        kind = inl (kind_is ∙ h);
        above = above_root z.entry (kind_root z.entry.what (kind_is ∙ h));
      }

      as_tag : node.kind ≡ kinds.Element → IsHolderAt (all nest first) at node (suc level)
      as_tag h = record {
        entry = z.entry;
        there = z.there;
        index = z.index;
        shown = z.shown;
        kind = inr (kind_is ∙ h);
        above = above_held z.entry (no_root_element z.entry.what (kind_is ∙ h)) ∙ ap suc z.held;
      }

      -- what is directly in the node
      module _ (y : Entry) (d : Contains (all nest first) y) (c : is_child_thing y.what ≡ true) (late : at < y.index) where
        no_root : is_root_thing y.what ≡ false
        no_root = child_no_root y.what c

        its_kind : holder_index y.holders ≡ at → (node.kind ≡ kinds.Root) ⊎ (node.kind ≡ kinds.Element)
        its_kind h =
            let p = held_from nest first n y d no_root in
            let same : p.0 ≡ z.entry = one_node nest first p.0 z.entry p.1.there z.there (p.1.index ∙ h ∙ sym z.index) in
            elim p.1.kind [
              | inl x ↦ inl (sym kind_is ∙ ap (λ (e : Entry). kind_of e.what) (sym same) ∙ x)
              | inr x ↦ inr (sym kind_is ∙ ap (λ (e : Entry). kind_of e.what) (sym same) ∙ x)
            ]

        in_it : (b : Bool) → holder_index y.holders ≡ at → put_inside node.kind level b flags (length y.holders) ≡ b
        in_it b h = put_in node.kind level b flags (length y.holders)
            (λ r. level_inside nest first n at node 0 (as_root r) y d no_root h)
            (λ e. level_inside nest first n at node (suc level) (as_tag e) y d no_root h)
            (its_kind h)

        not_in_it : (b : Bool) → holder_index y.holders < at → put_inside node.kind level b flags (length y.holders) ≡ flags (length y.holders)
        not_in_it b h = put_off node.kind level b flags (length y.holders)
            (λ r l. let same = holder_here nest first n at node 0 (as_root r) y d no_root late l (omega (arith, h)) in omega (arith, h, same))
            (λ e l. let same = holder_here nest first n at node (suc level) (as_tag e) y d no_root late l (omega (arith, h)) in omega (arith, h, same))

        -- a context that is directly in what holds it asks for it exactly where the node is a child of its level
        asks : (x : Entry) → Contains cs x → same_parent x y ≡ true → x.index ≡ at →
            ((context && is_child_kind node.kind) && length y.holders == level) ≡ true
        asks x e t h =
            let p = and_parts (is_child_thing x.what && is_child_thing y.what) (holder_index x.holders == holder_index y.holders) t in
            let q = and_parts (is_child_thing x.what) (is_child_thing y.what) p.0 in
            let there = k.among x e in
            let same : x ≡ z.entry = one_node nest first x z.entry there z.there (h ∙ sym z.index) in
            and_from _ _ (and_from _ _
            (sym is ∙ any_in (λ c. c.index == at) cs x e (eq-eqb x.index at h))
            (ap is_child_kind (sym kind_is ∙ ap (λ (e : Entry). kind_of e.what) (sym same)) ∙ sym (child_kind x.what) ∙ q.0))
            (eq-eqb (length y.holders) level (sym (same_level x y there d (child_no_root x.what q.0) no_root
            (eqb-true (holder_index x.holders) (holder_index y.holders) p.1)) ∙ ap (λ (e : Entry). length e.holders) same ∙ z.held))

        asked_for : holder_index y.holders < at → ((context && is_child_kind node.kind) && length y.holders == level) ≡ true →
            list_any (λ x. same_parent x y && nat_lt x.index (suc at)) cs ≡ true
        asked_for h t =
            let p = and_parts (context && is_child_kind node.kind) (length y.holders == level) t in
            let q = and_parts context (is_child_kind node.kind) p.0 in
            let o = any_out (λ x. x.index == at) cs (is ∙ q.0) in
            let x = o.entry in
            let there = k.among x o.there in
            let index : x.index ≡ at = eqb-true x.index at o.passes in
            let same : x ≡ z.entry = one_node nest first x z.entry there z.there (index ∙ sym z.index) in
            let child : is_child_thing x.what ≡ true = child_kind x.what ∙ ap is_child_kind (ap (λ (e : Entry). kind_of e.what) same ∙ kind_is) ∙ q.1 in
            any_in (λ x. same_parent x y && nat_lt x.index (suc at)) cs x o.there
            (and_from _ _ (and_from _ _ (and_from _ _ child c) (eq-eqb (holder_index x.holders) (holder_index y.holders)
            (same_holder x y there d (child_no_root x.what child) no_root (omega (arith, h, index)) (omega (arith, index, late))
            (ap (λ (e : Entry). length e.holders) same ∙ z.held ∙ sym (eqb-true (length y.holders) level p.1)))))
            (lt-ltb x.index (suc at) (omega (arith, index))))

      -- flags after the node
      open_on : (y : Entry) → Contains (all nest first) y → is_child_thing y.what ≡ true → suc at ≤ y.index → holder_index y.holders < suc at →
          marked s node.kind level context flags (length y.holders) ≡ is_asked s cs (suc at) y
      open_on y d c late h = by s g
        where
          after : at < y.index
          after = omega (arith, late)

          siblings : Passed sought.LaterSiblings cs (all nest first) test at flags held → (b : Bool) →
              ((context && is_child_kind node.kind) && length y.holders == level) ≡ b →
              cond b true (put_inside node.kind level false flags (length y.holders)) ≡ list_any (λ x. same_parent x y && nat_lt x.index (suc at)) cs
          siblings g true t = elim (cases_lt (holder_index y.holders) at) [
            | inl less ↦ sym (asked_for y d c after less t)
            | inr more ↦
                let from : holder_index y.holders ≡ at = omega (arith, more, h) in
                let p = and_parts (context && is_child_kind node.kind) (length y.holders == level) t in
                let q = and_parts context (is_child_kind node.kind) p.0 in
                let l : length y.holders ≡ level = eqb-true (length y.holders) level p.1 in
                absurd (elim (its_kind y d c after from) [
                  | inl r ↦ root_is_none node.kind r q.1
                  | inr e ↦ let m = level_inside nest first n at node (suc level) (as_tag e) y d (child_no_root y.what c) from in omega (arith, m, l)
                ])
          ]
          siblings g false t = elim (cases_lt (holder_index y.holders) at) [
            | inl less ↦ not_in_it y d c after false less ∙ g.shown y d c (omega (arith, late)) less
                ∙ any_same _ _ cs (λ x e. same_test _ _
                (λ u. let p = and_parts (same_parent x y) (nat_lt x.index at) u in
                and_from _ _ p.0 (lt-ltb x.index (suc at) (omega (arith, ltb-true x.index at p.1))))
                (λ u. let p = and_parts (same_parent x y) (nat_lt x.index (suc at)) u in
                and_from _ _ p.0 (elim (cases_lt x.index at) [
                  | inl less ↦ lt-ltb x.index at less
                  | inr more ↦ absurd (false≢true (sym t ∙ asks y d c after x e p.0 (omega (arith, more, ltb-true x.index (suc at) p.1))))
                ])))
            | inr more ↦
                let from : holder_index y.holders ≡ at = omega (arith, more, h) in
                in_it y d c after false from ∙ sym (none_any _ cs (λ x e u.
                let p = and_parts (same_parent x y) (nat_lt x.index (suc at)) u in
                let q = and_parts (is_child_thing x.what && is_child_thing y.what) (holder_index x.holders == holder_index y.holders) p.0 in
                let r = and_parts (is_child_thing x.what) (is_child_thing y.what) q.0 in
                let o = held_from nest first n x (k.among x e) (child_no_root x.what r.0) in
                omega (arith, o.1.after, o.1.index, eqb-true (holder_index x.holders) (holder_index y.holders) q.1, from, ltb-true x.index (suc at) p.1)))
          ]

          by : (s : Sought) → Passed s cs (all nest first) test at flags held →
              marked s node.kind level context flags (length y.holders) ≡ is_asked s cs (suc at) y
          by sought.Children g = elim (cases_lt (holder_index y.holders) at) [
            | inl less ↦ not_in_it y d c after context less ∙ g.shown y d c (omega (arith, late)) less
            | inr more ↦
                let from : holder_index y.holders ≡ at = omega (arith, more, h) in
                in_it y d c after context from ∙ sym is ∙ ap (is_index_of cs) (sym from)
          ]
          by sought.LaterSiblings g = siblings g ((context && is_child_kind node.kind) && length y.holders == level) refl

      wanted_is : wanted z.entry ≡ (is_child_thing z.entry.what && (flags level && passes test false z.entry))
      wanted_is = by (is_child_thing z.entry.what) refl
        where
          by : (b : Bool) → is_child_thing z.entry.what ≡ b →
              (b && (is_asked s cs z.entry.index z.entry && passes test false z.entry)) ≡ (b && (flags level && passes test false z.entry))
          by true c =
              let p = held_from nest first n z.entry z.there (child_no_root z.entry.what c) in
              let asked : flags (length z.entry.holders) ≡ is_asked s cs at z.entry =
              g.shown z.entry z.there c (omega (arith, z.index)) (omega (arith, p.1.index, p.1.after, z.index)) in
              ap (λ b. b && passes test false z.entry)
              (ap (λ m. is_asked s cs m z.entry) z.index ∙ sym asked ∙ ap flags z.held)
          by false c = refl

      pub node_passed : (next : ℕ → Bool) → ((l : ℕ) → next l ≡ marked s node.kind level context flags l) → (new : List Node) →
          new ≡ held ++ map node_of (filter (λ y. is_child_thing y.what && (flags level && passes test false y)) (z.entry ∷ [])) →
          Passed s cs (all nest first) test (suc at) next new
      node_passed next f new e = record {
        shown = λ y d c late h. f (length y.holders) ∙ open_on y d c late h;
        gathered = e ∙ ap₂ (λ xs ys. xs ++ ys) g.gathered
            (ap (λ b. map node_of (cond b (z.entry ∷ []) [])) (sym wanted_is) ∙ sym (ap (map node_of) (at_one wanted at z.entry z.there z.index)))
            ∙ sym (one_on wanted at);
      }

  -- The beginning.

  pub none_yet_passed : (s : Sought) (cs : List Entry) (test : Test) (at : ℕ) (flags : ℕ → Bool) → Each (λ c. at ≤ c.index) cs →
      AreContexts cs (all nest first) → ((l : ℕ) → flags l ≡ false) → Passed s cs (all nest first) test at flags []
  none_yet_passed s cs test at flags a k f = record {
    shown = λ y d c l h. f (length y.holders) ∙ sym (false_if (is_asked s cs at y) (λ t. by s y h t));
    gathered = sym (ap (map node_of) (none_of _ (all nest first) (λ y d t.
        let p = and_parts (nat_lt y.index at) _ t in
        let q = and_parts (is_child_thing y.what) _ p.1 in
        let r = and_parts (is_asked s cs y.index y) (passes test false y) q.1 in
        let o = held_from nest first n y d (child_no_root y.what q.0) in
        let less : y.index < at = ltb-true y.index at p.0 in
        asked_later s y y.index r.0 (omega (arith, o.1.index, o.1.after, less)) less)));
  }
    where
      asked_later : (s : Sought) (y : Entry) (m : ℕ) → is_asked s cs m y ≡ true → holder_index y.holders < at → m < at → ⊥
      asked_later sought.Children y m t h l =
          let o = any_out (λ c. c.index == holder_index y.holders) cs t in
          let low : at ≤ o.entry.index = each_at (λ c. at ≤ c.index) cs o.entry a o.there in
          omega (arith, low, h, eqb-true o.entry.index (holder_index y.holders) o.passes)
      asked_later sought.LaterSiblings y m t h l =
          let o = any_out (λ c. same_parent c y && nat_lt c.index m) cs t in
          let low : at ≤ o.entry.index = each_at (λ c. at ≤ c.index) cs o.entry a o.there in
          omega (arith, low, l, ltb-true o.entry.index m (and_parts (same_parent o.entry y) (nat_lt o.entry.index m) o.passes).1)

      by : (s : Sought) (y : Entry) → holder_index y.holders < at → is_asked s cs at y ≡ true → ⊥
      by sought.Children y h t = asked_later sought.Children y zero t h (omega (arith, h))
      by sought.LaterSiblings y h t =
          let o = any_out (λ c. same_parent c y && nat_lt c.index at) cs t in
          let low : at ≤ o.entry.index = each_at (λ c. at ≤ c.index) cs o.entry a o.there in
          omega (arith, low, ltb-true o.entry.index at (and_parts (same_parent o.entry y) (nat_lt o.entry.index at) o.passes).1)

  -- The end.

  module _ (s : Sought) (cs : List Entry) (k : AreContexts cs (all nest first)) where
    -- what holds a node that is asked for begins no later than a context
    asked_from : (y : Entry) (m at : ℕ) → Each (λ c. c.index < at) cs → is_asked s cs m y ≡ true → holder_index y.holders < at
    asked_from y m at a t = by s t
      where
        by : (s : Sought) → is_asked s cs m y ≡ true → holder_index y.holders < at
        by sought.Children t =
            let o = any_out (λ c. c.index == holder_index y.holders) cs t in
            let less : o.entry.index < at = each_at (λ c. c.index < at) cs o.entry a o.there in
            omega (arith, less, eqb-true o.entry.index (holder_index y.holders) o.passes)
        by sought.LaterSiblings t =
            let o = any_out (λ c. same_parent c y && nat_lt c.index m) cs t in
            let less : o.entry.index < at = each_at (λ c. c.index < at) cs o.entry a o.there in
            let p = and_parts (same_parent o.entry y) (nat_lt o.entry.index m) o.passes in
            let q = and_parts (is_child_thing o.entry.what && is_child_thing y.what) (holder_index o.entry.holders == holder_index y.holders) p.0 in
            let r = and_parts (is_child_thing o.entry.what) (is_child_thing y.what) q.0 in
            let h = held_from nest first n o.entry (k.among o.entry o.there) (child_no_root o.entry.what r.0) in
            omega (arith, less, h.1.index, h.1.after, eqb-true (holder_index o.entry.holders) (holder_index y.holders) q.1)

    -- where the records are of a level below all that is asked for, nothing of it is left
    pub none_left : (floor at : ℕ) → IsFloor s cs (all nest first) floor → Each (λ c. c.index < at) cs →
        (at < length (records nest first) → level_of (record_at at (records nest first)) < floor) →
        (y : Entry) → Contains (all nest first) y → at ≤ y.index → is_child_thing y.what ≡ true → is_asked s cs y.index y ≡ true → ⊥
    none_left floor at f a h y d l c t =
        let o = held_from nest first n y d (child_no_root y.what c) in
        let order = in_order nest first n in
        let within : y.index < length (records nest first) = order.within y d in
        let low : level_of (record_at at (records nest first)) < floor = h (omega (arith, l, within)) in
        let high : length y.holders ≤ level_of (record_at at (records nest first)) =
        o.1.holds.inside at (omega (arith, o.1.index, asked_from y y.index at a t)) (omega (arith, l, o.1.before)) in
        omega (arith, low, high, f y y.index d c t)

    pub all_passed : (test : Test) (at : ℕ) (flags : ℕ → Bool) (held : List Node) → Passed s cs (all nest first) test at flags held →
        ((y : Entry) → Contains (all nest first) y → at ≤ y.index → is_child_thing y.what ≡ true → is_asked s cs y.index y ≡ true → ⊥) →
        held ≡ step_nodes (axis_of s) test cs (all nest first)
    all_passed test at flags held g none = g.gathered ∙ ap (map node_of)
        (filter_same _ (λ y. (is_child_thing y.what && is_asked s cs y.index y) && passes test false y) (all nest first) (λ y d. same_test _ _
        (λ t. let p = and_parts (nat_lt y.index at) _ t in
        let q = and_parts (is_child_thing y.what) _ p.1 in
        let r = and_parts (is_asked s cs y.index y) (passes test false y) q.1 in
        and_from _ _ (and_from _ _ q.0 r.0) r.1)
        (λ t. let p = and_parts (is_child_thing y.what && is_asked s cs y.index y) (passes test false y) t in
        let q = and_parts (is_child_thing y.what) (is_asked s cs y.index y) p.0 in
        and_from _ _ (elim (cases_lt y.index at) [
          | inl less ↦ lt-ltb y.index at less
          | inr more ↦ absurd (none y d (omega (arith, more)) q.0 q.1)
        ]) (and_from _ _ q.0 (and_from _ _ q.1 p.1))))
        ∙ sym (Rattle.xpath_axes.proofs.AxisLemmas.filter_filter (passes test false) (λ y. is_child_thing y.what && is_asked s cs y.index y) (all nest first)))
        ∙ by s
      where
        by : (s : Sought) → map node_of (filter (passes test false) (filter (λ y. is_child_thing y.what && is_asked s cs y.index y) (all nest first)))
            ≡ step_nodes (axis_of s) test cs (all nest first)
        by sought.Children = sym (ap (λ xs. map node_of (filter (passes test false) xs))
            (union_by_indexes nest first n axes.Child cs k.among ∙ children_of_contexts nest first n cs k))
        by sought.LaterSiblings = sym (ap (λ xs. map node_of (filter (passes test false) xs))
            (union_by_indexes nest first n axes.FollowingSibling cs k.among
            ∙ filter_same _ _ (all nest first) (λ y d. same_test _ _
            (λ t. let o = any_out (λ c. same_parent c y && nat_lt c.index y.index) cs t in
            let p = and_parts (same_parent o.entry y) (nat_lt o.entry.index y.index) o.passes in
            let q = and_parts (is_child_thing o.entry.what && is_child_thing y.what) (holder_index o.entry.holders == holder_index y.holders) p.0 in
            and_from _ _ (and_parts (is_child_thing o.entry.what) (is_child_thing y.what) q.0).1 t)
            (λ t. (and_parts (is_child_thing y.what) _ t).1))))

  -- The floor.

  module _ (s : Sought) (c : Entry) (k : Contains (all nest first) c) (ds : List Entry) where
    pub floor_on : (y : Entry) (m : ℕ) → Contains (all nest first) y → is_child_thing y.what ≡ true → is_asked s (c ∷ ds) m y ≡ true →
        (own_floor s (kind_of c.what) (length c.holders) ≤ length y.holders) ⊎ (is_asked s ds m y ≡ true)
    floor_on y m d h t = by s t
      where
        by : (s : Sought) → is_asked s (c ∷ ds) m y ≡ true →
            (own_floor s (kind_of c.what) (length c.holders) ≤ length y.holders) ⊎ (is_asked s ds m y ≡ true)
        by sought.Children t = elim (or_cases (c.index == holder_index y.holders) (is_index_of ds (holder_index y.holders)) t) [
          | inr u ↦ inr u
          | inl u ↦
              let p = held_from nest first n y d (child_no_root y.what h) in
              let same : p.0 ≡ c = one_node nest first p.0 c p.1.there k (p.1.index ∙ sym (eqb-true c.index (holder_index y.holders) u)) in
              inl (elim p.1.kind [
                | inl r ↦ let kind : kind_of c.what ≡ kinds.Root = ap (λ (e : Entry). kind_of e.what) (sym same) ∙ r in
                    (let z : own_floor sought.Children (kind_of c.what) (length c.holders) ≡ 0 = ap (λ x. own_floor sought.Children x (length c.holders)) kind in omega (arith, z))
                | inr e ↦ let kind : kind_of c.what ≡ kinds.Element = ap (λ (e : Entry). kind_of e.what) (sym same) ∙ e in
                    (let z : own_floor sought.Children (kind_of c.what) (length c.holders) ≡ suc (length c.holders) = ap (λ x. own_floor sought.Children x (length c.holders)) kind in
                    let l : nodes_above c ≡ length y.holders = ap nodes_above (sym same) ∙ p.1.level in
                    omega (arith, z, l, above_held c (no_root_element c.what kind)))
              ])
        ]
        by sought.LaterSiblings t = elim (or_cases (same_parent c y && nat_lt c.index m) (list_any (λ c. same_parent c y && nat_lt c.index m) ds) t) [
          | inr u ↦ inr u
          | inl u ↦
              let p = and_parts (same_parent c y) (nat_lt c.index m) u in
              let q = and_parts (is_child_thing c.what && is_child_thing y.what) (holder_index c.holders == holder_index y.holders) p.0 in
              let r = and_parts (is_child_thing c.what) (is_child_thing y.what) q.0 in
              let l = same_level c y k d (child_no_root c.what r.0) (child_no_root y.what h) (eqb-true (holder_index c.holders) (holder_index y.holders) q.1) in
              let z : own_floor sought.LaterSiblings (kind_of c.what) (length c.holders) ≡ length c.holders =
              ap (λ b. cond b (length c.holders) 256) (sym (child_kind c.what) ∙ r.0) in
              inl (omega (arith, z, l))
        ]

pub asks_none : (s : Sought) (m : ℕ) (y : Entry) → is_asked s [] m y ≡ true → ⊥
asks_none sought.Children m y t = false≢true t
asks_none sought.LaterSiblings m y t = false≢true t

-- Contexts that are to come.

pub first_ahead : (cs : List Entry) → Rises cs → (nodes : List Node) → map node_of cs ≡ nodes → Each (λ c. first_index nodes ≤ c.index) cs
first_ahead [] r nodes e = tt
first_ahead (c ∷ cs) r nodes e =
    let first : first_index nodes ≡ c.index = sym (ap first_index e) in
    (omega (arith, first), each_more (λ x. c.index < x.index) (λ x. first_index nodes ≤ x.index) (λ x h. omega (arith, first, h)) cs r.0)

rises_drop : (i : ℕ) (cs : List Entry) → Rises cs → Rises (drop i cs)
rises_drop zero cs r = r
rises_drop (suc i) [] r = tt
rises_drop (suc i) (c ∷ cs) r = rises_drop i cs r.1

module _ (cs : List Entry) (r : Rises cs) (i : ℕ) (a : At cs i) where
  split_rises : Rises (a.entry ∷ drop (i + 1) cs)
  split_rises = subst Rises a.split (rises_drop i cs r)

  -- none begins before the next one
  pub none_between : (at to : ℕ) → ((k : ℕ) → at ≤ k → is_index_of cs k ≡ is_index_of (drop i cs) k) → to ≡ a.entry.index →
      (k : ℕ) → at ≤ k → k < to → is_index_of cs k ≡ false
  none_between at to h e k l m = h k l ∙ ap (λ ds. is_index_of ds k) a.split ∙ none_any (λ c. c.index == k) (a.entry ∷ drop (i + 1) cs) (λ c d t.
      let is : c.index ≡ k = eqb-true c.index k t in
      let low : a.entry.index ≤ c.index = each_at (λ c. a.entry.index ≤ c.index) (a.entry ∷ drop (i + 1) cs) c
      (omega arith, each_more (λ x. a.entry.index < x.index) (λ x. a.entry.index ≤ x.index) (λ x h. omega (arith, h)) (drop (i + 1) cs) split_rises.0) d in
      omega (arith, is, low, e, m))

  pub is_next : (at to : ℕ) → to ≡ a.entry.index → is_index_of cs to ≡ true
  is_next at to e = any_in (λ c. c.index == to) cs a.entry a.there (eq-eqb a.entry.index to (sym e))

  pub ahead_first : (at : ℕ) → Each (λ c. at ≤ c.index) (drop i cs) → at ≤ a.entry.index
  ahead_first at h = let g : Each (λ c. at ≤ c.index) (a.entry ∷ drop (i + 1) cs) = subst (Each (λ c. at ≤ c.index)) a.split h in g.0

  pub ahead_on : (next : ℕ) → next ≡ a.entry.index + 1 → Each (λ c. next ≤ c.index) (drop (i + 1) cs)
  ahead_on next e = each_more (λ x. a.entry.index < x.index) (λ x. next ≤ x.index) (λ x h. omega (arith, h, e)) (drop (i + 1) cs) split_rises.0

  pub asked_on : (at next : ℕ) → at ≤ a.entry.index → next ≡ a.entry.index + 1 →
      ((k : ℕ) → at ≤ k → is_index_of cs k ≡ is_index_of (drop i cs) k) →
      (k : ℕ) → next ≤ k → is_index_of cs k ≡ is_index_of (drop (i + 1) cs) k
  asked_on at next l e h k m = h k (omega (arith, l, e, m)) ∙ ap (λ ds. is_index_of ds k) a.split
      ∙ ap (λ b. b || is_index_of (drop (i + 1) cs) k)
      (false_if (a.entry.index == k) (λ t. let is : a.entry.index ≡ k = eqb-true a.entry.index k t in omega (arith, is, e, m)))

-- all contexts begin before an index from which on none is to come
pub all_before : (cs : List Entry) (i at : ℕ) → length cs ≤ i → ((k : ℕ) → at ≤ k → is_index_of cs k ≡ is_index_of (drop i cs) k) →
    Each (λ c. c.index < at) cs
all_before cs i at l h = by cs (λ c d. elim (cases_lt c.index at) [
  | inl less ↦ less
  | inr more ↦ absurd (false≢true (sym (ap (λ ds. is_index_of ds c.index) (drop_all i cs l)) ∙ sym (h c.index more)
      ∙ any_in (λ x. x.index == c.index) cs c d (eq-eqb c.index c.index refl)))
])
  where
    by : (xs : List Entry) → ((c : Entry) → Contains xs c → c.index < at) → Each (λ c. c.index < at) xs
    by [] f = tt
    by (x ∷ xs) f = (f x (contains_here x xs), by xs (λ c d. f c (contains_next x xs c d)))

-- One record of a table.

module _ (bytes : List ℕ) (nest : Forest) (at : ℕ) where
  pub none_begins : None ≡ option_map node_of (at_index at (nodes_of bytes nest)) → NoneBegins (nodes_of bytes nest) at
  none_begins h = λ y d p. none_at (λ x. true) (nodes_of bytes nest) at h y d refl p

  pub begins_here : (node : Node) → Some node ≡ option_map node_of (at_index at (nodes_of bytes nest)) → (level : ℕ) →
      ((e : Entry) → Identifies node.kind node.at e (nodes_of bytes nest) → level ≡ length e.holders) → IsHere (nodes_of bytes nest) at node level
  begins_here node h level l =
      let z = node_here bytes nest at node h in
      record {
        entry = z.entry;
        there = z.there;
        index = z.index;
        shown = sym z.shown;
        held = sym (l z.entry (z.there, sym (ap (λ m. m.kind) z.shown), sym (ap (λ m. m.at) z.shown)));
      }

-- a node that is no child, or whose level has no flag, is not appended
pub not_flagged : (held : List Node) (P : Entry → Bool) (e : Entry) (b c : Bool) → is_child_thing e.what ≡ b → (b && c) ≡ false →
    held ≡ held ++ map node_of (filter (λ y. is_child_thing y.what && (c && P y)) (e ∷ []))
not_flagged held P e true true h f = absurd (false≢true (sym f))
not_flagged held P e true false h f =
    sym (ap (λ b. held ++ map node_of (cond (b && (false && P e)) (e ∷ []) [])) h ∙ Rattle.std.proofs.Common.append-nil held)
not_flagged held P e false c h f =
    sym (ap (λ b. held ++ map node_of (cond (b && (c && P e)) (e ∷ []) [])) h ∙ Rattle.std.proofs.Common.append-nil held)

pub is_flagged : (P : Entry → Bool) (e : Entry) (b c : Bool) → is_child_thing e.what ≡ b → b ≡ true → c ≡ true →
    map node_of (filter P (e ∷ [])) ≡ map node_of (filter (λ y. is_child_thing y.what && (c && P y)) (e ∷ []))
is_flagged P e true true h f g = sym (ap (λ b. map node_of (cond (b && (true && P e)) (e ∷ []) [])) h)
is_flagged P e true false h f g = absurd (false≢true g)
is_flagged P e false c h f g = absurd (false≢true f)

-- what is neither the root nor an element asks for no child
pub no_inside : (k : Kind) (level : ℕ) → (k ≡ kinds.Root → ⊥) → (k ≡ kinds.Element → ⊥) → 256 ≡ own_floor sought.Children k level
no_inside kinds.Root level r e = absurd (r refl)
no_inside kinds.Element level r e = absurd (e refl)
no_inside kinds.Attribute level r e = refl
no_inside kinds.Text level r e = refl
no_inside kinds.Comment level r e = refl
no_inside kinds.Instruction level r e = refl

pub first_within : (nest : Forest) (first : ℕ) → is_nest nest ≡ true → (cs : List Entry) → AreContexts cs (all nest first) →
    (nodes : List Node) → map node_of cs ≡ nodes → first_index nodes ≤ length (records nest first)
first_within nest first n [] k nodes e = let z : first_index nodes ≡ 0 = sym (ap first_index e) in omega (arith, z)
first_within nest first n (c ∷ cs) k nodes e =
    let z : first_index nodes ≡ c.index = sym (ap first_index e) in
    let order = in_order nest first n in
    let there = k.among c (contains_here c cs) in
    omega (arith, z, order.within c there, order.some c there)
