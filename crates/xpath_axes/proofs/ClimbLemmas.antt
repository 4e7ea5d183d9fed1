-- From a node to those above it.
use Rattle.std.proofs.Common.{◌≡◌, ℕ, suc, ◌<◌, ◌≤◌, Bool, true, false, cond, ◌&&◌, ◌||◌, ◌==◌, List, [], ◌∷◌, ◌++◌, map, reverse, refl, ap, sym}
use Rattle.std.proofs.Common.{◌∙◌, arith, filter, nat_lt, inl, inr, append-nil}
use Rattle.std.specs.List.{Contains}
use Rattle.std.proofs.lemmas.Bool.{and_parts, and_from, or_cases, or_left, or_right, cases_lt, ltb-true, eqb-true, eq-eqb}
use Rattle.std.proofs.lemmas.Grind.{common_steps}
use Rattle.xml_model.specs.declared.Kind.TheVariants as kinds
use Rattle.xml_model.specs.declared.Node.{Node}
use Rattle.xml_model.specs.declared.Axis.TheVariants as axes
use Rattle.xml_model.specs.Names.{Test, passes}
use Rattle.xml_model.specs.Nest.{Forest, is_nest}
use Rattle.xml_model.specs.Records.{records}
use Rattle.xml_model.specs.Tree.{Entry, all, kind_of}
use Rattle.xml_model.specs.Laws.{is_under, is_one_under, nodes_above as count_above}
use Rattle.xml_model.proofs.Filters.{same_test, filter_same, none_of, one_here, split_or}
use Rattle.xml_model.proofs.Indexes.{all_rise, one_node}
use Rattle.xml_model.proofs.Inside.{root_first}
use Rattle.xml_model.proofs.NodeLaws.{axis_of_two, axis_list_of_node}
use Rattle.xml_model.proofs.Things.{kind_root}
use Rattle.xml_model.proofs.TreeOrder.{InOrder, in_order, more_above, under_is, under_within}
use Rattle.vtd_words.specs.Table.{IsParent, node_of}
use Rattle.xpath_axes.specs.Climbs.{above_index, nodes_above}
use Rattle.xpath_axes.specs.Tests.{nodes_on}
use Rattle.xpath_axes.proofs.AxisLemmas.{filter_filter}

append_one : {X : Type 0} (xs : List X) (x : X) → reverse (xs ++ x ∷ []) ≡ x ∷ reverse xs
append_one xs x = grind (arith, common_steps)

pub filter_append : (P : Entry → Bool) (xs ys : List Entry) → filter P (xs ++ ys) ≡ filter P xs ++ filter P ys
filter_append P [] ys = refl
filter_append P (x ∷ xs) ys = by (P x) (filter_append P xs ys)
  where
    by : (b : Bool) → filter P (xs ++ ys) ≡ filter P xs ++ filter P ys →
        cond b (x ∷ filter P (xs ++ ys)) (filter P (xs ++ ys)) ≡ cond b (x ∷ filter P xs) (filter P xs) ++ filter P ys
    by true h = ap (λ zs. x ∷ zs) h
    by false h = h

reverse_cons : {X : Type 0} (x : X) (xs : List X) → reverse (x ∷ xs) ≡ reverse xs ++ x ∷ []
reverse_cons x xs = grind (arith, common_steps)

pub filter_reverse : (P : Entry → Bool) (xs : List Entry) → filter P (reverse xs) ≡ reverse (filter P xs)
filter_reverse P [] = refl
filter_reverse P (x ∷ xs) =
    ap (filter P) (reverse_cons x xs) ∙ filter_append P (reverse xs) (x ∷ []) ∙ ap (λ zs. zs ++ filter P (x ∷ [])) (filter_reverse P xs) ∙ by (P x)
  where
    by : (b : Bool) → reverse (filter P xs) ++ cond b (x ∷ []) [] ≡ reverse (cond b (x ∷ filter P xs) (filter P xs))
    by true = sym (reverse_cons x (filter P xs))
    by false = append-nil (reverse (filter P xs))

module _ (nest : Forest) (first : ℕ) (n : is_nest nest ≡ true) where
  order : InOrder (Rattle.std.proofs.Common.length (records nest first)) (all nest first)
  order = in_order nest first n

  -- what is above a node is its parent and what is above that
  above_on : (x p : Entry) → Contains (all nest first) x → Contains (all nest first) p → is_one_under p x ≡ true →
      filter (λ y. is_under y x) (all nest first) ≡ filter (λ y. is_under y p) (all nest first) ++ p ∷ []
  above_on x p c d h =
      let o = and_parts (is_under p x) (count_above x == suc (count_above p)) h in
      let u = under_within p x o.0 in
      filter_same _ (λ y. is_under y p || (y.index == p.index && true)) (all nest first) (λ y k. same_test _ _
      (λ t. let v = under_within y x t in
      elim (cases_lt y.index p.index) [
        | inl below ↦ or_left _ _ (under_is y p below (omega (arith, u.0, v.1)))
        | inr not_below ↦ elim (cases_lt p.index y.index) [
          | inl over ↦
              let a = more_above nest first p y d k (under_is p y over (omega (arith, v.0, u.1))) in
              let b = more_above nest first y x k c t in
              absurd (omega (arith, a, b, eqb-true (count_above x) (suc (count_above p)) o.1))
          | inr same ↦ or_right (is_under y p) _ (and_from _ _ (eq-eqb y.index p.index (omega (arith, not_below, same))) refl)
        ]
      ])
      (λ t. elim (or_cases (is_under y p) (y.index == p.index && true) t) [
        | inl v ↦ order.on y p x k d c v o.0
        | inr e ↦
            let is : y.index ≡ p.index = eqb-true y.index p.index (and_parts (y.index == p.index) true e).0 in
            ap (λ z. is_under z x) (one_node nest first y p k d is) ∙ o.0
      ]))
      ∙ split_or (λ y. is_under y p) (λ y. y.index == p.index && true) p.index (all nest first) (all_rise nest first)
      (λ e k t. (under_within e p t).0) (λ e k t. omega (arith, eqb-true e.index p.index (and_parts (e.index == p.index) true t).0))
      ∙ ap (λ xs. filter (λ y. is_under y p) (all nest first) ++ xs) (one_here (λ y. true) p.index (all nest first) (all_rise nest first) p d refl refl)

  pub parent_over : (x : Entry) → Contains (all nest first) x → (owner : Node) → (q : IsParent (all nest first) x owner) → is_one_under q.entry x ≡ true
  parent_over x c owner q = sym (axis_of_two nest first n axes.Parent x q.entry c q.holds.0) ∙ q.above

  pub parent_before : (x : Entry) → Contains (all nest first) x → (owner : Node) → (q : IsParent (all nest first) x owner) → owner.at < x.index
  parent_before x c owner q =
      omega (arith, (under_within q.entry x (and_parts (is_under q.entry x) _ (parent_over x c owner q)).0).0, q.holds.2)

  -- the nodes above a node that pass are those above its parent, and that
  ancestors_on : (x p : Entry) → Contains (all nest first) x → Contains (all nest first) p → is_one_under p x ≡ true → (test : Test) →
      above_index x.index test (all nest first)
      ≡ cond (passes test false p) (p ∷ above_index p.index test (all nest first)) (above_index p.index test (all nest first))
  ancestors_on x p c d h test =
      let es = all nest first in
      let P = λ (y : Entry). passes test false y in
      ap reverse (sym (filter_filter P (λ y. is_under y x) es) ∙ ap (filter P) (above_on x p c d h)
      ∙ filter_append P (filter (λ y. is_under y p) es) (p ∷ []) ∙ ap (λ xs. xs ++ filter P (p ∷ [])) (filter_filter P (λ y. is_under y p) es))
      ∙ by (P p)
    where
      by : (b : Bool) → reverse (filter (λ y. is_under y p && passes test false y) (all nest first) ++ cond b (p ∷ []) [])
          ≡ cond b (p ∷ above_index p.index test (all nest first)) (above_index p.index test (all nest first))
      by true = append_one (filter (λ y. is_under y p && passes test false y) (all nest first)) p
      by false = ap reverse (append-nil (filter (λ y. is_under y p && passes test false y) (all nest first)))

  module _ (x : Entry) (c : Contains (all nest first) x) (test : Test) (at : ℕ) (here : x.index
      ≡ at) (owner : Node) (q : IsParent (all nest first) x owner) where
    on_owner : (b : Bool) → b ≡ passes test false q.entry →
        nodes_above at test (all nest first)
        ≡ map node_of (cond b (q.entry ∷ above_index owner.at test (all nest first)) (above_index owner.at test (all nest first)))
    on_owner b e =
        ap (λ m. nodes_above m test (all nest first)) (sym here)
        ∙ ap (map node_of) (ancestors_on x q.entry c q.holds.0 (parent_over x c owner q) test
        ∙ ap (λ m. cond (passes test false q.entry) (q.entry ∷ above_index m test (all nest first)) (above_index m test (all nest first))) q.holds.2
        ∙ ap (λ t. cond t (q.entry ∷ above_index owner.at test (all nest first)) (above_index owner.at test (all nest first))) (sym e))

    pub passed_over : (b : Bool) → b ≡ passes test false q.entry → b ≡ false → nodes_above at test (all nest first) ≡ nodes_above owner.at test (all nest first)
    passed_over b e f = on_owner b e
        ∙ ap (λ t. map node_of (cond t (q.entry ∷ above_index owner.at test (all nest first)) (above_index owner.at test (all nest first)))) f

    pub taken : (b : Bool) → b ≡ passes test false q.entry → b ≡ true →
        nodes_above at test (all nest first) ≡ (owner ∷ []) ++ nodes_above owner.at test (all nest first)
    taken b e f = on_owner b e
        ∙ ap (λ t. map node_of (cond t (q.entry ∷ above_index owner.at test (all nest first)) (above_index owner.at test (all nest first)))) f
        ∙ ap (λ o. o ∷ nodes_above owner.at test (all nest first)) shown
      where
        shown : node_of q.entry ≡ owner
        shown = Rattle.std.proofs.Common.ap₂ (λ k m. (let r : Node = record { kind = k; at = m } in r)) q.holds.1 q.holds.2

  -- nothing is above the root
  pub none_above : (x : Entry) → Contains (all nest first) x → kind_of x.what ≡ kinds.Root → (test : Test) (at : ℕ) → x.index ≡ at →
      nodes_above at test (all nest first) ≡ []
  none_above x c k test at here =
      ap (λ xs. map node_of (reverse xs)) (none_of _ (all nest first) (λ y d h.
      let u = and_parts (nat_lt y.index at) (nat_lt at y.past) (and_parts (nat_lt y.index at && nat_lt at y.past) (passes test false y) h).0 in
      omega (arith, root_first nest first n x c (kind_root x.what k), ltb-true y.index at u.0, here)))

  -- the climb from a node goes over its ancestors
  pub ancestors : (e : Entry) → Contains (all nest first) e → (at : ℕ) → e.index ≡ at → (test : Test) →
      nodes_above at test (all nest first) ≡ nodes_on axes.Ancestor test e (all nest first)
  ancestors e c at here test =
      ap (λ m. nodes_above m test (all nest first)) (sym here)
      ∙ ap (map node_of) (sym (ap (filter (passes test false)) (axis_list_of_node nest first n axes.Ancestor e c)
      ∙ filter_reverse (passes test false) (filter (λ y. is_under y e) (all nest first))
      ∙ ap reverse (filter_filter (passes test false) (λ y. is_under y e) (all nest first))))
