-- The node that comes first on an axis, and those after it.
use Rattle.std.proofs.Common.{◌≡◌, ℕ, suc, Bool, true, false, cond, not, ◌&&◌, ◌||◌, ◌==◌, List, [], ◌∷◌, ◌++◌, map, reverse, refl, ap, ap₂}
use Rattle.std.proofs.Common.{sym, ◌∙◌, arith, rules, filter, inl, inr, append-nil, subst, nat_lt, Option, Some, None}
use Rattle.std.specs.Prelude.{IfSome, IsNone}
use Rattle.std.specs.List.{Contains}
use Rattle.std.proofs.lemmas.Bool.{and_parts, and_from, or_cases, or_left, or_right, eqb-true, eq-eqb}
use Rattle.std.proofs.lemmas.List.{reverse-append, map-append}
use Rattle.xml_model.specs.declared.Axis.{Axis}
use Rattle.xml_model.specs.declared.Axis.TheVariants as axes
use Rattle.xml_model.specs.declared.Kind.TheVariants as kinds
use Rattle.xml_model.specs.declared.Node.{Node}
use Rattle.xml_model.specs.Names.{Test, passes}
use Rattle.xml_model.specs.Nest.{Forest, is_nest}
use Rattle.xml_model.specs.Records.{records}
use Rattle.xml_model.specs.Scan.{holder_by_scan}
use Rattle.xml_model.specs.Tree.{Entry, Identifies, all, kind_of}
use Rattle.xml_model.specs.Laws.{by_indexes, is_child_thing, is_one_under, is_root_thing, is_under, same_parent}
use Rattle.xml_model.proofs.Filters.{same_test, filter_same, none_of, one_here, split_or}
use Rattle.xml_model.proofs.Indexes.{all_rise, one_node}
use Rattle.xml_model.proofs.Inside.{root_first}
use Rattle.xml_model.proofs.NodeLaws.{axis_of_two, axis_list_of_node, parent_of_node}
use Rattle.xml_model.proofs.Things.{kind_root}
use Rattle.xml_model.proofs.TreeOrder.{under_within}
use Rattle.vtd_words.specs.Table.{IsParent, node_of}
use Rattle.xpath_axes.specs.Iters.{comes_first, nodes_after_first, AreNodes, IsFirstOf}
use Rattle.xpath_axes.specs.Tests.{nodes_on}
use Rattle.xpath_axes.proofs.ClimbLemmas.{filter_append, parent_over}

module _ (nest : Forest) (first : ℕ) (n : is_nest nest ≡ true) (e : Entry) (c : Contains (all nest first) e) where
  -- of the nodes with the index of a node there is that alone
  itself : filter (λ y. e.index == y.index) (all nest first) ≡ e ∷ []
  itself =
      filter_same _ (λ y. y.index == e.index && true) (all nest first) (λ y d. same_test _ _
      (λ t. and_from _ _ (eq-eqb y.index e.index (sym (eqb-true e.index y.index t))) refl)
      (λ t. eq-eqb e.index y.index (sym (eqb-true y.index e.index (and_parts (y.index == e.index) true t).0))))
      ∙ one_here (λ y. true) e.index (all nest first) (all_rise nest first) e c refl refl

  -- the nodes of a list that pass, with those of another after them
  both : (test : Test) (xs ys : List Entry) →
      map node_of (filter (passes test false) (xs ++ ys)) ≡ map node_of (filter (passes test false) xs) ++ map node_of (filter (passes test false) ys)
  both test xs ys = ap (map node_of) (filter_append (passes test false) xs ys) ∙ map-append node_of (filter (passes test false) xs) _

  -- an axis on which no node comes first
  only : (axis : Axis) (test : Test) → nodes_on axis test e (all nest first)
      ≡ map node_of (filter (passes test false) (filter (λ y. false) (all nest first))) ++ nodes_on axis test e (all nest first)
  only axis test = ap (λ xs. map node_of (filter (passes test false) xs) ++ nodes_on axis test e (all nest first))
      (sym (none_of (λ y. false) (all nest first) (λ y d t. Rattle.std.proofs.lemmas.Bool.false≢true t)))

  -- the nodes on an axis are the one that comes first and those after it
  pub first_then_rest : (axis : Axis) (test : Test) → nodes_on axis test e (all nest first)
      ≡ map node_of (filter (passes test false) (filter (comes_first axis e) (all nest first))) ++ nodes_after_first axis test e (all nest first)
  first_then_rest axes.Itself test =
      ap (λ xs. map node_of (filter (passes test false) xs)) (axis_list_of_node nest first n axes.Itself e c) ∙ sym (append-nil _)
  first_then_rest axes.Parent test =
      ap (λ xs. map node_of (filter (passes test false) xs)) (axis_list_of_node nest first n axes.Parent e c) ∙ sym (append-nil _)
  first_then_rest axes.DescendantOrSelf test =
      ap (λ xs. map node_of (filter (passes test false) xs)) (axis_list_of_node nest first n axes.DescendantOrSelf e c
      ∙ split_or (λ y. e.index == y.index) (by_indexes axes.Descendant e) (suc e.index) (all nest first) (all_rise nest first)
      (λ y d t. omega (arith, eqb-true e.index y.index t))
      (λ y d t. let u = (under_within e y (and_parts (is_under e y) (is_child_thing y.what) t).0).0 in omega (arith, u)))
      ∙ both test (filter (λ y. e.index == y.index) (all nest first)) (filter (by_indexes axes.Descendant e) (all nest first))
      ∙ ap (λ xs. map node_of (filter (passes test false) (filter (λ y. e.index == y.index) (all nest first))) ++ map node_of (filter (passes test false) xs))
      (sym (axis_list_of_node nest first n axes.Descendant e c))
  first_then_rest axes.AncestorOrSelf test =
      let es = all nest first in
      ap (λ xs. map node_of (filter (passes test false) xs)) (axis_list_of_node nest first n axes.AncestorOrSelf e c
      ∙ ap reverse (filter_same _ (λ y. is_under y e || e.index == y.index) es (λ y d. same_test _ _
      (λ t. elim (or_cases (y.index == e.index) (is_under y e) t) [
        | inl u ↦ or_right (is_under y e) _ (eq-eqb e.index y.index (sym (eqb-true y.index e.index u)))
        | inr u ↦ or_left _ _ u
      ])
      (λ t. elim (or_cases (is_under y e) (e.index == y.index) t) [
        | inl u ↦ or_right (y.index == e.index) _ u
        | inr u ↦ or_left _ _ (eq-eqb y.index e.index (sym (eqb-true e.index y.index u)))
      ]))
      ∙ split_or (λ y. is_under y e) (λ y. e.index == y.index) e.index es (all_rise nest first)
      (λ y d t. (under_within y e t).0) (λ y d t. omega (arith, eqb-true e.index y.index t)))
      ∙ reverse-append (filter (λ y. is_under y e) es) (filter (λ y. e.index == y.index) es)
      ∙ ap (λ xs. xs ++ reverse (filter (λ y. is_under y e) es)) (ap reverse itself ∙ sym itself))
      ∙ both test (filter (λ y. e.index == y.index) es) (reverse (filter (λ y. is_under y e) es))
      ∙ ap (λ xs. map node_of (filter (passes test false) (filter (λ y. e.index == y.index) es)) ++ map node_of (filter (passes test false) xs))
      (sym (axis_list_of_node nest first n axes.Ancestor e c))
  first_then_rest axes.Child test = only axes.Child test
  first_then_rest axes.Descendant test = only axes.Descendant test
  first_then_rest axes.Ancestor test = only axes.Ancestor test
  first_then_rest axes.FollowingSibling test = only axes.FollowingSibling test
  first_then_rest axes.PrecedingSibling test = only axes.PrecedingSibling test
  first_then_rest axes.Following test = only axes.Following test
  first_then_rest axes.Preceding test = only axes.Preceding test
  first_then_rest axes.Attribute test = only axes.Attribute test

  -- Which comes first.

  module _ (node : Node) (w : Identifies node.kind node.at e (all nest first)) where
    pub self_first : AreNodes (Some node) (filter (λ y. e.index == y.index) (all nest first)) (all nest first)
    self_first = (e, (w, itself))

    pub self_of : (axis : Axis) → (comes_first axis e ≡ (λ y. e.index == y.index)) → IsFirstOf axis e (all nest first) (Some node)
    self_of axis h = subst (λ p. AreNodes (Some node) (filter p (all nest first)) (all nest first)) (sym h) self_first

  pub parent_first : (owner : Node) → IsParent (all nest first) e owner → IsFirstOf axes.Parent e (all nest first) (Some owner)
  parent_first owner q =
      let p = q.entry in
      let above = sym (parent_of_node nest first n e p c q.holds.0) ∙ q.above in
      let a = and_parts (not (is_root_thing e.what)) (p.index == holder_by_scan e.index (records nest first)) above in (
        p,
        (
          q.holds,
          filter_same _ (λ y. y.index == p.index && true) (all nest first) (λ y d. same_test _ _
              (λ t. let b = and_parts (not (is_root_thing e.what)) (y.index == holder_by_scan e.index (records nest first))
              (sym (parent_of_node nest first n e y c d) ∙ axis_of_two nest first n axes.Parent e y c d ∙ t) in
              and_from _ _ (eq-eqb y.index p.index (eqb-true y.index _ b.1 ∙ sym (eqb-true p.index _ a.1))) refl)
              (λ t. let same = one_node nest first y p d q.holds.0 (eqb-true y.index p.index (and_parts (y.index == p.index) true t).0) in
              ap (λ z. is_one_under z e) same ∙ parent_over nest first n e c owner q))
              ∙ one_here (λ y. true) p.index (all nest first) (all_rise nest first) p q.holds.0 refl refl,
        ),
      )

  pub root_no_parent : kind_of e.what ≡ kinds.Root → IsFirstOf axes.Parent e (all nest first) None
  root_no_parent k = none_of (λ y. is_one_under y e) (all nest first) (λ y d t.
      omega (arith, root_first nest first n e c (kind_root e.what k), (under_within y e (and_parts (is_under y e) _ t).0).0))

  nothing : filter (λ y. false) (all nest first) ≡ []
  nothing = none_of (λ y. false) (all nest first) (λ y d t. Rattle.std.proofs.lemmas.Bool.false≢true t)

  -- no node comes first on the other axes
  pub nothing_first : (axis : Axis) → (axis ≡ axes.Itself → ⊥) → (axis ≡ axes.Parent → ⊥) → (axis ≡ axes.DescendantOrSelf → ⊥) →
      (axis ≡ axes.AncestorOrSelf → ⊥) → IsFirstOf axis e (all nest first) None
  nothing_first axes.Itself i p d a = absurd (i refl)
  nothing_first axes.Parent i p d a = absurd (p refl)
  nothing_first axes.DescendantOrSelf i p d a = absurd (d refl)
  nothing_first axes.AncestorOrSelf i p d a = absurd (a refl)
  nothing_first axes.Child i p d a = nothing
  nothing_first axes.Descendant i p d a = nothing
  nothing_first axes.Ancestor i p d a = nothing
  nothing_first axes.FollowingSibling i p d a = nothing
  nothing_first axes.PrecedingSibling i p d a = nothing
  nothing_first axes.Following i p d a = nothing
  nothing_first axes.Preceding i p d a = nothing
  nothing_first axes.Attribute i p d a = nothing

  -- the parent comes first on its axis, and nothing where there is none
  pub owner_first : (axis : Axis) → axis ≡ axes.Parent → (o : Option Node) → (IsNone o → kind_of e.what ≡ kinds.Root) →
      IfSome o (λ owner. IsParent (all nest first) e owner) → IsFirstOf axis e (all nest first) o
  owner_first axis h None r q = subst (λ a. IsFirstOf a e (all nest first) None) (sym h) (root_no_parent (r (search rules)))
  owner_first axis h (Some owner) r q = subst (λ a. IsFirstOf a e (all nest first) (Some owner)) (sym h) (parent_first owner q)

  -- what is no child has no siblings
  pub no_siblings : is_child_thing e.what ≡ false → (test : Test) → nodes_on axes.PrecedingSibling test e (all nest first) ≡ []
  no_siblings f test =
      ap (λ xs. map node_of (filter (passes test false) xs)) (axis_list_of_node nest first n axes.PrecedingSibling e c
      ∙ ap reverse (none_of (by_indexes axes.PrecedingSibling e) (all nest first) (λ y d h.
      Rattle.std.proofs.lemmas.Bool.false≢true (sym f ∙ (and_parts (is_child_thing e.what) _ (and_parts (is_child_thing e.what && is_child_thing y.what) _
      (and_parts (same_parent e y) (nat_lt y.index e.index) h).0).0).0))))

-- What passes of a node.

pub none_passes : (xs es : List Entry) (test : Test) (o : Option Node) → o ≡ None → AreNodes o xs es →
    ◌≡◌ {A = List Node} [] (map node_of (filter (passes test false) xs))
none_passes xs es test None h a = sym (ap (λ zs. map node_of (filter (passes test false) zs)) a)
none_passes xs es test (Some node) h a = absurd cc

pub one_passes : (xs es : List Entry) (test : Test) (node : Node) (b : Bool) → AreNodes (Some node) xs es →
    ((y : Entry) → Identifies node.kind node.at y es → b ≡ passes test false y) →
    cond b (node ∷ []) [] ≡ map node_of (filter (passes test false) xs)
one_passes xs es test node b (y, (w, is)) h =
    by b (h y w) ∙ sym (ap (λ zs. map node_of (filter (passes test false) zs)) is)
  where
    shown : node_of y ≡ node
    shown = ap₂ (λ k m. (let r : Node = record { kind = k; at = m } in r)) w.1 w.2

    by : (b : Bool) → b ≡ passes test false y → cond b (node ∷ []) [] ≡ map node_of (cond (passes test false y) (y ∷ []) [])
    by true i = ap (λ m. m ∷ []) (sym shown) ∙ ap (λ t. map node_of (cond t (y ∷ []) [])) i
    by false i = ap (λ t. map node_of (cond t (y ∷ []) [])) i
