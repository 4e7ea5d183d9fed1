-- Climbs from contexts to the nodes that they are in.
use Rattle.std.proofs.Common.{◌≡◌, ℕ, zero, suc, ◌+◌, ◌<◌, ◌≤◌, Bool, true, false, cond, ◌&&◌, ◌||◌, ◌==◌, List, [], ◌∷◌, ◌++◌, length, drop}
use Rattle.std.proofs.Common.{map, reverse, refl, ap, ap₂, sym, ◌∙◌, subst, arith, filter, nat_lt, nat_le, inl, inr, Option, Some, None, option_map}
use Rattle.std.specs.Option.{option_to_list}
use Rattle.std.specs.Prelude.{IfSome}
use Rattle.std.specs.List.{AllByRecursion as Each, Contains, slice_index_or}
use Rattle.std.proofs.lemmas.Bool.{false≢true, and_parts, and_from, or_cases, or_left, or_right, cases_lt, ltb-true, leb-true, eqb-true, eq-eqb}
use Rattle.std.proofs.lemmas.Bool.{lt-ltb, le-leb}
use Rattle.std.proofs.lemmas.List.{drop_all, reverse-append, reverse-reverse, map-append}
use Rattle.xml_model.specs.declared.Axis.TheVariants as axes
use Rattle.xml_model.specs.declared.Kind.{Kind}
use Rattle.xml_model.specs.declared.Kind.TheVariants as kinds
use Rattle.xml_model.specs.declared.Node.{Node}
use Rattle.xml_model.specs.Contexts.{new_ancestors, AreContexts}
use Rattle.xml_model.specs.Items.{first_place}
use Rattle.xml_model.specs.Laws.{is_under}
use Rattle.xml_model.specs.Names.{Test, passes}
use Rattle.xml_model.specs.Nest.{Forest, is_nest}
use Rattle.xml_model.specs.Records.{records}
use Rattle.xml_model.specs.Scan.{level_of, record_at}
use Rattle.xml_model.specs.Tree.{Entry, all, kind_of, at_index}
use Rattle.xml_model.proofs.Contexts.{union_by_indexes, ancestors_of_contexts}
use Rattle.xml_model.proofs.Each.{contains_next}
use Rattle.xml_model.proofs.Filters.{same_test, filter_same, none_of, one_here, split_or}
use Rattle.xml_model.proofs.Indexes.{all_rise, one_kind}
use Rattle.xml_model.proofs.Inside.{Holds, element_holds, levels_shown, root_holds, under_kind}
use Rattle.xml_model.proofs.Things.{kind_root, root_kind}
use Rattle.xml_model.proofs.TreeOrder.{InOrder, in_order, under_is, under_within}
use Rattle.vtd_words.specs.declared.packing.Parts.{Parts}
use Rattle.vtd_words.specs.Lists.{Lists}
use Rattle.vtd_words.specs.Packed.{record_of}
use Rattle.vtd_words.specs.Table.{IsNestOf, node_of, nodes_of}
use Rattle.vtd_words.proofs.Found.{none_at}
use Rattle.xpath_axes.specs.declared.back.Back.{Back}
use Rattle.xpath_axes.specs.Backs.{IsBack, IsLow}
use Rattle.xpath_axes.proofs.WalkLemmas.{none_here, node_here}
use Rattle.xpath_steps.specs.Holders.{goes_over, holders_left}
use Rattle.xpath_steps.specs.Steps.{step_nodes, AreAmong}
use Rattle.xpath_steps.proofs.StepLemmas.{At}

over_by_kind : (k : Kind) (level low : ℕ) (b : Bool) → (k ≡ kinds.Root → b ≡ true) → (k ≡ kinds.Element → b ≡ nat_lt level low) →
    ((k ≡ kinds.Root → ⊥) → (k ≡ kinds.Element → ⊥) → b ≡ false) → b ≡ goes_over k level low
over_by_kind kinds.Root level low b r e o = r refl
over_by_kind kinds.Element level low b r e o = e refl
over_by_kind kinds.Attribute level low b r e o = o (λ h. cc) (λ h. cc)
over_by_kind kinds.Text level low b r e o = o (λ h. cc) (λ h. cc)
over_by_kind kinds.Comment level low b r e o = o (λ h. cc) (λ h. cc)
over_by_kind kinds.Instruction level low b r e o = o (λ h. cc) (λ h. cc)

not_true : (b : Bool) → (b ≡ true → ⊥) → b ≡ false
not_true true h = absurd (h refl)
not_true false h = refl

module _ (nest : Forest) (first : ℕ) (n : is_nest nest ≡ true) where
  order : InOrder (length (records nest first)) (all nest first)
  order = in_order nest first n

  -- a node before another goes on over it exactly where its kind, its level and the lowest level after it say so
  holds_on : (x : Entry) → Contains (all nest first) x → (from : ℕ) → x.index ≡ from → (y : Entry) → Contains (all nest first) y →
      y.index < from → (low : ℕ) → IsLow (records nest first) (suc y.index) from low →
      nat_lt from y.past ≡ goes_over (kind_of y.what) (length y.holders) low
  holds_on x c from is y d before low l =
      over_by_kind (kind_of y.what) (length y.holders) low (nat_lt from y.past)
      (λ k. let h : Holds (records nest first) y 0 = root_holds nest first n y d (kind_root y.what k) in
      elim (cases_lt from y.past) [
        | inl within ↦ lt-ltb from y.past within
        | inr over ↦ absurd (omega (arith, h.after (omega (arith, over, is, order.within x c))))
      ])
      (λ k. let h : Holds (records nest first) y (suc (length y.holders)) = element_holds nest first n y d k in
      same_test _ _
      (λ t. lt-ltb (length y.holders) low
      (omega (arith, l.is, h.inside l.index (omega (arith, l.after)) (omega (arith, l.within, ltb-true from y.past t)))))
      (λ t. elim (cases_lt from y.past) [
        | inl within ↦ lt-ltb from y.past within
        | inr over ↦ absurd (omega (
          arith,
          ltb-true (length y.holders) low t,
          l.least y.past (omega (arith, order.some y d)) over,
          h.after (omega (arith, over, is, order.within x c)),
        ))
      ]))
      (λ r e. not_true (nat_lt from y.past) (λ t.
      elim (under_kind nest first n y x d c (under_is y x (omega (arith, before, is)) (omega (arith, ltb-true from y.past t, is)))) [
        | inl root ↦ r (root_kind y.what root)
        | inr tag ↦ e tag
      ]))

  turned : (o : Option Node) (xs : List Entry) → option_to_list o ≡ map node_of xs → map node_of (reverse xs) ≡ option_to_list o
  turned o [] h = sym h
  turned o (e ∷ []) h = sym h
  turned None (e ∷ f ∷ xs) h = absurd cc
  turned (Some m) (e ∷ f ∷ xs) h = absurd cc

  module _ (b : Back) (stop : ℕ) where
    pub climb_on : (next low : ℕ) (o : Option Node) → b.at ≡ suc next → stop ≤ next →
        option_to_list o ≡ map node_of (filter (λ y. y.index == next && nat_lt b.from y.past) (all nest first)) →
        map node_of (holders_left b stop (all nest first))
        ≡ option_to_list o ++ map node_of (holders_left (record b { at = next; low = low }) stop (all nest first))
    climb_on next low o e f h =
        let es = all nest first in
        let Q = λ (y : Entry). nat_lt b.from y.past in
        let A = λ (y : Entry). nat_lt y.index next && (nat_le stop y.index && Q y) in
        let B = λ (y : Entry). y.index == next && Q y in
        ap (λ xs. map node_of (reverse xs))
        (filter_same _ (λ y. A y || B y) es (λ y d. same_test _ _
        (λ t. let p = and_parts (nat_lt y.index b.at) _ t in
        let q = and_parts (nat_le stop y.index) (Q y) p.1 in
        elim (cases_lt y.index next) [
          | inl less ↦ or_left _ _ (and_from _ _ (lt-ltb y.index next less) p.1)
          | inr more ↦ or_right (A y) _ (and_from _ _ (eq-eqb y.index next (omega (arith, more, e, ltb-true y.index b.at p.0))) q.1)
        ])
        (λ t. elim (or_cases (A y) (B y) t) [
          | inl u ↦
              let p = and_parts (nat_lt y.index next) _ u in
              and_from _ _ (lt-ltb y.index b.at (omega (arith, e, ltb-true y.index next p.0))) p.1
          | inr u ↦
              let p = and_parts (y.index == next) (Q y) u in
              let is : y.index ≡ next = eqb-true y.index next p.0 in
              and_from _ _ (lt-ltb y.index b.at (omega (arith, e, is))) (and_from _ _ (le-leb stop y.index (omega (arith, f, is))) p.1)
        ]))
        ∙ split_or A B next es (all_rise nest first)
        (λ y d t. ltb-true y.index next (and_parts (nat_lt y.index next) _ t).0)
        (λ y d t. omega (arith, eqb-true y.index next (and_parts (y.index == next) (Q y) t).0)))
        ∙ ap (map node_of) (reverse-append (filter A es) (filter B es))
        ∙ map-append node_of (reverse (filter B es)) _
        ∙ ap (λ xs. xs ++ map node_of (holders_left (record b { at = next; low = low }) stop es)) (turned o (filter B es) h)

    pub climb_ended : b.at ≤ stop → map node_of (holders_left b stop (all nest first)) ≡ []
    climb_ended l = ap (λ xs. map node_of (reverse xs)) (none_of _ (all nest first) (λ y d t.
        let p = and_parts (nat_lt y.index b.at) _ t in
        let q = and_parts (nat_le stop y.index) (nat_lt b.from y.past) p.1 in
        omega (arith, l, ltb-true y.index b.at p.0, leb-true stop y.index q.0)))

-- One record.

module _ (bytes : List ℕ) (lists : Lists) (nest : Forest) (s : IsNestOf bytes lists nest) (b : Back) (at : ℕ) where
  pub no_node : None ≡ option_map node_of (at_index at (nodes_of bytes nest)) →
      ◌≡◌ {A = List Node} [] (map node_of (filter (λ y. y.index == at && nat_lt b.from y.past) (nodes_of bytes nest)))
  no_node h = none_here (λ y. nat_lt b.from y.past) at (nodes_of bytes nest) (λ e c p q. none_at (λ x. true) (nodes_of bytes nest) at h e c refl p)

  module _ (parts : Parts) (r : record_of parts ≡ record_at at (records nest (first_place bytes))) (level : ℕ) (l : level ≡ level_of (record_of parts))
      (k : IsBack (records nest (first_place bytes)) (nodes_of bytes nest) b)
      (less : at + 1 ≡ b.at) (node : Node) (h : Some node ≡ option_map node_of (at_index at (nodes_of bytes nest))) where
    n : is_nest nest ≡ true
    n = s.accepted.document.nests

    held_is : (e : Entry) → Contains (nodes_of bytes nest) e → e.index ≡ at → length e.holders ≡ level
    held_is e c p = sym (levels_shown nest (first_place bytes) n e c)
        ∙ ap (λ m. level_of (record_at m (records nest (first_place bytes)))) p ∙ sym (l ∙ ap level_of r)

    kind_is : (y : Entry) → Contains (nodes_of bytes nest) y → y.index ≡ at → kind_of y.what ≡ node.kind
    kind_is y d p =
        let z = node_here bytes nest at node h in
        one_kind nest (first_place bytes) y z.entry d z.there (p ∙ sym z.index) ∙ sym (ap (λ m. m.kind) z.shown)

    decides : (y : Entry) → Contains (nodes_of bytes nest) y → y.index ≡ at → nat_lt b.from y.past ≡ goes_over node.kind level b.low
    decides y d p =
        let start : b.at ≡ suc y.index = omega (arith, less, p) in
        let low : IsLow (records nest (first_place bytes)) (suc y.index) b.from b.low =
        subst (λ m. IsLow (records nest (first_place bytes)) m b.from b.low) start k.low in
        holds_on nest (first_place bytes) n k.entry k.there b.from k.began y d (omega (arith, start, k.passed)) b.low low
        ∙ ap₂ (λ m q. goes_over m q b.low) (kind_is y d p) (held_is y d p)

    pub not_over : (t : Bool) → t ≡ goes_over node.kind level b.low → t ≡ false →
        ◌≡◌ {A = List Node} [] (map node_of (filter (λ y. y.index == at && nat_lt b.from y.past) (nodes_of bytes nest)))
    not_over t e f = none_here (λ y. nat_lt b.from y.past) at (nodes_of bytes nest) (λ y d p q. false≢true (sym f ∙ e ∙ sym (decides y d p) ∙ q))

    pub is_over : (t : Bool) → t ≡ goes_over node.kind level b.low → t ≡ true →
        node ∷ [] ≡ map node_of (filter (λ y. y.index == at && nat_lt b.from y.past) (nodes_of bytes nest))
    is_over t e f =
        let z = node_here bytes nest at node h in
        ap (λ m. m ∷ []) z.shown
        ∙ sym (ap (map node_of) (one_here (λ y. nat_lt b.from y.past) at (nodes_of bytes nest) (all_rise nest (first_place bytes)) z.entry z.there z.index
        (decides z.entry z.there z.index ∙ sym e ∙ f)))

-- Facts of each of a list.

pub each_append : {X : Type 0} (P : X → Type 0) (xs ys : List X) → Each P xs → Each P ys → Each P (xs ++ ys)
each_append P [] ys h k = k
each_append P (x ∷ xs) ys h k = (h.0, each_append P xs ys h.1 k)

pub each_some : {X : Type 0} (P : X → Type 0) (o : Option X) → IfSome o P → Each P (option_to_list o)
each_some P None h = tt
each_some P (Some x) h = (h, tt)

pub each_reverse : {X : Type 0} (P : X → Type 0) (xs : List X) → Each P xs → Each P (reverse xs)
each_reverse P [] h = tt
each_reverse P (x ∷ xs) h =
    subst (Each P) (sym (reverse-append (x ∷ []) xs)) (each_append P (reverse xs) (x ∷ []) (each_reverse P xs h.1) (h.0, tt))

pub each_index : {X : Type 0} (P : X → Type 0) (xs : List X) → Each P xs → (i : ℕ) (d : X) → i < length xs → P (slice_index_or xs i d)
each_index P [] h i d l = absurd (omega (arith, l))
each_index P (x ∷ xs) h zero d l = h.0
each_index P (x ∷ xs) h (suc i) d l = each_index P xs h.1 i d (omega (arith, l))

-- One context after another, the last one first.

-- what was gathered from some contexts on, back to an index
abbrev pub gathered_from : List Entry → ℕ → List Entry → List Node
gathered_from es stop ds = reverse (map node_of (new_ancestors es stop ds))

pub map_reverse : (xs : List Entry) → map node_of (reverse xs) ≡ reverse (map node_of xs)
map_reverse [] = refl
map_reverse (x ∷ xs) = ap (map node_of) (reverse-append (x ∷ []) xs) ∙ map-append node_of (reverse xs) (x ∷ [])
    ∙ ap (λ ys. ys ++ node_of x ∷ []) (map_reverse xs) ∙ sym (reverse-append (node_of x ∷ []) (map node_of xs))

-- a climb from a context on
pub context_climbed : (es cs : List Entry) (i : ℕ) (a : At cs i) (stop : ℕ) (b : Back) → b.at ≡ a.entry.index → b.from ≡ a.entry.index →
    (held new : List Node) → held ≡ gathered_from es a.entry.index (drop (i + 1) cs) →
    new ≡ held ++ map node_of (holders_left b stop es) → new ≡ gathered_from es stop (drop i cs)
context_climbed es cs i a stop b p q held new h k =
    let U = λ (y : Entry). is_under y a.entry && nat_le stop y.index in
    k
    ∙ ap₂ (λ xs ys. xs ++ ys) h
    (ap (λ xs. map node_of (reverse xs)) (filter_same _ U es (λ y d. same_test _ _
    (λ t. let u = and_parts (nat_lt y.index b.at) _ t in
    let v = and_parts (nat_le stop y.index) (nat_lt b.from y.past) u.1 in
    and_from _ _ (under_is y a.entry (omega (arith, p, ltb-true y.index b.at u.0)) (omega (arith, q, ltb-true b.from y.past v.1))) v.0)
    (λ t. let u = and_parts (is_under y a.entry) (nat_le stop y.index) t in
    let v = under_within y a.entry u.0 in
    and_from _ _ (lt-ltb y.index b.at (omega (arith, p, v.0))) (and_from _ _ u.1 (lt-ltb b.from y.past (omega (arith, q, v.1)))))))
    ∙ map_reverse (filter U es))
    ∙ sym (reverse-append (map node_of (filter U es)) (map node_of (new_ancestors es a.entry.index (drop (i + 1) cs))))
    ∙ ap reverse (sym (map-append node_of (filter U es) (new_ancestors es a.entry.index (drop (i + 1) cs))))
    ∙ sym (ap (λ ds. reverse (map node_of (new_ancestors es stop ds))) a.split)

pub none_gathered : (es cs : List Entry) (i stop : ℕ) → length cs ≤ i → gathered_from es stop (drop i cs) ≡ []
none_gathered es cs i stop h = ap (gathered_from es stop) (drop_all i cs h)

pub all_climbed : (es cs : List Entry) → reverse (gathered_from es 0 cs) ≡ map node_of (new_ancestors es 0 cs)
all_climbed es cs = reverse-reverse (map node_of (new_ancestors es 0 cs))

-- what a filter keeps is of the list
pub filtered_among : (P : Entry → Bool) (es : List Entry) → AreAmong (filter P es) es
filtered_among P [] c k = absurd (omega (arith, k.1))
filtered_among P (x ∷ es) c k = by (filtered_among P es c) (P x) k
  where
    by : (Contains (filter P es) c → Contains es c) → (b : Bool) → Contains (cond b (x ∷ filter P es) (filter P es)) c → Contains (x ∷ es) c
    by rec true (zero, l, h) = (zero, omega arith, h)
    by rec true (suc m, l, h) = contains_next x es c (rec (m, omega (arith, l), h))
    by rec false h = contains_next x es c (rec h)

-- The step.

pub all_ancestors : (nest : Forest) (first : ℕ) → is_nest nest ≡ true → (cs : List Entry) → AreContexts cs (all nest first) → (test : Test) →
    step_nodes axes.Ancestor test cs (all nest first) ≡ map node_of (filter (passes test false) (new_ancestors (all nest first) 0 cs))
all_ancestors nest first n cs k test = ap (λ xs. map node_of (filter (passes test false) xs))
    (union_by_indexes nest first n axes.Ancestor cs k.among ∙ ancestors_of_contexts _ _ cs (in_order nest first n) k)

-- ancestors are nodes
pub ancestors_among : (nest : Forest) (first : ℕ) → is_nest nest ≡ true → (cs : List Entry) → AreContexts cs (all nest first) →
    AreAmong (new_ancestors (all nest first) 0 cs) (all nest first)
ancestors_among nest first n cs k =
    subst (λ xs. AreAmong xs (all nest first)) (ancestors_of_contexts _ _ cs (in_order nest first n) k) (filtered_among _ (all nest first))
