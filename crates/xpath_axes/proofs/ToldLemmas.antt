-- Walks over child elements that the levels tell.
use Rattle.std.proofs.Common.{◌≡◌, ℕ, zero, suc, ◌+◌, ◌-◌, ◌<◌, ◌≤◌, ◌^◌, Bool, true, false, cond, ◌&&◌, List, [], ◌∷◌, ◌++◌, map, length, drop}
use Rattle.std.proofs.Common.{refl, ap, ap₂, sym, ◌∙◌, subst, arith, filter, nat_lt, nat_le, inl, inr, Some}
use Rattle.std.specs.List.{Contains}
use Rattle.std.proofs.lemmas.Bool.{false≢true, and_parts, cases_lt, ltb-true, leb-true, le-leb, lt-leb}
use Rattle.std.proofs.lemmas.List.{drop_more, drop_all}
use Rattle.xml_model.specs.declared.Axis.TheVariants as axes
use Rattle.xml_model.specs.declared.Kind.TheVariants as kinds
use Rattle.xml_model.specs.declared.Node.{Node}
use Rattle.xml_model.specs.Contexts.{Rises}
use Rattle.xml_model.specs.Items.{first_place}
use Rattle.xml_model.specs.Levels.{child_tags, is_element, is_tag}
use Rattle.xml_model.specs.Names.{NameTest, Test, expanded, is_principal, name_passes, passes}
use Rattle.xml_model.specs.Nest.{Forest}
use Rattle.xml_model.specs.Records.{Record, document, records}
use Rattle.xml_model.specs.Scan.{record_at}
use Rattle.xml_model.specs.Tree.{Thing, Entry, Identifies, axis_list, kind_of, on_axis}
use Rattle.xml_model.proofs.Each.{contains_here, contains_next, each_at}
use Rattle.xml_model.proofs.Filters.{filter_same}
use Rattle.xml_model.proofs.Proper.{document_meets}
use Rattle.xml_model.proofs.TreeLevels.{Tagged, tagged, children_are}
use Rattle.xml_model.proofs.TreeOrder.{InOrder, in_order}
use Rattle.xml_model.proofs.Unique.{same_head}
use Rattle.vtd_words.specs.Lists.{Lists}
use Rattle.vtd_words.specs.Table.{IsNestOf, IsNodeOf, node_of, nodes_of, Shows}
use Rattle.vtd_words.proofs.Fitting.{nest_shown}
use Rattle.vtd_words.proofs.Same.{node_holds, shown_same}
use Rattle.vtd_words.proofs.Shown.{shown_length}
use Rattle.vtd_location.specs.Children.{left_in, IsShallowTag, Remaining}
use Rattle.xpath_axes.specs.declared.rest.Rest.{Rest}
use Rattle.xpath_axes.specs.declared.rest.Rest.TheVariants as rests
use Rattle.xpath_axes.specs.declared.walk.Walk.{Walk}
use Rattle.xpath_axes.specs.Told.{elements_left, IsChildWalk, IsTold, PassesElements, Tells}
use Rattle.xpath_axes.specs.Walks.{goes_on, left_of, nodes_left, stop_from, stop_of, wants, Covers}
use Rattle.xpath_axes.proofs.AxisLemmas.{filter_filter}

-- Elements.

kind_element : (w : Thing) → is_element w ≡ true → kind_of w ≡ kinds.Element
kind_element (Thing.root first f) h = absurd (false≢true h)
kind_element (Thing.element t inside) h = refl
kind_element (Thing.attribute a) h = absurd (false≢true h)
kind_element (Thing.text xs) h = absurd (false≢true h)
kind_element (Thing.comment cs) h = absurd (false≢true h)
kind_element (Thing.instruction i) h = absurd (false≢true h)

pub element_kind : (w : Thing) → kind_of w ≡ kinds.Element → is_element w ≡ true
element_kind (Thing.root first f) h = absurd cc
element_kind (Thing.element t inside) h = refl
element_kind (Thing.attribute a) h = absurd cc
element_kind (Thing.text xs) h = absurd cc
element_kind (Thing.comment cs) h = absurd cc
element_kind (Thing.instruction i) h = absurd cc

principal_element : (w : Thing) → is_principal false w ≡ true → is_element w ≡ true
principal_element (Thing.root first f) h = absurd (false≢true h)
principal_element (Thing.element t inside) h = refl
principal_element (Thing.attribute a) h = absurd (false≢true h)
principal_element (Thing.text xs) h = absurd (false≢true h)
principal_element (Thing.comment cs) h = absurd (false≢true h)
principal_element (Thing.instruction i) h = absurd (false≢true h)

-- elements alone pass a name test
pub names_pass_elements : (x : NameTest) → PassesElements (Test.name x)
unfolding passes
names_pass_elements x e h = principal_element e.what (and_parts (is_principal false e.what) (name_passes x (expanded e)) h).0

-- Filters.

filter_among : (P : Entry → Bool) (es : List Entry) (c : Entry) → Contains (filter P es) c → Contains es c × (P c ≡ true)
filter_among P [] c k = absurd (omega (arith, k.1))
filter_among P (x ∷ es) c k = by (filter_among P es c) (P x) refl k
  where
    by : (Contains (filter P es) c → Contains es c × (P c ≡ true)) → (b : Bool) → P x ≡ b → Contains (cond b (x ∷ filter P es) (filter P es)) c →
        Contains (x ∷ es) c × (P c ≡ true)
    by rec true p (zero, l, s) = ((zero, omega arith, s), ap P (sym s) ∙ p)
    by rec true p (suc m, l, s) = let r = rec (m, omega (arith, l), s) in (contains_next x es c r.0, r.1)
    by rec false p h = let r = rec h in (contains_next x es c r.0, r.1)

-- what is between two indexes and passes
abbrev between : ℕ → ℕ → (Entry → Bool) → Entry → Bool
between at stop Q e = nat_le at e.index && (nat_lt e.index stop && Q e)

-- what comes after the first
after_first : (at stop : ℕ) (Q : Entry → Bool) (es : List Entry) → Rises es → (y : Entry) (ys : List Entry) → filter (between at stop Q) es ≡ y ∷ ys →
    filter (between (y.index + 1) stop Q) es ≡ ys
after_first at stop Q [] r y ys h = absurd cc
after_first at stop Q (z ∷ zs) r y ys h = by (after_first at stop Q zs r.1 y ys) (between at stop Q z) refl h
  where
    low : (k : ℕ) → z.index < k → between k stop Q z ≡ false
    low k l = ap (λ b. b && (nat_lt z.index stop && Q z)) (lt-leb k z.index l)

    by : (filter (between at stop Q) zs ≡ y ∷ ys → filter (between (y.index + 1) stop Q) zs ≡ ys) →
        (b : Bool) → between at stop Q z ≡ b → cond b (z ∷ filter (between at stop Q) zs) (filter (between at stop Q) zs) ≡ y ∷ ys →
        filter (between (y.index + 1) stop Q) (z ∷ zs) ≡ ys
    by rec true t k =
        let p = same_head z y (filter (between at stop Q) zs) ys k in
        let is : z.index ≡ y.index = ap (λ e. e.index) p.0 in
        ap (λ b. cond b (z ∷ filter (between (y.index + 1) stop Q) zs) (filter (between (y.index + 1) stop Q) zs)) (low (y.index + 1) (omega (arith, is)))
        ∙ filter_same (between (y.index + 1) stop Q) (between at stop Q) zs (λ e c. ap (λ b. b && (nat_lt e.index stop && Q e))
        (let later : z.index < e.index = each_at (λ x. z.index < x.index) zs e r.0 c in
        let above : at ≤ z.index = leb-true at z.index (and_parts (nat_le at z.index) (nat_lt z.index stop && Q z) t).0 in
        le-leb (y.index + 1) e.index (omega (arith, later, is)) ∙ sym (le-leb at e.index (omega (arith, later, above)))))
        ∙ p.1
    by rec false t k =
        let there : Contains zs y = (filter_among (between at stop Q) zs y (subst (λ xs. Contains xs y) (sym k) (contains_here y ys))).0 in
        let later : z.index < y.index = each_at (λ x. z.index < x.index) zs y r.0 there in
        ap (λ b. cond b (z ∷ filter (between (y.index + 1) stop Q) zs) (filter (between (y.index + 1) stop Q) zs)) (low (y.index + 1) (omega (arith, later)))
        ∙ rec k

-- Stops.

-- a walk that goes on before it stops, stops at the same record
stop_by : (pass : Record → Bool) (rs : List Record) (d n m : ℕ) → n + d ≡ m → m ≤ stop_from pass n (drop n rs) →
    stop_from pass m (drop m rs) ≡ stop_from pass n (drop n rs)
stop_by pass rs zero n m e l = ap (λ k. stop_from pass k (drop k rs)) (let z : m ≡ n = omega (arith, e) in z)
stop_by pass rs (suc d) n m e l = elim (cases_lt n (length rs)) [
  | inl less ↦ by (stop_by pass rs d (suc n) m (omega (arith, e))) (pass (record_at n rs)) (ap (stop_from pass n) (drop_more rs n document less))
  | inr more ↦ absurd (omega (arith, e, l, ap (stop_from pass n) (drop_all n rs more)))
]
  where
    by : (m ≤ stop_from pass (suc n) (drop (suc n) rs) → stop_from pass m (drop m rs) ≡ stop_from pass (suc n) (drop (suc n) rs)) →
        (b : Bool) → stop_from pass n (drop n rs) ≡ cond b (stop_from pass (suc n) (drop (n + 1) rs)) n →
        stop_from pass m (drop m rs) ≡ stop_from pass n (drop n rs)
    by rec true h =
        let on : stop_from pass n (drop n rs) ≡ stop_from pass (suc n) (drop (suc n) rs) =
        h ∙ ap (λ k. stop_from pass (suc n) (drop k rs)) (let z : n + 1 ≡ suc n = omega arith in z) in
        rec (omega (arith, l, on)) ∙ sym on
    by rec false h = absurd (omega (arith, h, e, l))

-- Walks.

-- whether a walk wants a node that is an element
abbrev wants_element : Walk → Entry → Bool
wants_element w e = wants w e.what (length e.holders) && is_element e.what

module _ (w : Walk) (rs : List Record) (es : List Entry) where
  elements_as : elements_left w rs es ≡ filter (between w.at (stop_of w rs) (wants_element w)) es
  unfolding passes
  elements_as =
      filter_filter (λ e. is_element e.what) (λ e. nat_le w.at e.index && (nat_lt e.index (stop_of w rs) && (wants w e.what (length e.holders) && true))) es
      ∙ filter_same _ (between w.at (stop_of w rs) (wants_element w)) es
      (λ e c. by (nat_le w.at e.index) (nat_lt e.index (stop_of w rs)) (wants w e.what (length e.holders)) (is_element e.what))
    where
      by : (a b c d : Bool) → ((a && (b && (c && true))) && d) ≡ (a && (b && (c && d)))
      by true true true d = refl
      by true true false d = refl
      by true false c d = refl
      by false b c d = refl

  -- for a test that elements alone pass, the nodes that are left are among the elements
  among : w.attributes ≡ false → (t : Test) → PassesElements t → left_of w t rs es ≡ filter (passes t false) (elements_left w rs es)
  among children t named =
      filter_same _ (λ e. between w.at (stop_of w rs) (wants_element w) e && passes t false e) es
      (λ e c. ap (λ b. nat_le w.at e.index && (nat_lt e.index (stop_of w rs)
      && (wants w e.what (length e.holders) && passes t b e))) children
      ∙ by (nat_le w.at e.index) (nat_lt e.index (stop_of w rs)) (wants w e.what (length e.holders)) (is_element e.what) (passes t false e) (named e))
      ∙ sym (filter_filter (passes t false) (between w.at (stop_of w rs) (wants_element w)) es)
      ∙ ap (filter (passes t false)) (sym elements_as)
    where
      by : (a b c d p : Bool) → (p ≡ true → d ≡ true) → (a && (b && (c && p))) ≡ ((a && (b && (c && d))) && p)
      by true true true true p h = refl
      by true true true false true h = sym (h refl)
      by true true true false false h = refl
      by true true false d p h = refl
      by true false c d p h = refl
      by false b c d p h = refl

-- the next element that is told, and the walk after it
pub record Told (w : Walk) (t : Test) (rs : List Record) (es : List Entry) (x : ℕ) (xs : List ℕ) : Type 0 where
  pub entry : Entry
  pub there : Contains es entry
  pub element : kind_of entry.what ≡ kinds.Element
  pub index : entry.index ≡ x
  pub from : w.at ≤ x
  pub elements : xs ≡ map (λ e. e.index) (elements_left (record w { at = x + 1 }) rs es)
  pub nodes : nodes_left w t rs es ≡ map node_of (filter (passes t false) (entry ∷ [])) ++ nodes_left (record w { at = x + 1 }) t rs es

told_entry : (w : Walk) (rs : List Record) (es : List Entry) → Rises es → w.attributes ≡ false → (t : Test) → PassesElements t →
    (y : Entry) (ys : List Entry) (xs : List ℕ) → elements_left w rs es ≡ y ∷ ys → xs ≡ map (λ e. e.index) ys → Told w t rs es y.index xs
told_entry w rs es r children t named y ys xs h m =
    let is = elements_as w rs es in
    let front : filter (between w.at (stop_of w rs) (wants_element w)) es ≡ y ∷ ys = sym is ∙ h in
    let q = filter_among (between w.at (stop_of w rs) (wants_element w)) es y (subst (λ zs. Contains zs y) (sym front) (contains_here y ys)) in
    let p = and_parts (nat_le w.at y.index) (nat_lt y.index (stop_of w rs) && wants_element w y) q.1 in
    let s = and_parts (nat_lt y.index (stop_of w rs)) (wants_element w y) p.1 in
    let next = record w { at = y.index + 1 } in
    let low : w.at ≤ y.index = leb-true w.at y.index p.0 in
    let stop : stop_of next rs ≡ stop_of w rs =
    stop_by (goes_on w.attributes w.floor) rs (y.index + 1 - w.at) w.at (y.index + 1) (omega (arith, low))
    (omega (arith, ltb-true y.index (stop_of w rs) s.0)) in
    let after : elements_left next rs es ≡ ys =
    elements_as next rs es
    ∙ ap (λ k. filter (between (y.index + 1) k (wants_element w)) es) stop
    ∙ after_first w.at (stop_of w rs) (wants_element w) es r y ys front in
    record {
      entry = y;
      there = q.0;
      element = kind_element y.what (and_parts (wants w y.what (length y.holders)) (is_element y.what) s.1).1;
      index = refl;
      from = low;
      elements = m ∙ ap (map (λ e. e.index)) (sym after);
      nodes = ap (map node_of) (among w rs es children t named ∙ ap (filter (passes t false)) h)
          ∙ by (passes t false y) ys
          ∙ ap (λ zs. map node_of (filter (passes t false) (y ∷ [])) ++ map node_of (filter (passes t false) zs)) (sym after)
          ∙ ap (λ zs. map node_of (filter (passes t false) (y ∷ [])) ++ map node_of zs) (sym (among next rs es children t named));
    }
  where
    by : (b : Bool) (zs : List Entry) → map node_of (cond b (y ∷ filter (passes t false) zs) (filter (passes t false) zs))
        ≡ map node_of (cond b (y ∷ []) []) ++ map node_of (filter (passes t false) zs)
    by true zs = refl
    by false zs = refl

told_first : (w : Walk) (rs : List Record) (es : List Entry) → Rises es → w.attributes ≡ false → (t : Test) → PassesElements t →
    (left : List Entry) (x : ℕ) (xs : List ℕ) → elements_left w rs es ≡ left → x ∷ xs ≡ map (λ e. e.index) left → Told w t rs es x xs
told_first w rs es r children t named [] x xs h k = absurd cc
told_first w rs es r children t named (y ∷ ys) x xs h k =
    let p = same_head x y.index xs (map (λ e. e.index) ys) k in
    subst (λ n. Told w t rs es n xs) (sym p.0) (told_entry w rs es r children t named y ys xs h p.1)

-- What a table tells.

module _ (bytes : List ℕ) (lists : Lists) (nest : Forest) (s : IsNestOf bytes lists nest) where
  known : InOrder (length (records nest (first_place bytes))) (nodes_of bytes nest)
  known = in_order nest (first_place bytes) s.accepted.document.nests

  pub told_here : (t : Test) (w : Walk) (told : Remaining) (x : ℕ) (xs : List ℕ) → Tells bytes lists t w told → left_in lists told ≡ x ∷ xs →
      Told w t (records nest (first_place bytes)) (nodes_of bytes nest) x xs
  told_here t w told x xs h e =
      told_first w (records nest (first_place bytes)) (nodes_of bytes nest) known.rises h.children t h.named
      (elements_left w (records nest (first_place bytes)) (nodes_of bytes nest)) x xs refl (sym e ∙ h.elements nest s)

  pub none_told : (t : Test) (w : Walk) (told : Remaining) → Tells bytes lists t w told → left_in lists told ≡ [] →
      nodes_left w t (records nest (first_place bytes)) (nodes_of bytes nest) ≡ []
  none_told t w told h e =
      ap (map node_of) (among w _ _ h.children t h.named ∙ ap (filter (passes t false)) (by _ (sym e ∙ h.elements nest s)))
    where
      by : (ys : List Entry) → [] ≡ map (λ (e : Entry). e.index) ys → ys ≡ []
      by [] k = refl
      by (y ∷ ys) k = absurd cc

  pub told_within : (w : Walk) (t : Test) (x : ℕ) (xs : List ℕ) → length bytes < 2 ^ 30 →
      Told w t (records nest (first_place bytes)) (nodes_of bytes nest) x xs → x < length lists.records
  told_within w t x xs few d =
      omega (arith, d.index, known.within d.entry d.there, shown_length lists.records _ (nest_shown bytes lists nest few s))

pub told_on : (bytes : List ℕ) (lists : Lists) (t : Test) (w : Walk) (told left : Remaining) (x : ℕ) →
    Tells bytes lists t w told → left_in lists told ≡ x ∷ left_in lists left → (next : ℕ) → next ≡ x + 1 →
    Tells bytes lists t (record w { at = next }) left
told_on bytes lists t w told left x h e next n = record {
  children = h.children;
  named = h.named;
  elements = λ nest s. (told_here bytes lists nest s t w told x (left_in lists left) h e).elements
      ∙ ap (λ k. map (λ (e : Entry). e.index) (elements_left (record w { at = k }) (records nest (first_place bytes)) (nodes_of bytes nest))) (sym n);
}

pub told_node : (bytes : List ℕ) (lists : Lists) (nest : Forest) → IsNestOf bytes lists nest → (t : Test) (w : Walk) (told : Remaining) (x : ℕ) (xs : List ℕ) →
    Tells bytes lists t w told → left_in lists told ≡ x ∷ xs → IsNodeOf bytes lists (record { kind = kinds.Element; at = x })
told_node bytes lists nest s t w told x xs h e =
    let d = told_here bytes lists nest s t w told x xs h e in
    record { nest = nest; shown = s; entry = d.entry; holds = (d.there, d.element, d.index) }

-- Where a walk over child elements begins.

module _ (bytes : List ℕ) (lists : Lists) (few : length bytes < 2 ^ 30) (nest : Forest) (s : IsNestOf bytes lists nest) (x : Entry)
    (c : Contains (nodes_of bytes nest) x) (t : is_element x.what ≡ true) where
  pub tells_tag : length x.holders ≤ 4 → IsShallowTag lists x.index
  tells_tag h =
      let tokens = records nest (first_place bytes) in
      let shown : Shows lists.records tokens = nest_shown bytes lists nest few s in
      let here : Tagged tokens x = tagged nest (first_place bytes) s.accepted.document.nests x c t in
      let same = λ (rs : List Record) (d : Shows lists.records rs). shown_same lists.records tokens rs shown d in
      record {
        within = omega (arith, here.within, shown_length lists.records tokens shown);
        tag = λ rs d. subst (λ (ts : List Record). is_tag (record_at x.index ts) ≡ true) (same rs d) here.tag;
        shallow = λ rs d. subst (λ (ts : List Record). (record_at x.index ts).depth ≤ 4) (same rs d) (omega (arith, here.depth, h));
      }

  pub tells_children : (w : Walk) → Covers axes.Child w (records nest (first_place bytes)) (nodes_of bytes nest) x →
      (told : Remaining) → ((rs : List Record) → Shows lists.records rs → left_in lists told ≡ child_tags x.index rs) →
      left_in lists told ≡ map (λ e. e.index) (elements_left w (records nest (first_place bytes)) (nodes_of bytes nest))
  unfolding passes axis_list
  tells_children w covers told h =
      let es = nodes_of bytes nest in
      h (records nest (first_place bytes)) (nest_shown bytes lists nest few s)
      ∙ sym (children_are nest (first_place bytes) s.accepted.document.nests (document_meets bytes nest s.accepted.document) x c t)
      ∙ ap (map (λ e. e.index)) (sym (
      ap (filter (λ e. is_element e.what)) (covers Test.node)
      ∙ filter_filter (λ e. is_element e.what) (λ e. true) (filter (λ e. on_axis axes.Child x.path e.path) es)
      ∙ filter_filter (λ e. is_element e.what) (λ e. on_axis axes.Child x.path e.path) es
      ∙ filter_same _ _ es (λ e d. by (on_axis axes.Child x.path e.path) (is_element e.what))))
    where
      by : (a b : Bool) → (a && b) ≡ (b && a)
      by true true = refl
      by true false = refl
      by false true = refl
      by false false = refl

-- the walk over the children of an element, and what tells its child elements
pub begins_told : (bytes : List ℕ) (lists : Lists) → length bytes < 2 ^ 30 → (node : Node) → node.kind ≡ kinds.Element → IsNodeOf bytes lists node →
    (rest : Rest) → IsChildWalk bytes lists node rest → (x : NameTest) (told : Remaining) →
    ((rs : List Record) → Shows lists.records rs → left_in lists told ≡ child_tags node.at rs) →
    IsTold bytes lists (Test.name x) rest (Some told)
begins_told bytes lists few node k n rests.Nothing w x told h = w
begins_told bytes lists few node k n (rests.Upward above) w x told h = w
begins_told bytes lists few node k n (rests.Backward back) w x told h = w
begins_told bytes lists few node k n (rests.Forward walk) w x told h = record {
  children = w.0;
  named = names_pass_elements x;
  elements = λ nest s.
      let e = node_holds bytes lists few node n nest s in
      tells_children bytes lists few nest s e.0 e.1.0 (element_kind e.0.what (e.1.1 ∙ k)) walk (w.1 nest s e.0 e.1) told
      (λ rs d. h rs d ∙ ap (λ at. child_tags at rs) (sym e.1.2));
}

-- The next element that is told passes, or does not.

module _ (bytes : List ℕ) (lists : Lists) (nest : Forest) (s : IsNestOf bytes lists nest) (t : Test) (w : Walk) (told : Remaining) (x : ℕ) (xs : List ℕ)
    (h : Tells bytes lists t w told) (e : left_in lists told ≡ x ∷ xs) (b : Bool)
    (p : (y : Entry) → Identifies kinds.Element x y (nodes_of bytes nest) → b ≡ passes t false y) where
  pub next_passes : b ≡ true → nodes_left w t (records nest (first_place bytes)) (nodes_of bytes nest)
      ≡ record { kind = kinds.Element; at = x } ∷ nodes_left (record w { at = x + 1 }) t (records nest (first_place bytes)) (nodes_of bytes nest)
  next_passes is =
      let d = told_here bytes lists nest s t w told x xs h e in
      let left = nodes_left (record w { at = x + 1 }) t (records nest (first_place bytes)) (nodes_of bytes nest) in
      d.nodes
      ∙ ap (λ c. map node_of (cond c (d.entry ∷ []) []) ++ left) (sym (p d.entry (d.there, d.element, d.index)) ∙ is)
      ∙ ap₂ (λ k n. record { kind = k; at = n } ∷ left) d.element d.index

  pub next_fails : b ≡ false → nodes_left w t (records nest (first_place bytes)) (nodes_of bytes nest)
      ≡ nodes_left (record w { at = x + 1 }) t (records nest (first_place bytes)) (nodes_of bytes nest)
  next_fails is =
      let d = told_here bytes lists nest s t w told x xs h e in
      let left = nodes_left (record w { at = x + 1 }) t (records nest (first_place bytes)) (nodes_of bytes nest) in
      d.nodes ∙ ap (λ c. map node_of (cond c (d.entry ∷ []) []) ++ left) (sym (p d.entry (d.there, d.element, d.index)) ∙ is)
