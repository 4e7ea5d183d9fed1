-- Nodes in document order, each once.
use Rattle.std.proofs.Common.{◌≡◌, ℕ, zero, suc, ◌+◌, ◌<◌, ◌≤◌, ◌↔◌, Bool, true, false, cond, ◌==◌, ◌⊎◌, inl, inr, ⊎_elim, List, [], ◌∷◌, length, map, filter, refl, ap, ap₂, sym, ◌∙◌, subst, arith}
use Rattle.std.specs.List.{AllByRecursion, Contains}
use Rattle.std.specs.List.Sorted.{IsStrictlyIncreasing}
use Rattle.std.specs.Prelude.{slice_index, slice_index_or}
use Rattle.std.proofs.lemmas.Bool.{eq-eqb, eqb-true}
use Rattle.std.proofs.lemmas.List.Kept.{AllPairs-from_increasing}
use Rattle.xml_model.specs.declared.Node.{Node}
use Rattle.xml_model.specs.Contexts.{Rises}
use Rattle.xml_model.specs.Laws.{IndexesDecide}
use Rattle.xml_model.specs.Nest.{Forest, is_nest}
use Rattle.xml_model.specs.Records.{records}
use Rattle.xml_model.specs.Tree.{Entry, all, steps, is_self}
use Rattle.xml_model.proofs.Each.{contains_here, contains_next, contains_map}
use Rattle.xml_model.proofs.Filters.{any_out, any_in}
use Rattle.xml_model.proofs.NodeLaws.{places_of_two}
use Rattle.xml_model.proofs.TreeOrder.{InOrder}
use Rattle.xml_model.proofs.TreeOrder as tree
use Rattle.vtd_words.specs.Table.{node_of}
use Rattle.xpath_meaning.specs.Context.{is_in, in_order}
use Rattle.xpath_meaning.specs.Scope.{AreNodes}

-- Lists of nodes.

cases : {X : Type 0} (x : X) (xs : List X) (n : X) → Contains (x ∷ xs) n → (x ≡ n) ⊎ Contains xs n
cases x xs n (zero, h, e) = inl e
cases x xs n (suc k, h, e) = inr (k, omega (arith, h), e)

none_in : {X : Type 0} (n : X) → Contains [] n → ⊥
none_in n (k, h, e) = omega (arith, h)

all_there : {X : Type 0} (P : X → Type 0) (xs : List X) (x : X) → AllByRecursion P xs → Contains xs x → P x
all_there P [] x a k = absurd (none_in x k)
all_there P (y ∷ xs) x a k = ⊎_elim (λ e. subst P e a.0) (λ m. all_there P xs x a.1 m) (cases y xs x k)

pub all_from : {X : Type 0} (P : X → Type 0) (xs : List X) → ((x : X) → Contains xs x → P x) → AllByRecursion P xs
all_from P [] h = tt
all_from P (x ∷ xs) h = (h x (contains_here x xs), all_from P xs (λ y k. h y (contains_next x xs y k)))

-- the indexes rise along a list of nodes
abbrev pub NodesRise : List Node → Type 0
NodesRise [] = Unit {0}
NodesRise (n ∷ ns) = AllByRecursion (λ m. n.at < m.at) ns × NodesRise ns

increasing_tail : (x : ℕ) (xs : List ℕ) → IsStrictlyIncreasing (x ∷ xs) → IsStrictlyIncreasing xs
increasing_tail x xs h = λ k l.
    let e : suc k + 1 ≡ suc (k + 1) = omega arith in
    let p : slice_index (x ∷ xs) (suc k) < slice_index (x ∷ xs) (suc (k + 1)) = subst (λ n. slice_index (x ∷ xs) (suc k) < slice_index (x ∷ xs) n) e (h (suc k) (omega (arith, l))) in
    p

pub nodes_rise : (ns : List Node) → IsStrictlyIncreasing (map (λ n. n.at) ns) → NodesRise ns
nodes_rise [] h = tt
nodes_rise (n ∷ ns) h = (all_from (λ m. n.at < m.at) ns (λ m c. above m (contains_map (λ (x : Node). x.at) ns m c)), nodes_rise ns (increasing_tail n.at (map (λ x. x.at) ns) h))
  where
    above : (m : Node) → Contains (map (λ (x : Node). x.at) ns) m.at → n.at < m.at
    above m (k, l, e) =
        let p : n.at < slice_index_or (map (λ (x : Node). x.at) ns) k m.at = AllPairs-from_increasing (n.at ∷ map (λ (x : Node). x.at) ns) h 0 (suc k) m.at (omega arith) (omega (arith, l)) in
        subst (λ y. n.at < y) e p

entry_below : (e : Entry) (es : List Entry) → AllByRecursion (λ y. e.index < y.index) es → AllByRecursion (λ m. (node_of e).at < m.at) (map node_of es)
entry_below e [] h = tt
entry_below e (y ∷ es) h = (h.0, entry_below e es h.1)

pub entries_rise : (es : List Entry) → Rises es → NodesRise (map node_of es)
entries_rise [] h = tt
entries_rise (e ∷ es) h = (entry_below e es h.0, entries_rise es h.1)

all_filter : (P : Entry → Type 0) (p : Entry → Bool) (es : List Entry) → AllByRecursion P es → AllByRecursion P (filter p es)
all_filter P p [] h = tt
all_filter P p (e ∷ es) h = by (p e) (all_filter P p es h.1)
  where
    by : (b : Bool) → AllByRecursion P (filter p es) → AllByRecursion P (cond b (e ∷ filter p es) (filter p es))
    by true r = (h.0, r)
    by false r = r

pub filter_rises : (p : Entry → Bool) (es : List Entry) → Rises es → Rises (filter p es)
filter_rises p [] h = tt
filter_rises p (e ∷ es) h = by (p e) (filter_rises p es h.1)
  where
    by : (b : Bool) → Rises (filter p es) → Rises (cond b (e ∷ filter p es) (filter p es))
    by true r = (all_filter (λ y. e.index < y.index) p es h.0, r)
    by false r = r

-- two lists in which the indexes rise, with the same nodes, are one
pub same_nodes : (xs ys : List Node) → NodesRise xs → NodesRise ys → ((n : Node) → Contains xs n → Contains ys n) → ((n : Node) → Contains ys n → Contains xs n) → xs ≡ ys
same_nodes [] [] h k f g = refl
same_nodes [] (y ∷ ys) h k f g = absurd (none_in y (g y (contains_here y ys)))
same_nodes (x ∷ xs) [] h k f g = absurd (none_in x (f x (contains_here x xs)))
same_nodes (x ∷ xs) (y ∷ ys) h k f g = ap₂ (λ a zs. a ∷ zs) first (same_nodes xs ys h.1 k.1 forth back)
  where
    first : x ≡ y
    first = ⊎_elim (λ e. sym e)
        (λ m. ⊎_elim (λ e. e) (λ l. absurd (omega (arith, all_there (λ z. y.at < z.at) ys x k.0 m, all_there (λ z. x.at < z.at) xs y h.0 l))) (cases x xs y (g y (contains_here y ys))))
        (cases y ys x (f x (contains_here x xs)))

    forth : (n : Node) → Contains xs n → Contains ys n
    forth n c = ⊎_elim (λ e. absurd (omega (arith, all_there (λ z. x.at < z.at) xs n h.0 c, ap (λ z. z.at) (first ∙ e)))) (λ m. m) (cases y ys n (f n (contains_next x xs n c)))

    back : (n : Node) → Contains ys n → Contains xs n
    back n c = ⊎_elim (λ e. absurd (omega (arith, all_there (λ z. y.at < z.at) ys n k.0 c, ap (λ z. z.at) (sym first ∙ e)))) (λ m. m) (cases x xs n (g n (contains_next y ys n c)))

-- Nodes of a document.

pub record EntryOf (es : List Entry) (n : Node) : Type 0 where
  pub entry : Entry
  pub there : Contains es entry
  pub is : node_of entry ≡ n

pub entry_of : (es : List Entry) (n : Node) → Contains (map node_of es) n → EntryOf es n
entry_of [] n k = absurd (none_in n k)
entry_of (e ∷ es) n k = ⊎_elim (λ q. record { entry = e; there = contains_here e es; is = q })
    (λ m. let r = entry_of es n m in record { entry = r.entry; there = contains_next e es r.entry r.there; is = r.is })
    (cases (node_of e) (map node_of es) n k)

kept_in : (p : Entry → Bool) (es : List Entry) (x : Entry) → Contains es x → p x ≡ true → Contains (filter p es) x
kept_in p [] x k h = absurd (none_in x k)
kept_in p (e ∷ es) x k h = ⊎_elim (λ q. subst (λ b. Contains (cond b (e ∷ filter p es) (filter p es)) x) (sym (ap p q ∙ h)) (subst (Contains (e ∷ filter p es)) q (contains_here e (filter p es))))
    (λ m. by (p e) (kept_in p es x m h)) (cases e es x k)
  where
    by : (b : Bool) → Contains (filter p es) x → Contains (cond b (e ∷ filter p es) (filter p es)) x
    by true c = contains_next e (filter p es) x c
    by false c = c

pub record KeptOf (p : Entry → Bool) (es : List Entry) (x : Entry) : Type 0 where
  pub there : Contains es x
  pub passes : p x ≡ true

pub kept_of : (p : Entry → Bool) (es : List Entry) (x : Entry) → Contains (filter p es) x → KeptOf p es x
kept_of p [] x k = absurd (none_in x k)
kept_of p (e ∷ es) x k = by (p e) refl k (λ m. kept_of p es x m)
  where
    by : (b : Bool) → p e ≡ b → Contains (cond b (e ∷ filter p es) (filter p es)) x → (Contains (filter p es) x → KeptOf p es x) → KeptOf p (e ∷ es) x
    by true q c rec = ⊎_elim (λ s. record { there = subst (Contains (e ∷ es)) s (contains_here e es); passes = ap p (sym s) ∙ q })
        (λ m. let r = rec m in record { there = contains_next e es x r.there; passes = r.passes }) (cases e (filter p es) x c)
    by false q c rec = let r = rec c in record { there = contains_next e es x r.there; passes = r.passes }

module _ (nest : Forest) (first : ℕ) (h : is_nest nest ≡ true) where
  abbrev document : List Entry
  document = all nest first

  order : InOrder (length (records nest first)) document
  order = tree.in_order nest first h

  index_eq : (m n : ℕ) → m ≡ n → (m == n) ≡ true
  index_eq m n e = eq-eqb m n e

  -- nodes of the tree with one index are one
  pub one_entry : (x y : Entry) → Contains document x → Contains document y → x.index ≡ y.index → x ≡ y
  one_entry x y a b e = one_in document order.rises x y a b e
    where
      one_in : (es : List Entry) → Rises es → (x y : Entry) → Contains es x → Contains es y → x.index ≡ y.index → x ≡ y
      one_in [] r x y a b e = absurd (none_in x a)
      one_in (z ∷ es) r x y a b e = ⊎_elim
          (λ p. ⊎_elim (λ q. sym p ∙ q) (λ m. absurd (omega (arith, all_there (λ w. z.index < w.index) es y r.0 m, e, ap (λ w. w.index) p))) (cases z es y b))
          (λ l. ⊎_elim (λ q. absurd (omega (arith, all_there (λ w. z.index < w.index) es x r.0 l, e, ap (λ w. w.index) q))) (λ m. one_in es r.1 x y l m e) (cases z es y b))
          (cases z es x a)

  pub in_list : (es : List Entry) → AllByRecursion (λ x. Contains document x) es → (x : Entry) → Contains document x → is_in es x ≡ true → Contains es x
  in_list es w x c t =
      let o = any_out (λ y. is_self (steps y.path x.path)) es t in
      let d = all_there (λ y. Contains document y) es o.entry w o.there in
      let p : IndexesDecide o.entry x = places_of_two nest first o.entry x d c in
      let q : (o.entry.index == x.index) ≡ true = sym p.same ∙ o.passes in
      subst (Contains es) (one_entry o.entry x d c (eqb-true o.entry.index x.index q)) o.there

  pub listed_in : (es : List Entry) → AllByRecursion (λ x. Contains document x) es → (x : Entry) → Contains es x → is_in es x ≡ true
  listed_in es w x c =
      let d = all_there (λ y. Contains document y) es x w c in
      let p : IndexesDecide x x = places_of_two nest first x x d d in
      any_in (λ y. is_self (steps y.path x.path)) es x c (p.same ∙ index_eq x.index x.index refl)

  -- nodes whose indexes rise, the same as those of a list, are those of the list in document order
  pub ordered_nodes : (ns found : List Node) (es : List Entry) → AreNodes document found es → IsStrictlyIncreasing (map (λ n. n.at) ns) → ((n : Node) → Contains ns n ↔ Contains found n) → AreNodes document ns (in_order document es)
  unfolding in_order
  ordered_nodes ns found es a r k = record { same = same_nodes ns (map node_of (filter (is_in es) document)) (nodes_rise ns r) (entries_rise _ (filter_rises (is_in es) document order.rises)) forth back; within = all_from (λ x. Contains document x) (filter (is_in es) document) (λ x c. (kept_of (is_in es) document x c).there) }
    where
      forth : (n : Node) → Contains ns n → Contains (map node_of (filter (is_in es) document)) n
      forth n c =
          let o : EntryOf es n = entry_of es n (subst (λ f. Contains f n) a.same ((k n).0 c)) in
          let d = all_there (λ y. Contains document y) es o.entry a.within o.there in
          subst (Contains (map node_of (filter (is_in es) document))) o.is (contains_map node_of (filter (is_in es) document) o.entry (kept_in (is_in es) document o.entry d (listed_in es a.within o.entry o.there)))

      back : (n : Node) → Contains (map node_of (filter (is_in es) document)) n → Contains ns n
      back n c =
          let o : EntryOf (filter (is_in es) document) n = entry_of (filter (is_in es) document) n c in
          let p = kept_of (is_in es) document o.entry o.there in
          (k n).1 (subst (λ f. Contains f n) (sym a.same) (subst (Contains (map node_of es)) o.is (contains_map node_of es o.entry (in_list es a.within o.entry p.there p.passes))))

  -- nodes of the tree with one index are one
  pub one_node_at : (found : List Node) (es : List Entry) → AreNodes document found es → (m n : Node) → Contains found m → Contains found n → m.at ≡ n.at → m ≡ n
  one_node_at found es a m n c d e =
      let x : EntryOf es m = entry_of es m (subst (λ f. Contains f m) a.same c) in
      let y : EntryOf es n = entry_of es n (subst (λ f. Contains f n) a.same d) in
      let i = all_there (λ z. Contains document z) es x.entry a.within x.there in
      let j = all_there (λ z. Contains document z) es y.entry a.within y.there in
      let q : x.entry.index ≡ y.entry.index = ap (λ z. z.at) x.is ∙ e ∙ sym (ap (λ z. z.at) y.is) in
      sym x.is ∙ ap node_of (one_entry x.entry y.entry i j q) ∙ y.is

  -- there are at most as many nodes as records
  few_rising : (low bound : ℕ) (es : List Entry) → Rises es → AllByRecursion (λ e. low ≤ e.index) es → AllByRecursion (λ e. e.index < bound) es → low + length es ≤ bound ⊎ (length es ≡ 0)
  few_rising low bound [] r l b = inr refl
  few_rising low bound (e ∷ es) r l b = ⊎_elim (λ h. inl (omega (arith, h, l.0)))
      (λ z. inl (omega (arith, z, l.0, b.0)))
      (few_rising (suc e.index) bound es r.1 (all_from (λ y. suc e.index ≤ y.index) es (λ y c. omega (arith, all_there (λ w. e.index < w.index) es y r.0 c))) b.1)

  pub few_nodes : length document ≤ length (records nest first)
  few_nodes = ⊎_elim (λ h. omega (arith, h)) (λ z. omega (arith, z))
      (few_rising 0 (length (records nest first)) document order.rises (all_from (λ e. 0 ≤ e.index) document (λ y c. omega arith)) (all_from (λ e. e.index < length (records nest first)) document (λ y c. order.within y c)))

pub filter_length : (p : Entry → Bool) (es : List Entry) → length (filter p es) ≤ length es
filter_length p [] = omega arith
filter_length p (e ∷ es) = by (p e) (filter_length p es)
  where
    by : (b : Bool) → length (filter p es) ≤ length es → length (cond b (e ∷ filter p es) (filter p es)) ≤ suc (length es)
    by true r = omega (arith, r)
    by false r = omega (arith, r)
