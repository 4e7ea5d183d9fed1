-- The nodes of a nest are a tree, as far as a descendant step asks.
use Rattle.std.proofs.Common.{◌≡◌, ℕ, zero, suc, Bool, true, false, not, ◌&&◌, ◌==◌, ◌⊎◌, inl, inr, List, [], ◌∷◌, ◌++◌, ◌+◌, ◌≤◌, cond, map}
use Rattle.std.proofs.Common.{Contains, Option, Some, None, refl, sym, ◌∙◌, ap, subst, arith}
use Rattle.xml_model.specs.Items.{Attribute, Leaf}
use Rattle.xml_model.specs.Nest.{Forest, done, single, empty, element, is_nest}
use Rattle.xml_model.specs.Records.{declares, attributes_place, past_empty, past_element}
use Rattle.xml_model.specs.Items.{written_attribute}
use Rattle.xml_model.specs.Chars.{size}
use Rattle.xml_model.specs.declared.Axis.TheVariants.{Parent}
use Rattle.xml_model.specs.Tree.{Step, attribute, child, Path, Entry, Holder, Here, Thing, step_eq, steps, steps_under, is_step, is_child}
use Rattle.xml_model.specs.Tree.{is_child_step, ends_in_child, on_axis, attributes, attribute_entry, nodes, all, at_first, leaf_node, begins_run}
use Rattle.xml_model.specs.Tree.{run, after_leaf, inside_of, after_element, held, element_entry, tag_attributes, under, one_if}
use Rattle.xml_model.specs.Laws.{is_child_thing, is_root_thing}
use Rattle.std.specs.Prelude.{IfSome}
use Rattle.std.specs.List.{AllByRecursion as Each}
use Rattle.xml_model.proofs.Rise.{index, indexes_rise}
use Rattle.xml_model.proofs.Each.{Rising, each_append, each_option, each_more, each_map, if_some_cond, contains_here, contains_next}
use Rattle.xml_model.proofs.Axes.{Formed, formed}
use Rattle.xml_model.specs.Contexts.{Rises}
use Rattle.xml_model.proofs.Indexes.{all_rise}
use Rattle.xml_model.proofs.NodeLaws.{places_of_two, parent_there}
use Rattle.xpath_laws.specs.Fused.{Among, here, next, IsTree}

pub contains_among : (xs : List Entry) (x : Entry) → Contains xs x → Among x xs
contains_among [] x c = absurd (omega (arith, c.1))
contains_among (y ∷ xs) x (zero, l, s) = subst (λ z. Among z (y ∷ xs)) s (here y xs)
contains_among (y ∷ xs) x (suc n, l, s) = next x y xs (contains_among xs x (n, omega (arith, l), s))

rising_low : (low high : ℕ) (es : List Entry) → Rising index low es high → (x : Entry) → Contains es x → low ≤ x.index
rising_low low high [] r x c = absurd (omega (arith, c.1))
rising_low low high (e ∷ es) r x (zero, l, s) = omega (arith, r.0, ap index s)
rising_low low high (e ∷ es) r x (suc n, l, s) = let k : suc e.index ≤ x.index =
    rising_low (suc e.index) high es r.1 x (n, omega (arith, l), s) in omega (arith, k, r.0)

rising_one : (low high : ℕ) (es : List Entry) → Rising index low es high → (x y : Entry) → Contains es x → Contains es y → x.index ≡ y.index → x ≡ y
rising_one low high [] r x y c d p = absurd (omega (arith, c.1))
rising_one low high (e ∷ es) r x y (zero, l, s) (zero, m, t) p = sym s ∙ t
rising_one low high (e ∷ es) r x y (zero, l, s) (suc n, m, t) p =
    let k : suc e.index ≤ y.index = rising_low (suc e.index) high es r.1 y (n, omega (arith, m), t) in absurd (omega (arith, k, ap index s, p))
rising_one low high (e ∷ es) r x y (suc n, l, s) (zero, m, t) p =
    let k : suc e.index ≤ x.index = rising_low (suc e.index) high es r.1 x (n, omega (arith, l), s) in absurd (omega (arith, k, ap index t, p))
rising_one low high (e ∷ es) r x y (suc n, l, s) (suc k, m, t) p = rising_one (suc e.index) high es r.1 x y (n, omega (arith, l), s) (k, omega (arith, m), t) p

pub among_contains : (xs : List Entry) (x : Entry) → Among x xs → Contains xs x
among_contains _ _ (here x xs) = contains_here x xs
among_contains _ x (next _ y xs m) = contains_next y xs x (among_contains xs x m)

among_each : (P : Entry → Type 0) (xs : List Entry) (x : Entry) → Each P xs → Among x xs → P x
among_each P _ _ h (here x xs) = h.0
among_each P _ x h (next _ y xs m) = among_each P xs x h.1 m

-- Every step of a path but the last leads to a child.

abbrev inner : Path → Bool
inner [] = true
inner (s ∷ []) = true
inner (s ∷ t ∷ p) = is_child_step s && inner (t ∷ p)

inner_child : (i : ℕ) (p : Path) → inner p ≡ true → inner (child i ∷ p) ≡ true
inner_child i [] h = refl
inner_child i (t ∷ p) h = h

Inner : Entry → Type 0
Inner e = inner e.path ≡ true

inner_attributes : (others : List Attribute) (holders : List Holder) (at place i : ℕ) → Each Inner (attributes holders at place i others)
unfolding Inner
inner_attributes [] holders at place i = tt
inner_attributes (a ∷ others) holders at place i =
    each_option Inner (attribute_entry holders at place i a) _ (this (declares a.name))
    (inner_attributes others holders (at + size (written_attribute a)) (place + 2) (i + one_if (not (declares a.name))))
  where
    this : (b : Bool) → IfSome (cond b None (Some (record {
      path = Step.attribute i ∷ [];
      what = Thing.attribute a;
      holders = holders;
      start = at + size a.space;
      stop = at + size (written_attribute a);
      index =
          place;
      past = place + 2;
    }))) Inner
    this true = tt
    this false = refl

inner_leaf : (x : Leaf) (f : Forest) (h : Here) → IfSome (leaf_node h x f) Inner
unfolding Inner
inner_leaf (Leaf.text ps) f h = if_some_cond Inner (begins_run h.holders h.joins (Leaf.text ps ∷ run f)) _ refl
inner_leaf (Leaf.cdata cs) f h = if_some_cond Inner (begins_run h.holders h.joins (Leaf.cdata cs ∷ run f)) _ refl
inner_leaf (Leaf.comment cs) f h = refl
inner_leaf (Leaf.instruction i) f h = refl
inner_leaf (Leaf.declaration d) f h = tt
inner_leaf (Leaf.doctype d) f h = tt

inner_under : (i : ℕ) (e : Entry) → Inner e → Inner (under (child i) e)
unfolding Inner
inner_under i e h = inner_child i e.path h

inner_nodes : (f : Forest) (h : Here) → Each Inner (nodes h f)
unfolding Inner
inner_nodes done h = tt
inner_nodes (single x f) h = each_option Inner (leaf_node h x f) (nodes (after_leaf h x f) f) (inner_leaf x f h) (inner_nodes f (after_leaf h x f))
inner_nodes (empty t f) h =
    let own = element_entry h t done (past_empty h.at t) ∷ tag_attributes h t in
    each_append Inner (map (under (child h.number)) own) (nodes (after_element h t done (past_empty h.at t)) f)
    (each_map Inner (under (child h.number)) own (each_more Inner (λ e. Inner (under (child h.number) e)) (inner_under h.number) own
    (refl, inner_attributes t.attributes (held h t) (attributes_place h.at t) (suc h.index) 0)))
    (inner_nodes f (after_element h t done (past_empty h.at t)))
inner_nodes (element t inside space f) h =
    let stop = past_element h.at t inside space in
    let own = element_entry h t inside stop ∷ tag_attributes h t in
    each_append Inner (map (under (child h.number)) (own ++ nodes (inside_of h t) inside)) (nodes (after_element h t inside stop) f)
    (each_map Inner (under (child h.number)) (own ++ nodes (inside_of h t) inside)
    (each_more Inner (λ e. Inner (under (child h.number) e)) (inner_under h.number) (own ++ nodes (inside_of h t) inside)
    (each_append Inner own (nodes (inside_of h t) inside) (refl, inner_attributes t.attributes (held h t) (attributes_place h.at t) (suc h.index) 0)
    (inner_nodes inside (inside_of h t)))))
    (inner_nodes f (after_element h t inside stop))

inner_all : (nest : Forest) (first : ℕ) → Each (λ e. inner e.path ≡ true) (all nest first)
unfolding all Inner
inner_all nest first = (refl, inner_nodes nest (at_first first))

under_child : (P : Option Path → Bool) → P None ≡ false → (b : Bool) (o : Option Path) → P (steps_under b o) ≡ true → (b ≡ true) × (P o ≡ true)
under_child P n true o h = (refl, h)
under_child P n false o h = absurd (clash (P None) n h)
  where
    clash : (b : Bool) → b ≡ false → b ≡ true → ⊥
    clash b p q = cc

right_of : (a b : Bool) → (a && b) ≡ true → b ≡ true
right_of true b h = h
right_of false b h = absurd cc

left_of : (a b : Bool) → (a && b) ≡ true → a ≡ true
left_of true b h = refl
left_of false b h = h

same_child : (v u : Step) → step_eq v u ≡ true → is_child_step u ≡ true → is_child_step v ≡ true
same_child (child i) u e h = refl
same_child (attribute i) (attribute j) e h = h
same_child (attribute i) (child j) e h = absurd cc

bare_path : (y d : Path) → is_child (steps y d) ≡ true → inner d ≡ true → (y ≡ []) ⊎ (ends_in_child y ≡ true)
bare_path [] d k h = inl refl
bare_path (v ∷ y) [] k h = absurd cc
bare_path (v ∷ []) (u ∷ []) k h = let e = (under_child is_child refl (step_eq v u) (Some []) k).1 in absurd cc
bare_path (v ∷ []) (u ∷ w ∷ d) k h = inr (same_child v u (under_child is_child refl (step_eq v u) (Some (w ∷ d)) k).0 (left_of _ _ h))
bare_path (v ∷ t ∷ y) (u ∷ []) k h = let e = (under_child is_child refl (step_eq v u) None k).1 in absurd cc
bare_path (v ∷ t ∷ y) (u ∷ w ∷ d) k h = elim (bare_path (t ∷ y) (w ∷ d) (under_child is_child refl (step_eq v u) (steps (t ∷ y) (w ∷ d)) k).1
    (right_of (is_child_step u) _ h)) [
      | inl e ↦ absurd cc
      | inr e ↦ inr e
    ]

step_child : (y d : Path) → is_step (steps y d) ≡ true → ends_in_child d ≡ true → is_child (steps y d) ≡ true
step_child [] [] k h = absurd cc
step_child [] (attribute i ∷ []) k h = absurd cc
step_child [] (child i ∷ []) k h = refl
step_child [] (u ∷ w ∷ d) k h = absurd cc
step_child (v ∷ y) [] k h = absurd cc
step_child (v ∷ []) (u ∷ []) k h = let e = (under_child is_step refl (step_eq v u) (Some []) k).1 in absurd cc
step_child (v ∷ t ∷ y) (u ∷ []) k h = let e = (under_child is_step refl (step_eq v u) None k).1 in absurd cc
step_child (v ∷ y) (u ∷ w ∷ d) k h =
    let k' = under_child is_step refl (step_eq v u) (steps y (w ∷ d)) k in
    ap (λ b. is_child (steps_under b (steps y (w ∷ d)))) k'.0 ∙ step_child y (w ∷ d) k'.1 h

not_root : (t : Thing) → is_child_thing t ≡ true → is_root_thing t ≡ false
not_root (Thing.root first f) h = absurd cc
not_root _ h = refl

parent_is : (p q : Path) → on_axis Parent p q ≡ true → is_step (steps q p) ≡ true
unfolding on_axis
parent_is p q h = h

eq_true : (m n : ℕ) → (m == n) ≡ true → m ≡ n
eq_true m n h = grind arith

pub tree_of_nest : (nest : Forest) (first : ℕ) → is_nest nest ≡ true → IsTree (all nest first)
tree_of_nest nest first n = record {
  one = λ x y a b s.
      let c = among_contains (all nest first) x a in
      let d = among_contains (all nest first) y b in
      rising_one 0 _ (all nest first) (indexes_rise nest first) x y c d (eq_true x.index y.index (sym (places_of_two nest first x y c d).same ∙ s));
  holders = λ d m e.
      let f = among_each Formed (all nest first) d (formed nest first) m in
      let p = parent_there nest first n d (among_contains (all nest first) d m) (not_root d.what (sym f.child ∙ e)) in
      record {
        holder = p.parent;
        there = contains_among (all nest first) p.parent p.there;
        above = step_child p.parent.path d.path
            (parent_is d.path p.parent.path p.above) e;
      };
  bare = λ y d a b k. bare_path y.path d.path k (among_each (λ e. inner e.path ≡ true) (all nest first) d (inner_all nest first) b);
}

pub nest_rises : (nest : Forest) (first : ℕ) → Rises (all nest first)
nest_rises nest first = all_rise nest first
