-- The elements that hold nodes: their indexes fall, and what holds an element holds what is in it.
use Rattle.std.proofs.Common.{◌≡◌, ℕ, suc, ◌+◌, ◌≤◌, Bool, true, false, cond, List, [], ◌∷◌, ◌++◌, refl, ap, ap₂, sym, ◌∙◌, subst, arith, Some, None, IfSome, ◌&&◌, ◌||◌, not}
use Rattle.std.specs.Prelude.{Contains, is_some, filter, map}
use Rattle.std.specs.List.{list_any, AllByRecursion as Each}
use Rattle.std.proofs.lemmas.Bool.{false≢true}
use Rattle.xml_model.specs.Chars.{size}
use Rattle.xml_model.specs.Items.{Attribute, Tag, Leaf, text, cdata, declaration, doctype, written_attribute}
use Rattle.xml_model.specs.Nest.{Forest, done, single, empty, element}
use Rattle.xml_model.specs.Records.{declares, attributes_place, past_empty, past_element}
use Rattle.xml_model.specs.Tree.{Step, Thing, Entry, Holder, Here, attributes, attribute_entry, nodes, all, at_first, leaf_node, begins_run, run, after_leaf}
use Rattle.xml_model.specs.Tree.{inside_of, after_element, element_entry, tag_attributes, under, held, one_if, steps}
use Rattle.xml_model.proofs.Each.{each_append, each_option, each_map, each_at, if_some_cond}
use Rattle.xml_fragments.specs.Fragment.{reaching, subtree}
use Rattle.xml_fragments.specs.Cut.{whole_nodes}
use Rattle.xml_fragments.proofs.Subtree.{Falls, pathless, nodes_of as subtree_nodes}

-- ---- the holders of each node fall

abbrev pub OwnFalls : Entry → Type 0
OwnFalls x = Falls x.index x.holders

falls_more : (n m : ℕ) (hs : List Holder) → n ≤ m → Falls n hs → Falls m hs
falls_more n m [] l f = tt
falls_more n m (x ∷ hs) l f = (omega (arith, l, f.0), f.1)

some_attribute : (b : Bool) (e : Entry) → OwnFalls e → IfSome (cond b None (Some e)) OwnFalls
some_attribute true e s = tt
some_attribute false e s = s

attributes_fall : (hs : List Holder) (at n i : ℕ) (others : List Attribute) → Falls n hs → Each OwnFalls (attributes hs at n i others)
attributes_fall hs at n i [] f = tt
attributes_fall hs at n i (a ∷ others) f =
    each_option OwnFalls (attribute_entry hs at n i a) _
    (some_attribute (declares a.name) (record { path = Step.attribute i ∷ []; what = Thing.attribute a; holders = hs; start = at + size a.space; stop = at + size (written_attribute a); index = n; past = n + 2 }) f)
    (attributes_fall hs (at + size (written_attribute a)) (n + 2) (i + one_if (not (declares a.name))) others (falls_more n (n + 2) hs (omega arith) f))

leaf_falls : (h : Here) (x : Leaf) (f : Forest) → Falls h.index h.holders → IfSome (leaf_node h x f) OwnFalls
leaf_falls h (text ps) f s = if_some_cond OwnFalls (begins_run h.holders h.joins (text ps ∷ run f)) _ s
leaf_falls h (cdata cs) f s = if_some_cond OwnFalls (begins_run h.holders h.joins (cdata cs ∷ run f)) _ s
leaf_falls h (Leaf.comment cs) f s = s
leaf_falls h (Leaf.instruction i) f s = s
leaf_falls h (declaration d) f s = tt
leaf_falls h (doctype d) f s = tt

nodes_fall : (f : Forest) (h : Here) → Falls h.index h.holders → Each OwnFalls (nodes h f)
nodes_fall done h s = tt
nodes_fall (single x f) h s =
    let a = after_leaf h x f in
    each_option OwnFalls (leaf_node h x f) (nodes a f) (leaf_falls h x f s) (nodes_fall f a (falls_more h.index a.index h.holders (omega arith) s))
nodes_fall (empty t f) h s =
    let stop = past_empty h.at t in
    let b = after_element h t done stop in
    each_append OwnFalls (map (under (Step.child h.number)) (element_entry h t done stop ∷ tag_attributes h t)) (nodes b f)
    (each_map OwnFalls (under (Step.child h.number)) (element_entry h t done stop ∷ tag_attributes h t)
    (s, attributes_fall (held h t) (attributes_place h.at t) (suc h.index) 0 t.attributes (omega arith, s)))
    (nodes_fall f b (falls_more h.index b.index h.holders (omega arith) s))
nodes_fall (element t inside space f) h s =
    let stop = past_element h.at t inside space in
    let b = after_element h t inside stop in
    let i = inside_of h t in
    each_append OwnFalls (map (under (Step.child h.number)) (element_entry h t inside stop ∷ tag_attributes h t ++ nodes i inside)) (nodes b f)
    (each_map OwnFalls (under (Step.child h.number)) (element_entry h t inside stop ∷ tag_attributes h t ++ nodes i inside) (
      s,
      each_append OwnFalls (tag_attributes h t) (nodes i inside) (attributes_fall (held h t) (attributes_place h.at t) (suc h.index) 0 t.attributes (omega arith, s))
          (nodes_fall inside i (omega arith, s)),
    ))
    (nodes_fall f b (falls_more h.index b.index h.holders (omega arith) s))

pub all_fall : (nest : Forest) (first : ℕ) → Each OwnFalls (all nest first)
unfolding all
all_fall nest first = (tt, nodes_fall nest (at_first first) tt)

pub reaching_falls : (x : Entry) → OwnFalls x → Falls (suc x.index) (reaching x)
reaching_falls x s = by x.what
  where
    by : (what : Thing) → Falls (suc x.index) (reaching (record x { what = what }))
    by (Thing.element t inside) = (omega arith, s)
    by (Thing.attribute a) = falls_more x.index (suc x.index) x.holders (omega arith) s
    by (Thing.root first f) = falls_more x.index (suc x.index) x.holders (omega arith) s
    by (Thing.text xs) = falls_more x.index (suc x.index) x.holders (omega arith) s
    by (Thing.comment cs) = falls_more x.index (suc x.index) x.holders (omega arith) s
    by (Thing.instruction i) = falls_more x.index (suc x.index) x.holders (omega arith) s

-- ---- the nodes of an element are held by what holds it

abbrev pub Extends : List Holder → Entry → Type 0
Extends hs x = (near : List Holder) × (x.holders ≡ near ++ hs)

some_extends : (hs : List Holder) (b : Bool) (e : Entry) → Extends hs e → IfSome (cond b None (Some e)) (Extends hs)
some_extends hs true e s = tt
some_extends hs false e s = s

attributes_extend : (hs own : List Holder) (at n i : ℕ) (others : List Attribute) → (near : List Holder) → own ≡ near ++ hs → Each (Extends hs) (attributes own at n i others)
attributes_extend hs own at n i [] near e = tt
attributes_extend hs own at n i (a ∷ others) near e =
    each_option (Extends hs) (attribute_entry own at n i a) _
    (some_extends hs (declares a.name) (record { path = Step.attribute i ∷ []; what = Thing.attribute a; holders = own; start = at + size a.space; stop = at + size (written_attribute a); index = n; past = n + 2 }) (near, e))
    (attributes_extend hs own (at + size (written_attribute a)) (n + 2) (i + one_if (not (declares a.name))) others near e)

leaf_extends : (hs : List Holder) (h : Here) (x : Leaf) (f : Forest) (near : List Holder) → h.holders ≡ near ++ hs → IfSome (leaf_node h x f) (Extends hs)
leaf_extends hs h (text ps) f near e = if_some_cond (Extends hs) (begins_run h.holders h.joins (text ps ∷ run f)) _ (near, e)
leaf_extends hs h (cdata cs) f near e = if_some_cond (Extends hs) (begins_run h.holders h.joins (cdata cs ∷ run f)) _ (near, e)
leaf_extends hs h (Leaf.comment cs) f near e = (near, e)
leaf_extends hs h (Leaf.instruction i) f near e = (near, e)
leaf_extends hs h (declaration d) f near e = tt
leaf_extends hs h (doctype d) f near e = tt

nodes_extend : (hs : List Holder) (f : Forest) (h : Here) (near : List Holder) → h.holders ≡ near ++ hs → Each (Extends hs) (nodes h f)
nodes_extend hs done h near e = tt
nodes_extend hs (single x f) h near e = each_option (Extends hs) (leaf_node h x f) (nodes (after_leaf h x f) f) (leaf_extends hs h x f near e) (nodes_extend hs f (after_leaf h x f) near e)
nodes_extend hs (empty t f) h near e =
    let stop = past_empty h.at t in
    let b = after_element h t done stop in
    let own : Holder = record { tag = t; index = h.index } in
    each_append (Extends hs) (map (under (Step.child h.number)) (element_entry h t done stop ∷ tag_attributes h t)) (nodes b f)
    (each_map (Extends hs) (under (Step.child h.number)) (element_entry h t done stop ∷ tag_attributes h t)
    ((near, e), attributes_extend hs (held h t) (attributes_place h.at t) (suc h.index) 0 t.attributes (own ∷ near) (ap (λ (l : List Holder). own ∷ l) e)))
    (nodes_extend hs f b near e)
nodes_extend hs (element t inside space f) h near e =
    let stop = past_element h.at t inside space in
    let b = after_element h t inside stop in
    let i = inside_of h t in
    let own : Holder = record { tag = t; index = h.index } in
    let more = ap (λ (l : List Holder). own ∷ l) e in
    each_append (Extends hs) (map (under (Step.child h.number)) (element_entry h t inside stop ∷ tag_attributes h t ++ nodes i inside)) (nodes b f)
    (each_map (Extends hs) (under (Step.child h.number)) (element_entry h t inside stop ∷ tag_attributes h t ++ nodes i inside) (
      (near, e),
      each_append (Extends hs) (tag_attributes h t) (nodes i inside)
          (attributes_extend hs (held h t) (attributes_place h.at t) (suc h.index) 0 t.attributes (own ∷ near) more) (nodes_extend hs inside i (own ∷ near) more),
    ))
    (nodes_extend hs f b near e)

whole_extends : (h : Here) (t : Tag) (inside : Forest) (stop : ℕ) → Each (Extends h.holders) (whole_nodes h t inside stop)
whole_extends h t inside stop =
    let own : Holder = record { tag = t; index = h.index } in (
      ([], refl),
      each_append (Extends h.holders) (tag_attributes h t) (nodes (inside_of h t) inside)
          (attributes_extend h.holders (held h t) (attributes_place h.at t) (suc h.index) 0 t.attributes (own ∷ []) refl)
          (nodes_extend h.holders inside (inside_of h t) (own ∷ []) refl),
    )

each_unmap : (P : Entry → Type 0) (xs : List Entry) → Each P (map pathless xs) → Each (λ x. P (pathless x)) xs
each_unmap P [] h = tt
each_unmap P (x ∷ xs) h = (h.0, each_unmap P xs h.1)

subtree_extends : (nest : Forest) (first : ℕ) (e : Entry) (t : Tag) (inside : Forest) → Contains (all nest first) e → e.what ≡ Thing.element t inside →
    Each (Extends e.holders) (subtree e.path (all nest first))
subtree_extends nest first e t inside there is =
    let n = subtree_nodes nest first e t inside there is in
    let w = whole_nodes n.here t inside n.stop in
    let one : Each (Extends e.holders) w = subst (λ (hs : List Holder). Each (Extends hs) w) n.holders (whole_extends n.here t inside n.stop) in
    each_unmap (Extends e.holders) (subtree e.path (all nest first))
    (subst (λ (es : List Entry). Each (Extends e.holders) es) (sym n.are) (each_map (Extends e.holders) pathless w one))

pub reaching_extends : (x : Entry) (hs : List Holder) → Extends hs x → (near : List Holder) × (reaching x ≡ near ++ hs)
reaching_extends x hs s = by x.what
  where
    by : (what : Thing) → (near : List Holder) × (reaching (record x { what = what }) ≡ near ++ hs)
    by (Thing.element t inside) = let own : Holder = record { tag = t; index = x.index } in (own ∷ s.0, ap (λ (l : List Holder). own ∷ l) s.1)
    by (Thing.attribute a) = s
    by (Thing.root first f) = s
    by (Thing.text xs) = s
    by (Thing.comment cs) = s
    by (Thing.instruction i) = s

-- ---- nodes of an element

pub any_filter : (q p : Entry → Bool) (xs : List Entry) → list_any p (filter q xs) ≡ list_any (λ x. q x && p x) xs
any_filter q p [] = refl
any_filter q p (x ∷ xs) = by (q x) (p x) x (filter q xs) (list_any (λ y. q y && p y) xs) refl (any_filter q p xs)
  where
    by : (b c : Bool) (x : Entry) (ys : List Entry) (z : Bool) → p x ≡ c → list_any p ys ≡ z → list_any p (cond b (x ∷ ys) ys) ≡ ((b && c) || z)
    by true c x ys z e k = ap₂ (λ (a b : Bool). a || b) e k
    by false c x ys z e k = k

each_unfilter : (P : Entry → Type 0) (q : Entry → Bool) (xs : List Entry) → Each P (filter q xs) → Each (λ x. q x ≡ true → P x) xs
each_unfilter P q [] h = tt
each_unfilter P q (x ∷ xs) h = by (q x) refl h (each_unfilter P q xs)
  where
    by : (b : Bool) → q x ≡ b → Each P (cond b (x ∷ filter q xs) (filter q xs)) → (Each P (filter q xs) → Each (λ y. q y ≡ true → P y) xs) → Each (λ y. q y ≡ true → P y) (x ∷ xs)
    by true e h more = ((λ k. h.0), more h.1)
    by false e h more = ((λ k. absurd (false≢true (sym e ∙ k))), more h)

pub any_false : (xs : List Entry) → list_any (λ x. false) xs ≡ false
any_false [] = refl
any_false (x ∷ xs) = any_false xs

-- whether a node is the element of a round or under it
abbrev pub is_inside : Entry → Entry → Bool
is_inside e x = is_some (steps e.path x.path)

pub extends_at : (nest : Forest) (first : ℕ) (e : Entry) (t : Tag) (inside : Forest) (x : Entry) → Contains (all nest first) e → e.what ≡ Thing.element t inside → Contains (all nest first) x → is_inside e x ≡ true → Extends e.holders x
extends_at nest first e t inside x own w c h =
    each_at (λ (y : Entry). is_inside e y ≡ true → Extends e.holders y) (all nest first) x (each_unfilter (Extends e.holders) (is_inside e) (all nest first) (subtree_extends nest first e t inside own w)) c h
