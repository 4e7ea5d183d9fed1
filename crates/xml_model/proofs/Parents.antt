-- Every node but the root has a parent among the nodes: its nearest holder, or the root where no element holds it.
use Rattle.std.proofs.Common.{◌≡◌, ℕ, suc, ◌+◌, ◌<◌, ◌≤◌, true, false, List, [], ◌∷◌, ◌++◌, map, refl, ap, ap₂, sym, ◌∙◌, arith, length, Option, Some}
use Rattle.std.proofs.Common.{None, IfSome, inl, inr, ⊎_elim, ◌⊎◌, not}
use Rattle.std.specs.Prelude.{⊤}
use Rattle.std.specs.List.{AllByRecursion as Each, Contains, cons_option}
use Rattle.std.proofs.lemmas.List.Elements.{Contains-append_left, Contains-append_right}
use Rattle.xml_model.specs.Chars.{size}
use Rattle.xml_model.specs.Items.{Attribute, Tag, Leaf, written_attribute}
use Rattle.xml_model.specs.Nest.{Forest, done, single, empty, element}
use Rattle.xml_model.specs.Records.{declares, attributes_place, past_empty, past_element}
use Rattle.xml_model.specs.Tree.{Holder, held, Path, Step, steps, steps_under, is_step, Entry, Here, Thing, attributes, attribute_entry, nodes, all}
use Rattle.xml_model.specs.Tree.{root_entry, at_first, leaf_node, begins_run, run, after_leaf, inside_of, after_element, element_entry, tag_attributes}
use Rattle.xml_model.specs.Tree.{under, one_if}
use Rattle.xml_model.specs.Laws.{holder_index}
use Rattle.xml_model.proofs.Each.{each_append, each_option, each_map, each_more, if_some_cond, if_some_false, contains_here, contains_next, contains_map}
use Rattle.xml_model.proofs.Levels.{Shallow}
use Rattle.xml_model.proofs.Axes.{step_same}
use Rattle.xml_model.proofs.Intervals.{own_nodes, empty_as_element}

-- not the root, and an attribute is no declaration
abbrev pub Named : Thing → Type 0
Named (Thing.attribute a) = declares a.name ≡ false
Named (Thing.root first f) = ⊥
Named _ = ⊤

-- an attribute is held by an element
abbrev pub IsHeld : Thing → ℕ → Type 0
IsHeld (Thing.attribute a) n = 0 < n
IsHeld _ n = ⊤

-- a node with one step, under what begins at a place
pub record AtTop (base : ℕ) (e : Entry) : Type 0 where
  pub step : Step
  pub path : e.path ≡ step ∷ []
  pub index : holder_index e.holders ≡ base

pub record ParentIn (es : List Entry) (e : Entry) : Type 0 where
  pub parent : Entry
  pub there : Contains es parent
  pub above : is_step (steps parent.path e.path) ≡ true
  pub index : parent.index ≡ holder_index e.holders

pub record Known (es : List Entry) (base : ℕ) (e : Entry) : Type 0 where
  pub bounded : length e.holders ≤ 255
  pub names : Named e.what
  pub held : IsHeld e.what (length e.holders)
  pub parent : AtTop base e ⊎ ParentIn es e

-- in a longer list
parent_in : (es more : List Entry) (e : Entry) → ((p : Entry) → Contains es p → Contains more p) → ParentIn es e → ParentIn more e
parent_in es more e f h = record { parent = h.parent; there = f h.parent h.there; above = h.above; index = h.index }

known_in : (es more : List Entry) (base : ℕ) → ((p : Entry) → Contains es p → Contains more p) → (e : Entry) → Known es base e → Known more base e
known_in es more base f e h = record {
  bounded = h.bounded;
  names = h.names;
  held = h.held;
  parent = ⊎_elim (λ t. inl t)
      (λ t. inr (parent_in es more e f t)) h.parent;
}

known_left : (es more : List Entry) (base : ℕ) (e : Entry) → Known es base e → Known (es ++ more) base e
known_left es more base e h = known_in es (es ++ more) base (λ p c. Contains-append_left es more p c) e h

known_right : (es more : List Entry) (base : ℕ) (e : Entry) → Known more base e → Known (es ++ more) base e
known_right es more base e h = known_in more (es ++ more) base (λ p c. Contains-append_right es more p c) e h

-- one step further down both
steps_deeper : (s : Step) (p q : Path) → steps (s ∷ p) (s ∷ q) ≡ steps p q
steps_deeper s p q = ap (λ b. steps_under b (steps p q)) (step_same s)

-- what is in an element, of its own list, then is under the element
below_element : (s : Step) (me : Entry) (inner : List Entry) (base : ℕ) → me.path ≡ [] → (e : Entry) → Known inner me.index e →
    Known (map (under s) (me ∷ inner)) base (under s e)
below_element s me inner base top e h = record { bounded = h.bounded; names = h.names; held = h.held; parent = inr (⊎_elim from_me from_inner h.parent) }
  where
    from_me : AtTop me.index e → ParentIn (map (under s) (me ∷ inner)) (under s e)
    from_me t = record {
      parent = under s me;
      there = contains_here (under s me) (map (under s) inner);
      above = ap is_step (steps_deeper s me.path e.path ∙ ap₂ steps top t.path);
      index = sym t.index;
    }

    from_inner : ParentIn inner e → ParentIn (map (under s) (me ∷ inner)) (under s e)
    from_inner t = record {
      parent = under s t.parent;
      there = contains_next (under s me) (map (under s) inner) (under s t.parent) (contains_map (under s) inner t.parent t.there);
      above = ap is_step (steps_deeper s t.parent.path e.path) ∙ t.above;
      index = t.index;
    }

known_attributes : (others : List Attribute) (holders : List Holder) (at index i : ℕ) (es : List Entry) → length holders ≤ 255 → 0 < length holders →
    Each (Known es (holder_index holders)) (attributes holders at index i others)
known_attributes [] holders at index i es k some = tt
known_attributes (a ∷ others) holders at index i es k some =
    each_option (Known es (holder_index holders)) (attribute_entry holders at index i a) _
    (if_some_false (Known es (holder_index holders)) (declares a.name) _
    (λ n. record { bounded = k; names = n; held = some; parent = inl (record { step = Step.attribute i; path = refl; index = refl }) }))
    (known_attributes others holders (at + size (written_attribute a)) (index + 2) (i + one_if (not (declares a.name))) es k some)

known_leaf : (x : Leaf) (f : Forest) (h : Here) (es : List Entry) → length h.holders ≤ 255 → IfSome (leaf_node h x f) (Known es (holder_index h.holders))
known_leaf (Leaf.text ps) f h es k =
    if_some_cond (Known es (holder_index h.holders)) (begins_run h.holders h.joins (Leaf.text ps ∷ run f)) _
    (record { bounded = k; names = tt; held = tt; parent = inl (record { step = Step.child h.number; path = refl; index = refl }) })
known_leaf (Leaf.cdata cs) f h es k =
    if_some_cond (Known es (holder_index h.holders)) (begins_run h.holders h.joins (Leaf.cdata cs ∷ run f)) _
    (record { bounded = k; names = tt; held = tt; parent = inl (record { step = Step.child h.number; path = refl; index = refl }) })
known_leaf (Leaf.comment cs) f h es k = record {
  bounded = k;
  names = tt;
  held = tt;
  parent = inl
      (record { step = Step.child h.number; path = refl; index = refl });
}
known_leaf (Leaf.instruction i) f h es k = record {
  bounded = k;
  names = tt;
  held = tt;
  parent = inl
      (record { step = Step.child h.number; path = refl; index = refl });
}
known_leaf (Leaf.declaration d) f h es k = tt
known_leaf (Leaf.doctype d) f h es k = tt

known_piece : (t : Tag) (inside : Forest) (h : Here) (stop : ℕ) (more : List Entry) → length h.holders ≤ 254 →
    Each (Known (nodes (inside_of h t) inside) h.index) (nodes (inside_of h t) inside) → Each (Known more (holder_index h.holders)) more →
    Each (Known (own_nodes h t inside stop ++ more) (holder_index h.holders)) (own_nodes h t inside stop ++ more)
known_piece t inside h stop more k within after_it =
    let base = holder_index h.holders in
    let s = Step.child h.number in
    let me = element_entry h t inside stop in
    let tags = tag_attributes h t in
    let ins = nodes (inside_of h t) inside in
    let own = own_nodes h t inside stop in
    let inner : Each (Known (tags ++ ins) h.index) (tags ++ ins) =
    each_append (Known (tags ++ ins) h.index) tags ins
    (known_attributes t.attributes (held h t) (attributes_place h.at t) (suc h.index) 0 (tags ++ ins) (omega arith) (omega arith))
    (each_more (Known ins h.index) (Known (tags ++ ins) h.index) (known_right tags ins h.index) ins within) in
    let mine : Each (Known own base) own = each_map (Known own base) (under s) (me ∷ tags ++ ins) (
      record { bounded = omega arith; names = tt; held = tt; parent = inl (record { step = s; path = refl; index = refl }) },
      each_more (Known (tags ++ ins) h.index) (λ e. Known own base (under s e)) (below_element s me (tags ++ ins) base refl) (tags ++ ins) inner,
    ) in
    each_append (Known (own ++ more) base) own more (each_more (Known own base) (Known (own ++ more) base) (known_left own more base) own mine)
    (each_more (Known more base) (Known (own ++ more) base) (known_right own more base) more after_it)

option_as_list : (o : Option Entry) (es : List Entry) (p : Entry) → Contains es p → Contains (cons_option o es) p
option_as_list None es p c = c
option_as_list (Some e) es p c = contains_next e es p c

known_nodes : (f : Forest) (h : Here) → length h.holders ≤ 255 → Shallow (length h.holders) f →
    Each (Known (nodes h f) (holder_index h.holders)) (nodes h f)
known_nodes done h k s = tt
known_nodes (single x f) h k s =
    let base = holder_index h.holders in
    let more = nodes (after_leaf h x f) f in
    let es = cons_option (leaf_node h x f) more in
    each_option (Known es base) (leaf_node h x f) more (known_leaf x f h es k)
    (each_more (Known more base) (Known es base) (known_in more es base (option_as_list (leaf_node h x f) more)) more
    (known_nodes f (after_leaf h x f) k s))
known_nodes (empty t f) h k s =
    let stop = past_empty h.at t in
    let more = nodes (after_element h t done stop) f in
    empty_as_element (λ es. Each (Known es (holder_index h.holders)) es) t h stop more
    (known_piece t done h stop more s.0 tt (known_nodes f (after_element h t done stop) k s.1))
known_nodes (element t inside space f) h k s =
    let stop = past_element h.at t inside space in
    let next = after_element h t inside stop in
    known_piece t inside h stop (nodes next f) s.0 (known_nodes inside (inside_of h t) (omega arith) s.1) (known_nodes f next k s.2)

-- the law: of each node of the tree but the root
pub record KnownNode (es : List Entry) (e : Entry) : Type 0 where
  pub bounded : length e.holders ≤ 255
  pub names : Named e.what
  pub held : IsHeld e.what (length e.holders)
  pub parent : ParentIn es e

known_node : (nest : Forest) (first : ℕ) (e : Entry) → Known (nodes (at_first first) nest) 0 e → KnownNode (all nest first) e
unfolding all
known_node nest first e h = record { bounded = h.bounded; names = h.names; held = h.held; parent = ⊎_elim from_root from_nodes h.parent }
  where
    from_root : AtTop 0 e → ParentIn (all nest first) e
    from_root t = record {
      parent = root_entry nest first;
      there = contains_here (root_entry nest first) (nodes (at_first first) nest);
      above = ap
          (λ p. is_step (steps [] p)) t.path;
      index = sym t.index;
    }

    from_nodes : ParentIn (nodes (at_first first) nest) e → ParentIn (all nest first) e
    from_nodes t = record {
      parent = t.parent;
      there = contains_next (root_entry nest first) (nodes (at_first first) nest) t.parent t.there;
      above =
          t.above;
      index = t.index;
    }

pub known_each : (nest : Forest) (first : ℕ) → Shallow 0 nest → Each (KnownNode (all nest first)) (nodes (at_first first) nest)
known_each nest first s = each_more (Known (nodes (at_first first) nest) 0) (KnownNode (all nest first)) (known_node nest first) (nodes
    (at_first first) nest) (known_nodes nest (at_first first) (omega arith) s)
