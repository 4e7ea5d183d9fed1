-- The faults of a document's names are those of its nodes, in order.
use Rattle.std.proofs.Common.{◌≡◌, ℕ, zero, suc, ◌+◌, ◌<◌, Bool, true, false, List, [], ◌∷◌, ◌++◌, map, refl, ap, ap₂, sym, ◌∙◌, arith, append-nil, Some, None}
use Rattle.std.specs.List.{AllByRecursion as Each, Contains, flat_map, cons_option}
use Rattle.std.proofs.lemmas.List.Concat.{flat_map-append}
use Rattle.xml_model.specs.Chars.{size}
use Rattle.xml_model.specs.Items.{Attribute, Tag, Leaf, text, cdata, declaration, doctype, written_attribute}
use Rattle.xml_model.specs.Nest.{Forest, done, single, empty, element}
use Rattle.xml_model.specs.Records.{declares, past_empty, past_element, attributes_place}
use Rattle.xml_model.specs.Tree.{Step, Entry, Here, Holder, attributes, nodes, all, at_first, leaf_node, begins_run, run, after_leaf, inside_of, after_element, element_entry, tag_attributes, under, held}
use Rattle.xml_model.specs.Accepted.{Faults, leaf_faults, over_names}
use Rattle.xml_model.proofs.Each.{Rising, Pairs, each_more, rising_pairs}
use Rattle.xml_model.proofs.Rise.{indexes_rise}
use Rattle.vtd_namespaces.specs.Faults.{first_of, node_faults}

attributes_none : (w : Faults) (others : List Attribute) (holders : List Holder) (at n i : ℕ) → flat_map (node_faults w) (attributes holders at n i others) ≡ []
attributes_none w [] holders at n i = refl
attributes_none w (a ∷ others) holders at n i = by (declares a.name) refl (λ j. attributes_none w others holders (at + size (written_attribute a)) (n + 2) j)
  where
    by : (b : Bool) → declares a.name ≡ b → ((j : ℕ) → flat_map (node_faults w) (attributes holders (at + size (written_attribute a)) (n + 2) j others) ≡ []) →
        flat_map (node_faults w) (attributes holders at n i (a ∷ others)) ≡ []
    by true e rest = rw e (rest _)
    by false e rest = rw e (rest _)

leaf_same : (w : Faults) (x : Leaf) (f : Forest) (h : Here) (es : List Entry) → flat_map (node_faults w) (cons_option (leaf_node h x f) es) ≡ leaf_faults w h.at x ++ flat_map (node_faults w) es
leaf_same w (text ps) f h es = by (begins_run h.holders h.joins (text ps ∷ run f)) refl
  where
    by : (b : Bool) → begins_run h.holders h.joins (text ps ∷ run f) ≡ b → flat_map (node_faults w) (cons_option (leaf_node h (text ps) f) es) ≡ flat_map (node_faults w) es
    by true e = rw e refl
    by false e = rw e refl
leaf_same w (cdata cs) f h es = by (begins_run h.holders h.joins (cdata cs ∷ run f)) refl
  where
    by : (b : Bool) → begins_run h.holders h.joins (cdata cs ∷ run f) ≡ b → flat_map (node_faults w) (cons_option (leaf_node h (cdata cs) f) es) ≡ flat_map (node_faults w) es
    by true e = rw e refl
    by false e = rw e refl
leaf_same w (Leaf.comment cs) f h es = refl
leaf_same w (Leaf.instruction i) f h es = refl
leaf_same w (declaration d) f h es = refl
leaf_same w (doctype d) f h es = refl

-- one step further down nothing changes
under_same : (w : Faults) (s : Step) (es : List Entry) → flat_map (node_faults w) (map (under s) es) ≡ flat_map (node_faults w) es
under_same w s [] = refl
under_same w s (e ∷ es) = ap (λ l. node_faults w e ++ l) (under_same w s es)

own_same : (w : Faults) (t : Tag) (inside : Forest) (h : Here) (stop : ℕ) (more : List Entry) →
    flat_map (node_faults w) (map (under (Step.child h.number)) (element_entry h t inside stop ∷ tag_attributes h t ++ more)) ≡ w.tag h.at (map (λ x. x.tag) h.holders) t ++ flat_map (node_faults w) more
own_same w t inside h stop more =
    under_same w (Step.child h.number) (element_entry h t inside stop ∷ tag_attributes h t ++ more)
    ∙ ap (λ l. w.tag h.at (map (λ x. x.tag) h.holders) t ++ l)
    (flat_map-append (node_faults w) (tag_attributes h t) more ∙ ap (λ l. l ++ flat_map (node_faults w) more) (attributes_none w t.attributes (held h t) (attributes_place h.at t) (suc h.index) 0))

nodes_same : (w : Faults) (f : Forest) (h : Here) → over_names w (map (λ x. x.tag) h.holders) h.at f ≡ flat_map (node_faults w) (nodes h f)
nodes_same w done h = refl
nodes_same w (single x f) h = ap (λ l. leaf_faults w h.at x ++ l) (nodes_same w f (after_leaf h x f)) ∙ sym (leaf_same w x f h (nodes (after_leaf h x f) f))
nodes_same w (empty t f) h =
    let stop = past_empty h.at t in
    let mine = w.tag h.at (map (λ x. x.tag) h.holders) t in
    let more = nodes (after_element h t done stop) f in
    let own = element_entry h t done stop ∷ tag_attributes h t in
    ap (λ l. mine ++ l) (nodes_same w f (after_element h t done stop))
    ∙ sym (flat_map-append (node_faults w) (map (under (Step.child h.number)) own) more
    ∙ ap (λ l. l ++ flat_map (node_faults w) more) (ap (λ l. flat_map (node_faults w) (map (under (Step.child h.number)) (element_entry h t done stop ∷ l))) (sym (append-nil (tag_attributes h t))) ∙ own_same w t done h stop [] ∙ append-nil mine))
nodes_same w (element t inside space f) h =
    let stop = past_element h.at t inside space in
    let mine = w.tag h.at (map (λ x. x.tag) h.holders) t in
    let more = nodes (after_element h t inside stop) f in
    let within = nodes (inside_of h t) inside in
    let own = element_entry h t inside stop ∷ tag_attributes h t ++ within in
    ap₂ (λ k l. mine ++ k ++ l) (nodes_same w inside (inside_of h t)) (nodes_same w f (after_element h t inside stop))
    ∙ sym (flat_map-append (node_faults w) (map (under (Step.child h.number)) own) more ∙ ap (λ l. l ++ flat_map (node_faults w) more) (own_same w t inside h stop within))

-- the faults of a document's names are those of its nodes
pub faults_same : (w : Faults) (first : ℕ) (nest : Forest) → over_names w [] first nest ≡ flat_map (node_faults w) (all nest first)
unfolding all
faults_same w first nest = nodes_same w nest (at_first first)

-- The first fault.

-- no node whose first record is before the one with an index has a fault
abbrev pub NoneBefore : Faults → ℕ → List Entry → Type 0
NoneBefore w n es = Each (λ e. e.index < n → node_faults w e ≡ []) es

none_at_all : (w : Faults) (n : ℕ) (es : List Entry) → NoneBefore w n es → Each (λ e. e.index < n) es → flat_map (node_faults w) es ≡ []
none_at_all w n [] h l = refl
none_at_all w n (e ∷ es) h l = ap₂ (λ x y. x ++ y) (h.0 l.0) (none_at_all w n es h.1 l.1)

first_append : (xs ys : List ℕ) (at : ℕ) → first_of xs ≡ Some at → first_of (xs ++ ys) ≡ Some at
first_append [] ys at h = absurd (cc)
first_append (x ∷ xs) ys at h = h

first_here : (w : Faults) (n at : ℕ) (es : List Entry) → NoneBefore w n es → Pairs (λ x y. x.index < y.index) es → (e : Entry) → Contains es e → e.index ≡ n → first_of (node_faults w e) ≡ Some at →
    first_of (flat_map (node_faults w) es) ≡ Some at
first_here w n at [] h p e c k s = absurd (omega (arith, c.1))
first_here w n at (x ∷ es) h p e (zero, l, q) k s = let same : x ≡ e = q in first_append (node_faults w x) (flat_map (node_faults w) es) at (ap (λ y. first_of (node_faults w y)) same ∙ s)
first_here w n at (x ∷ es) h p e (suc j, l, q) k s =
    let c : Contains es e = (j, omega (arith, l), q) in
    let low : x.index < e.index = Rattle.xml_model.proofs.Each.each_at (λ y. x.index < y.index) es e p.0 c in
    let none : node_faults w x ≡ [] = h.0 (omega (arith, low, k)) in
    ap (λ y. first_of (y ++ flat_map (node_faults w) es)) none ∙ first_here w n at es h.1 p.1 e c k s

pub first_found : (w : Faults) (first n at : ℕ) (nest : Forest) → NoneBefore w n (all nest first) → (e : Entry) → Contains (all nest first) e → e.index ≡ n → first_of (node_faults w e) ≡ Some at →
    first_of (over_names w [] first nest) ≡ Some at
first_found w first n at nest h e c k s =
    ap first_of (faults_same w first nest) ∙ first_here w n at (all nest first) h (rising_pairs (λ x. x.index) 0 _ (all nest first) (indexes_rise nest first)) e c k s

pub none_found : (w : Faults) (first n : ℕ) (nest : Forest) → NoneBefore w n (all nest first) → Each (λ e. e.index < n) (all nest first) → first_of (over_names w [] first nest) ≡ None
none_found w first n nest h l = ap first_of (faults_same w first nest ∙ none_at_all w n (all nest first) h l)

pub none_listed : (xs : List ℕ) → first_of xs ≡ None → xs ≡ []
none_listed [] h = refl
none_listed (x ∷ xs) h = absurd (cc)

pub some_listed : (xs : List ℕ) (at : ℕ) → first_of xs ≡ Some at → (others : List ℕ) × (xs ≡ at ∷ others)
some_listed [] at h = absurd (cc)
some_listed (x ∷ xs) at h = let same : x ≡ at = cc in (xs, ap (λ y. y ∷ xs) same)
