-- The declarations that an element needs by its nodes are those that it needs by its tags.
use Rattle.std.proofs.Common.{◌≡◌, ℕ, suc, ◌+◌, ◌<◌, Bool, true, false, cond, inl, inr, List, [], ◌∷◌, ◌++◌, map, refl, sym, ap}
use Rattle.std.proofs.Common.{ap₂, ◌∙◌}
use Rattle.std.proofs.Common.{arith, append_assoc, ◌&&◌, ◌||◌, ◌==◌, Option, Some, None, not, ne_eqb, eq-eqb, subst}
use Rattle.std.specs.Prelude.{is_some, filter, find, bytes_eq, codes}
use Rattle.std.specs.List.{list_any, list_all, cons_option, AllByRecursion as Each}
use Rattle.std.proofs.lemmas.Bool.{and_parts, or_cases, or_left, or_right, false≢true}
use Rattle.std.proofs.lemmas.List.Folds.{list_any-append}
use Rattle.std.proofs.lemmas.Slice.Eq.{bytes_eq-Decides}
use Rattle.xml_model.specs.Chars.{size, prefix_of, after_colon, is_qname, is_ncname, is_name, is_name_start, is_name_char, in_ranges}
use Rattle.xml_model.specs.Chars.{begins}
use Rattle.xml_model.specs.Items.{Attribute, Tag, Leaf, text, cdata, declaration, doctype, is_nil, written_attribute}
use Rattle.xml_model.specs.Nest.{Forest, done, single, empty, element}
use Rattle.xml_model.specs.Records.{declares, attributes_place, past_leaf, past_empty, past_element}
use Rattle.xml_model.specs.Content.{value_content}
use Rattle.xml_model.specs.Names.{declaring}
use Rattle.xml_model.specs.Tree.{Step, Thing, Entry, Holder, Here, attributes, nodes, leaf_node, begins_run, run, after_leaf}
use Rattle.xml_model.specs.Tree.{inside_of, after_element}
use Rattle.xml_model.specs.Tree.{element_entry, tag_attributes, under, held, one_if}
use Rattle.xml_chars.proofs.Readers.{begins_split}
use Rattle.xml_fragments.specs.Cut.{has_declaration, is_written_with, uses, is_free, is_needed, needed, whole_nodes, tags_held}
use Rattle.xml_fragments.specs.Fragment.{reaching, binds, is_written, needs, needed_of}
use Rattle.xml_fragments.proofs.CutNames.{is_sound, all_sound}
use Rattle.xml_fragments.proofs.Needed.{names}
use Rattle.xml_fragments.proofs.Subtree.{pathless, Falls}

-- a name that a declaration of this element binds
abbrev pub hit : List ℕ → Holder → Entry → Bool
hit p u x = binds p u (reaching x) && is_written p x.what

-- ---- names that are bound from outside

past_by : (d : Bool) (n m : ℕ) (b : Bool) → m < n → cond d (n == m) b ≡ (not d && b)
past_by true n m b l = ne_eqb n m (λ e. omega (arith, l, e))
past_by false n m b l = refl

binds_held : (p : List ℕ) (u : Holder) (h : Here) (t : Tag) → u.index < h.index →
    binds p u (held h t) ≡ (not (has_declaration p t) && binds p u h.holders)
binds_held p u h t l = past_by (has_declaration p t) h.index u.index (binds p u h.holders) l

no_attribute : (b n : Bool) → false ≡ (b && (n && false))
no_attribute true true = refl
no_attribute true false = refl
no_attribute false n = refl

one_attribute : (d b n w rest : Bool) (p : List ℕ) (u : Holder) (x : Entry) (xs : List Entry) → hit p u x ≡ (b && (n && w)) →
    list_any (hit p u) xs ≡ (b && (n && rest)) →
    list_any (hit p u) (cons_option (cond d None (Some x)) xs) ≡ (b && (n && ((not d && w) || rest)))
one_attribute true b n w rest p u x xs h k = k
one_attribute false b n w rest p u x xs h k = ap₂ (λ (y z : Bool). y || z) h k ∙ by b n w rest
  where
    by : (b n w rest : Bool) → ((b && (n && w)) || (b && (n && rest))) ≡ (b && (n && (w || rest)))
    by true true w rest = refl
    by true false w rest = refl
    by false n w rest = refl

hit_attributes : (others : List Attribute) (hs : List Holder) (at n i : ℕ) (p : List ℕ) (u : Holder) →
    list_any (hit p u) (attributes hs at n i others) ≡ (binds p u hs && (not (is_nil p) && list_any (is_written_with p) others))
hit_attributes [] hs at n i p u = no_attribute (binds p u hs) (not (is_nil p))
hit_attributes (a ∷ others) hs at n i p u =
    let next = attributes hs (at + size (written_attribute a)) (n + 2) (i + one_if (not (declares a.name))) others in
    one_attribute (declares a.name) (binds p u hs) (not (is_nil p)) (bytes_eq (prefix_of a.name) p)
    (list_any (is_written_with p) others) p u
    (record {
      path = Step.attribute i ∷ [];
      what = Thing.attribute a;
      holders = hs;
      start = at + size a.space;
      stop = at + size
          (written_attribute a);
      index = n;
      past = n + 2;
    })
    next refl (hit_attributes others hs (at + size (written_attribute a)) (n + 2) (i + one_if (not (declares a.name))) p u)

hit_under : (p : List ℕ) (u : Holder) (s : Step) (es : List Entry) → list_any (hit p u) (map (under s) es) ≡ list_any (hit p u) es
hit_under p u s [] = refl
hit_under p u s (e ∷ es) = ap (λ (b : Bool). hit p u e || b) (hit_under p u s es)

pub hit_pathless : (p : List ℕ) (u : Holder) (es : List Entry) → list_any (hit p u) (map pathless es) ≡ list_any (hit p u) es
hit_pathless p u [] = refl
hit_pathless p u (e ∷ es) = ap (λ (b : Bool). hit p u e || b) (hit_pathless p u es)

no_hit : (b c : Bool) (p : List ℕ) (u : Holder) (x : Entry) (xs : List Entry) → hit p u x ≡ (c && false) →
    list_any (hit p u) (cons_option (cond b (Some x) None) xs) ≡ list_any (hit p u) xs
no_hit true c p u x xs e = ap (λ (y : Bool). y || list_any (hit p u) xs) (e ∙ by c)
  where
    by : (c : Bool) → (c && false) ≡ false
    by true = refl
    by false = refl
no_hit false c p u x xs e = refl

hit_leaf : (x : Leaf) (f : Forest) (h : Here) (xs : List Entry) (p : List ℕ) (u : Holder) →
    list_any (hit p u) (cons_option (leaf_node h x f) xs) ≡ list_any (hit p u) xs
hit_leaf (text ps) f h xs p u = no_hit (begins_run h.holders h.joins (text ps ∷ run f)) (binds p u h.holders) p u _ xs refl
hit_leaf (cdata cs) f h xs p u = no_hit (begins_run h.holders h.joins (cdata cs ∷ run f)) (binds p u h.holders) p u _ xs refl
hit_leaf (Leaf.comment cs) f h xs p u = no_hit true (binds p u h.holders) p u
    (record {
      path = Step.child h.number ∷ [];
      what = Thing.comment cs;
      holders = h.holders;
      start = h.at;
      stop = past_leaf h.at
          (Leaf.comment cs);
      index = h.index;
      past = h.index + 1;
    }) xs refl
hit_leaf (Leaf.instruction i) f h xs p u = no_hit true (binds p u h.holders) p u
    (record {
      path = Step.child h.number ∷ [];
      what = Thing.instruction i;
      holders = h.holders;
      start = h.at;
      stop = past_leaf h.at
          (Leaf.instruction i);
      index = h.index;
      past = h.index + 2;
    }) xs refl
hit_leaf (declaration d) f h xs p u = refl
hit_leaf (doctype d) f h xs p u = refl

-- an element's own name, those of its attributes, those in it, and those after it
add_up : (c w a i d b z : Bool) → c ≡ (not d && b) →
    (((c && w) || ((c && a) || (c && i))) || (b && z)) ≡ (b && ((not d && ((w || a) || i)) || z))
add_up c w a i d b z e = ap (λ (y : Bool). ((y && w) || ((y && a) || (y && i))) || (b && z)) e ∙ by w a i d b z
  where
    join : (w a i z : Bool) → ((w || (a || i)) || z) ≡ (((w || a) || i) || z)
    join true a i z = refl
    join false a i z = refl

    by : (w a i d b z : Bool) →
        ((((not d && b) && w) || (((not d && b) && a) || ((not d && b) && i))) || (b && z)) ≡ (b && ((not d && ((w || a) || i)) || z))
    by w a i true b z = refl
    by w a i false true z = join w a i z
    by w a i false false z = refl

add_empty : (c w a d b z : Bool) → c ≡ (not d && b) → (((c && w) || (c && a)) || (b && z)) ≡ (b && ((not d && (w || a)) || z))
add_empty c w a d b z e = ap (λ (y : Bool). ((y && w) || (y && a)) || (b && z)) e ∙ by w a d b z
  where
    by : (w a d b z : Bool) → ((((not d && b) && w) || ((not d && b) && a)) || (b && z)) ≡ (b && ((not d && (w || a)) || z))
    by w a true b z = refl
    by w a false true z = refl
    by w a false false z = refl

-- the names of pieces that a declaration outside binds
pub hit_nodes : (f : Forest) (h : Here) (p : List ℕ) (u : Holder) → u.index < h.index →
    list_any (hit p u) (nodes h f) ≡ (binds p u h.holders && uses p f)
hit_nodes done h p u l = by (binds p u h.holders)
  where
    by : (b : Bool) → false ≡ (b && false)
    by true = refl
    by false = refl
hit_nodes (single x f) h p u l =
    let a = after_leaf h x f in
    hit_leaf x f h (nodes a f) p u ∙ hit_nodes f a p u (omega (arith, l))
hit_nodes (empty t f) h p u l =
    let stop = past_empty h.at t in
    let b = after_element h t done stop in
    let s = Step.child h.number in
    let head = element_entry h t done stop in
    let attrs = tag_attributes h t in
    list_any-append (hit p u) (map (under s) (head ∷ attrs)) (nodes b f)
    ∙ ap₂ (λ (x y : Bool). x || y)
    (hit_under p u s (head ∷ attrs)
    ∙ ap (λ (x : Bool). hit p u head || x) (hit_attributes t.attributes (held h t) (attributes_place h.at t) (suc h.index) 0 p u))
    (hit_nodes f b p u (omega (arith, l)))
    ∙ add_empty (binds p u (held h t)) (bytes_eq (prefix_of t.name) p) (not (is_nil p) && list_any (is_written_with p) t.attributes)
    (has_declaration p t)
    (binds p u h.holders) (uses p f) (binds_held p u h t l)
hit_nodes (element t inside space f) h p u l =
    let stop = past_element h.at t inside space in
    let b = after_element h t inside stop in
    let i = inside_of h t in
    let s = Step.child h.number in
    let head = element_entry h t inside stop in
    let attrs = tag_attributes h t in
    list_any-append (hit p u) (map (under s) (head ∷ attrs ++ nodes i inside)) (nodes b f)
    ∙ ap₂ (λ (x y : Bool). x || y)
    (hit_under p u s (head ∷ attrs ++ nodes i inside)
    ∙ ap (λ (x : Bool). hit p u head || x)
    (list_any-append (hit p u) attrs (nodes i inside)
    ∙ ap₂ (λ (x y : Bool). x || y) (hit_attributes t.attributes (held h t) (attributes_place h.at t) (suc h.index) 0 p u)
    (hit_nodes inside i p u (omega (arith, l)))))
    (hit_nodes f b p u (omega (arith, l)))
    ∙ add_up (binds p u (held h t)) (bytes_eq (prefix_of t.name) p) (not (is_nil p) && list_any (is_written_with p) t.attributes)
    (uses p inside)
    (has_declaration p t) (binds p u h.holders) (uses p f) (binds_held p u h t l)

or_false : (b : Bool) → b ≡ (b || false)
or_false true = refl
or_false false = refl

-- and those of an element
pub hit_whole : (h : Here) (t : Tag) (inside : Forest) (stop : ℕ) (p : List ℕ) (u : Holder) → u.index < h.index →
    list_any (hit p u) (whole_nodes h t inside stop) ≡ (binds p u h.holders && is_free p t inside)
hit_whole h t inside stop p u l =
    let i = inside_of h t in
    let attrs = tag_attributes h t in
    let c = binds p u (held h t) in
    let b = binds p u h.holders in
    let w = bytes_eq (prefix_of t.name) p in
    let a = not (is_nil p) && list_any (is_written_with p) t.attributes in
    let d = has_declaration p t in
    ap (λ (x : Bool). hit p u (element_entry h t inside stop) || x)
    (list_any-append (hit p u) attrs (nodes i inside)
    ∙ ap₂ (λ (x y : Bool). x || y) (hit_attributes t.attributes (held h t) (attributes_place h.at t) (suc h.index) 0 p u)
    (hit_nodes inside i p u (omega (arith, l))))
    ∙ or_false ((c && w) || ((c && a) || (c && uses p inside)))
    ∙ ap (λ (x : Bool). ((c && w) || ((c && a) || (c && uses p inside))) || x) (no_more b)
    ∙ add_up c w a (uses p inside) d b false (binds_held p u h t l)
    ∙ ap (λ (x : Bool). b && x) (sym (or_false (is_free p t inside)))
  where
    no_more : (b : Bool) → false ≡ (b && false)
    no_more true = refl
    no_more false = refl

-- ---- the elements between

falls_at : (n : ℕ) (near far : List Holder) (u : Holder) → Falls n (near ++ u ∷ far) → u.index < n
falls_at n [] far u f = f.0
falls_at n (x ∷ near) far u f = omega (arith, f.0, falls_at x.index near far u f.1)

pub binds_far : (near far : List Holder) (u : Holder) (p : List ℕ) (n : ℕ) → Falls n (near ++ u ∷ far) → has_declaration p u.tag ≡ true →
    binds p u (near ++ u ∷ far) ≡ not (list_any (has_declaration p) (tags_held near))
binds_far [] far u p n f d = ap₂ (λ (b c : Bool). cond b c (binds p u far)) d (eq-eqb u.index u.index refl)
binds_far (x ∷ near) far u p n f d =
    past_by (has_declaration p x.tag) x.index u.index (binds p u (near ++ u ∷ far)) (falls_at x.index near far u f.1)
    ∙ ap (λ (b : Bool). not (has_declaration p x.tag) && b) (binds_far near far u p x.index f.1 d)
    ∙ by (has_declaration p x.tag) (list_any (has_declaration p) (tags_held near))
  where
    by : (b c : Bool) → (not b && not c) ≡ not (b || c)
    by true c = refl
    by false c = refl

-- ---- what a tag declares

find_some : (q : Attribute → Bool) (xs : List Attribute) → is_some (find q xs) ≡ list_any q xs
find_some q [] = refl
find_some q (x ∷ xs) = by (q x) x (find q xs) (list_any q xs) (find_some q xs)
  where
    by : (b : Bool) (x : Attribute) (o : Option Attribute) (c : Bool) → is_some o ≡ c → is_some (cond b (Some x) o) ≡ (b || c)
    by true x o c e = refl
    by false x o c e = e

nameless : is_qname (codes "xmlns:") ≡ false
unfolding is_qname is_ncname is_name is_name_start is_name_char in_ranges
nameless = refl

own_name : (n : List ℕ) → declares n ≡ true → is_qname n ≡ true → n ≡ declaring (after_colon n)
unfolding declares
own_name n d q = elim (or_cases (bytes_eq n (codes "xmlns")) (begins (codes "xmlns:") n) d) [
  | inl t ↦ by_default n ((bytes_eq-Decides n (codes "xmlns")).0 t)
  | inr t ↦ by_prefix n _ (begins_split (codes "xmlns:") n t) q
]
  where
    by_default : (n : List ℕ) → n ≡ codes "xmlns" → n ≡ declaring (after_colon n)
    by_default n e = e ∙ sym (ap (λ (m : List ℕ). declaring (after_colon m)) e)

    by_prefix : (n rest : List ℕ) → n ≡ codes "xmlns:" ++ rest → is_qname n ≡ true → n ≡ declaring (after_colon n)
    by_prefix n [] e q = absurd (false≢true (sym nameless ∙ sym (ap is_qname e) ∙ q))
    by_prefix n (c ∷ rest) e q = e ∙ sym (ap (λ (m : List ℕ). declaring (after_colon m)) e)

abbrev Declared : Tag → Attribute → Type 0
Declared u a = declares a.name ≡ true → has_declaration (after_colon a.name) u ≡ true

declared_by : (u : Tag) (a : Attribute) → is_sound a ≡ true → ((q : Attribute → Bool) → q a ≡ true → list_any q u.attributes ≡ true) →
    Declared u a
declared_by u a s there d =
    let q : is_qname a.name ≡ true = sound (declares a.name) (is_qname a.name) _ d s in
    find_some (names (after_colon a.name)) u.attributes
    ∙ there (names (after_colon a.name)) ((bytes_eq-Decides a.name (declaring (after_colon a.name))).1 (own_name a.name d q))
  where
    sound : (d q x : Bool) → d ≡ true → (not d || not (not q || x)) ≡ true → q ≡ true
    sound true true x e h = refl
    sound true false x e h = absurd (false≢true h)
    sound false q x e h = absurd (false≢true e)

all_declared : (u : Tag) (xs : List Attribute) → list_all is_sound xs ≡ true →
    ((q : Attribute → Bool) → list_any q xs ≡ true → list_any q u.attributes ≡ true) →
    Each (Declared u) xs
all_declared u [] s there = tt
all_declared u (x ∷ xs) s there =
    let p = and_parts (is_sound x) (list_all is_sound xs) s in (
      declared_by u x p.0 (λ q h. there q (or_left (q x) (list_any q xs) h)),
      all_declared u xs p.1
          (λ q h. there q (or_right (q x) (list_any q xs) h)),
    )

-- ---- the law

filter_by_each : (p q : Attribute → Bool) (P : Attribute → Type 0) → ((a : Attribute) → P a → p a ≡ q a) → (xs : List Attribute) →
    Each P xs → filter p xs ≡ filter q xs
filter_by_each p q P f [] h = refl
filter_by_each p q P f (x ∷ xs) h = ap₂ (λ (b : Bool) (ys : List Attribute). cond b (x ∷ ys) ys) (f x h.0) (filter_by_each p q P f xs h.1)

needs_by : (d n x near free hits : Bool) → (d ≡ true → hits ≡ (not near && free)) →
    (((d && n) && x) && hits) ≡ ((((d && n) && x) && not near) && free)
needs_by true n x near free hits e = ap (λ (y : Bool). (n && x) && y) (e refl) ∙ by (n && x) (not near) free
  where
    by : (a b c : Bool) → (a && (b && c)) ≡ ((a && b) && c)
    by true b c = refl
    by false b c = refl
needs_by false n x near free hits e = refl

abbrev SameDeclared : List Tag → List Holder → Type 0
SameDeclared nearer near = (p : List ℕ) → list_any (has_declaration p) nearer ≡ list_any (has_declaration p) (tags_held near)

-- the elements' declarations that nodes need are those that the tags need, where the nodes are those of the element, paths aside
pub needed_same : (es : List Entry) (h : Here) (t : Tag) (inside : Forest) (stop : ℕ) →
    map pathless es ≡ map pathless (whole_nodes h t inside stop) →
    (near hs : List Holder) (nearer : List Tag) → h.holders ≡ near ++ hs → Falls h.index (near ++ hs) → all_sound (tags_held hs) ≡ true →
    SameDeclared nearer near →
    needed_of es hs ≡ needed t inside nearer (tags_held hs)
needed_same es h t inside stop e near [] nearer is f s same = refl
needed_same es h t inside stop e near (u ∷ hs) nearer is f s same =
    let q = and_parts (list_all is_sound u.tag.attributes) (all_sound (tags_held hs)) s in
    let next = append_assoc near (u ∷ []) hs in
    let more = needed_same es h t inside stop e (near ++ u ∷ []) hs (u.tag ∷ nearer) (is ∙ sym next)
    (subst (Falls h.index) (sym next) f) q.1 (one_more u near nearer same) in
    let hits = λ (p : List ℕ) (d : has_declaration p u.tag ≡ true).
    sym (hit_pathless p u es) ∙ ap (list_any (hit p u)) e ∙ hit_pathless p u (whole_nodes h t inside stop)
    ∙ hit_whole h t inside stop p u (falls_at h.index near hs u f)
    ∙ ap (λ (b : Bool). b && is_free p t inside) (ap (binds p u) is ∙ binds_far near hs u p h.index f d ∙ ap not (sym (same p))) in
    ap₂ (λ (xs ys : List Attribute). xs ++ ys) more
    (filter_by_each (needs es u) (is_needed t inside nearer) (Declared u.tag)
    (λ a k. needs_by (declares a.name) (not (is_nil (value_content a.value))) (not (bytes_eq (after_colon a.name) (codes "xml")))
    (list_any (has_declaration (after_colon a.name)) nearer) (is_free (after_colon a.name) t inside)
    (list_any (hit (after_colon a.name) u) es) (λ d. hits (after_colon a.name) (k d)))
    u.tag.attributes (all_declared u.tag u.tag.attributes q.0 (λ r h. h)))
  where
    tags_join : (near : List Holder) (u : Holder) (p : List ℕ) →
        (has_declaration p u.tag || list_any (has_declaration p) (tags_held near)) ≡ list_any (has_declaration p)
        (tags_held (near ++ u ∷ []))
    tags_join [] u p = refl
    tags_join (x ∷ near) u p = swap (has_declaration p u.tag) (has_declaration p x.tag) (list_any (has_declaration p) (tags_held near))
        ∙ ap (λ (b : Bool). has_declaration p x.tag || b) (tags_join near u p)
      where
        swap : (a b c : Bool) → (a || (b || c)) ≡ (b || (a || c))
        swap true true c = refl
        swap true false c = refl
        swap false b c = refl

    one_more : (u : Holder) (near : List Holder) (nearer : List Tag) → SameDeclared nearer near →
        SameDeclared (u.tag ∷ nearer) (near ++ u ∷ [])
    one_more u near nearer same p = ap (λ (b : Bool). has_declaration p u.tag || b) (same p) ∙ tags_join near u p
