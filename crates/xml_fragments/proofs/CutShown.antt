-- The tree of the cut element shows what the element showed, and no name of it offends.
use Rattle.std.proofs.Common.{◌≡◌, ℕ, suc, ◌+◌, Bool, true, false, cond, List, [], ◌∷◌, ◌++◌, map, Option, Some, None, refl, sym, ap, ap₂}
use Rattle.std.proofs.Common.{◌∙◌, not, ◌&&◌, ◌||◌}
use Rattle.std.specs.Prelude.{bytes_eq, codes, filter}
use Rattle.std.specs.List.{list_all, list_any, cons_option}
use Rattle.std.proofs.lemmas.Bool.{and_parts, and_from, or_left, or_right, false≢true, not_from_false}
use Rattle.std.proofs.lemmas.List.{map-append}
use Rattle.std.proofs.lemmas.List.Folds.{list_all-append}
use Rattle.std.proofs.lemmas.Slice.Eq.{bytes_eq-Decides}
use Rattle.xml_model.specs.declared.Kind.TheVariants as kinds
use Rattle.xml_model.specs.Chars.{size, prefix_of, local_of}
use Rattle.xml_model.specs.Items.{Attribute, Tag, is_nil, written_attribute}
use Rattle.xml_model.specs.Nest.{Forest}
use Rattle.xml_model.specs.Records.{declares, attributes_place}
use Rattle.xml_model.specs.Content.{value_content, content, inner_content}
use Rattle.xml_model.specs.Names.{expanded, binding}
use Rattle.xml_model.specs.Tree.{Step, Thing, Entry, Holder, Here, attributes, nodes, inside_of, tag_attributes, held, one_if}
use Rattle.xml_fragments.specs.Cut.{Shown, shown, tag_uses, uses, is_needed, needed, spaced, cut_tag, declared_prefix, has_declaration}
use Rattle.xml_fragments.specs.Cut.{is_free, whole_nodes, tags_held, AllClean}
use Rattle.xml_fragments.proofs.ShownNodes.{SameAttributes, attributes_shown, nodes_shown}
use Rattle.xml_fragments.proofs.Needed.{cut_binds}

-- ---- declarations are no nodes

abbrev pub is_declaring : Attribute → Bool
is_declaring a = declares a.name

skip_by : (b : Bool) (e : Entry) (es : List Entry) → b ≡ true → cons_option (cond b None (Some e)) es ≡ es
skip_by true e es t = refl
skip_by false e es t = absurd (false≢true t)

skipped : (ds others : List Attribute) (hs hs' : List Holder) (at at' place place' i i' : ℕ) → list_all is_declaring ds ≡ true →
    SameAttributes others (tags_held hs) (tags_held hs') →
    map shown (attributes hs at place i others) ≡ map shown (attributes hs' at' place' i' (ds ++ others))
skipped [] others hs hs' at at' place place' i i' d s = attributes_shown others hs hs' at at' place place' i i' s
skipped (a ∷ ds) others hs hs' at at' place place' i i' d s =
    let q = and_parts (declares a.name) (list_all is_declaring ds) d in
    let rest = attributes hs' (at' + size (written_attribute a)) (place' + 2) (i' + one_if (not (declares a.name))) (ds ++ others) in
    skipped ds others hs hs' at (at' + size (written_attribute a)) place (place' + 2) i (i' + one_if (not (declares a.name))) q.1 s
    ∙ sym (ap (map shown)
    (skip_by (declares a.name)
    (record {
      path = Step.attribute i' ∷ [];
      what = Thing.attribute a;
      holders = hs';
      start = at' + size a.space;
      stop = at' + size
          (written_attribute a);
      index = place';
      past = place' + 2;
    }) rest q.0))

pub filter_by : (b : Bool) (p : Attribute → Bool) (x : Attribute) (ys : List Attribute) → (b ≡ true → p x ≡ true) →
    list_all p ys ≡ true → list_all p (cond b (x ∷ ys) ys) ≡ true
filter_by true p x ys h e = and_from _ _ (h refl) e
filter_by false p x ys h e = e

filter_all : (p r : Attribute → Bool) → ((a : Attribute) → r a ≡ true → p a ≡ true) → (xs : List Attribute) →
    list_all p (filter r xs) ≡ true
filter_all p r h [] = refl
filter_all p r h (x ∷ xs) = filter_by (r x) p x (filter r xs) (h x) (filter_all p r h xs)

pub needed_declares : (t : Tag) (inside : Forest) (nearer : List Tag) (a : Attribute) → is_needed t inside nearer a ≡ true →
    declares a.name ≡ true
needed_declares t inside nearer a h =
    let p = declared_prefix a in
    let b = and_parts
    (declares a.name && not (is_nil (value_content a.value)) && not (bytes_eq p (codes "xml")) && not
    (list_any (has_declaration p) nearer)) (is_free p t inside) h in
    let c = and_parts (declares a.name && not (is_nil (value_content a.value)) && not (bytes_eq p (codes "xml")))
    (not (list_any (has_declaration p) nearer)) b.0 in
    let d = and_parts (declares a.name && not (is_nil (value_content a.value))) (not (bytes_eq p (codes "xml"))) c.0 in
    (and_parts (declares a.name) (not (is_nil (value_content a.value))) d.0).0

all_needed : (p : Attribute → Bool) (t : Tag) (inside : Forest) (tags nearer : List Tag) →
    ((nearer : List Tag) (u : Tag) → list_all p (filter (is_needed t inside nearer) u.attributes) ≡ true) →
    list_all p (needed t inside nearer tags) ≡ true
all_needed p t inside [] nearer h = refl
all_needed p t inside (u ∷ tags) nearer h =
    list_all-append p (needed t inside (u ∷ nearer) tags) (filter (is_needed t inside nearer) u.attributes)
    ∙ and_from _ _ (all_needed p t inside tags (u ∷ nearer) h) (h nearer u)

spaced_declare : (xs : List Attribute) → list_all is_declaring (map spaced xs) ≡ list_all is_declaring xs
spaced_declare [] = refl
spaced_declare (x ∷ xs) = ap (λ (b : Bool). declares x.name && b) (spaced_declare xs)

pub cut_declares : (t : Tag) (inside : Forest) (tags : List Tag) → list_all is_declaring (map spaced (needed t inside [] tags)) ≡ true
cut_declares t inside tags =
    spaced_declare (needed t inside [] tags)
    ∙ all_needed is_declaring t inside tags []
    (λ nearer u. filter_all is_declaring (is_needed t inside nearer) (λ a. needed_declares t inside nearer a) u.attributes)

-- The law of the cut: the element with what is in it, as a document of its own under the tag with the declarations that it needs, has the
-- same
-- kinds, expanded names and contents in the same order.
pub cut_shown : (t : Tag) (inside : Forest) (h first : Here) (stop stop' : ℕ) → AllClean (tags_held h.holders) → first.holders ≡ [] →
    map shown (whole_nodes h t inside stop) ≡ map shown (whole_nodes first (cut_tag t inside (tags_held h.holders)) inside stop')
unfolding expanded content
cut_shown t inside h first stop stop' c none =
    let tags = tags_held h.holders in
    let u = cut_tag t inside tags in
    let e : tags_held (held first u) ≡ u ∷ [] = ap (λ (hs : List Holder). u ∷ tags_held hs) none in
    let binds = λ (p : List ℕ) (used : (tag_uses p t || uses p inside) ≡ true). cut_binds t inside tags c p used
    ∙ ap (λ (ts : List Tag). binding p ts) (sym e) in
    let i = inside_of h t in
    let i' = inside_of first u in
    let head = ap
    (λ (v : Option (List ℕ)). record {
      kind = kinds.Element;
      name = Some
          (record { uri = v; name = local_of t.name });
      text = inner_content inside;
    })
    (binds (prefix_of t.name) (or_left _ _ (or_left _ _ ((bytes_eq-Decides (prefix_of t.name) (prefix_of t.name)).1 refl)))) in
    let attrs = skipped (map spaced (needed t inside [] tags)) t.attributes (held h t) (held first u) (attributes_place h.at t)
    (attributes_place first.at u) (suc h.index) (suc first.index) 0 0 (cut_declares t inside tags)
    (λ p n w. binds p (or_left _ _ (or_right _ _ (and_from _ _ (not_from_false _ n) w)))) in
    let deep = nodes_shown inside false (record { tag = t; index = h.index })
    (record { tag = u; index = first.index }) h.holders first.holders i.at i'.at i.index i'.index 0 0
    (λ p w. binds p (or_right _ _ w)) in
    ap₂ (λ (x : Shown) (xs : List Shown). x ∷ xs) head (
    map-append shown (tag_attributes h t) (nodes i inside) ∙ ap₂ (λ (xs ys : List Shown). xs ++ ys) attrs deep
    ∙ sym (map-append shown (tag_attributes first u) (nodes i' inside))
    )
