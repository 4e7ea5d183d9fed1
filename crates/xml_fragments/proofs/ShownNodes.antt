-- Under tags that bind alike what pieces use, the nodes of the pieces show the same: kinds, expanded names, contents, in order.
use Rattle.std.proofs.Common.{◌≡◌, ℕ, suc, ◌+◌, Bool, true, false, cond, inl, inr, List, [], ◌∷◌, ◌++◌, map, Option, Some, None, refl}
use Rattle.std.proofs.Common.{sym, ap, ap₂, ◌∙◌, not, ◌&&◌, ◌||◌, append-nil}
use Rattle.std.specs.Prelude.{is_some, bytes_eq, codes}
use Rattle.std.specs.List.{list_any, cons_option}
use Rattle.std.proofs.lemmas.Bool.{and_from, or_left, or_right, false≢true, cases_Bool, not_from_false}
use Rattle.std.proofs.lemmas.List.{map-append}
use Rattle.std.proofs.lemmas.Slice.Eq.{bytes_eq-Decides}
use Rattle.xml_model.specs.declared.Kind.TheVariants as kinds
use Rattle.xml_model.proofs.Unique.{same_head}
use Rattle.xml_model.specs.Chars.{size, prefix_of, local_of}
use Rattle.xml_model.specs.Items.{Attribute, Tag, Leaf, text, cdata, declaration, doctype, is_nil, written_attribute}
use Rattle.xml_model.specs.Nest.{Forest, done, single, empty, element}
use Rattle.xml_model.specs.Records.{declares, attributes_place, past_empty, past_element}
use Rattle.xml_model.specs.Content.{value_content, content, inner_content}
use Rattle.xml_model.specs.Names.{declaration_of, first_of, nearest, binding, declared, attribute_uri, expanded, xml_uri}
use Rattle.xml_model.specs.Tree.{Step, Thing, Entry, Holder, Here, attributes, nodes, leaf_node, text_node, run, after_leaf, inside_of}
use Rattle.xml_model.specs.Tree.{after_element, element_entry, tag_attributes, under, held, one_if, is_text, has_content}
use Rattle.xml_fragments.specs.Cut.{Shown, shown, has_declaration, is_written_with, tag_uses, uses, whole_nodes, tags_held}

-- ---- bindings

abbrev pub Same : List Tag → List Tag → List ℕ → Type 0
Same tags others p = binding p tags ≡ binding p others

-- one more tag, which declares the prefix or does not
by_nearest : (p : List ℕ) (tags others : List Tag) → nearest p tags ≡ nearest p others → Same tags others p
unfolding binding
by_nearest p tags others e = ap (λ (o : Option (List ℕ)). cond (bytes_eq p (codes "xml")) (Some xml_uri) (declared p o)) e

nearest_under : (o : Option Attribute) (x y : Option (List ℕ)) → is_some o ≡ true → first_of o x ≡ first_of o y
nearest_under None x y h = absurd (false≢true h)
nearest_under (Some a) x y h = refl

nearest_past : (o : Option Attribute) (x : Option (List ℕ)) → is_some o ≡ false → first_of o x ≡ x
nearest_past None x h = refl
nearest_past (Some a) x h = absurd cc

pub same_declared : (p : List ℕ) (t : Tag) (tags others : List Tag) → has_declaration p t ≡ true → Same (t ∷ tags) (t ∷ others) p
same_declared p t tags others h =
    by_nearest p (t ∷ tags) (t ∷ others) (nearest_under (declaration_of p t) (nearest p tags) (nearest p others) h)

pub same_past : (p : List ℕ) (t : Tag) (tags others : List Tag) → has_declaration p t ≡ false → Same tags others p →
    Same (t ∷ tags) (t ∷ others) p
same_past p t tags others h s =
    by_nearest p (t ∷ tags) tags (nearest_past (declaration_of p t) (nearest p tags) h) ∙ s
    ∙ sym (by_nearest p (t ∷ others) others (nearest_past (declaration_of p t) (nearest p others) h))

-- bound alike: what a tag uses, and what pieces use
abbrev pub SameTag : Tag → List Tag → List Tag → Type 0
SameTag t tags others = (p : List ℕ) → tag_uses p t ≡ true → Same tags others p

abbrev pub SameIn : Forest → List Tag → List Tag → Type 0
SameIn f tags others = (p : List ℕ) → uses p f ≡ true → Same tags others p

-- from what is free outside to what is used inside
pub inner_same : (t : Tag) (used : List ℕ → Bool) (tags others : List Tag) →
    ((p : List ℕ) → (not (has_declaration p t) && used p) ≡ true → Same tags others p) → (p : List ℕ) → used p ≡ true →
    Same (t ∷ tags) (t ∷ others) p
inner_same t used tags others s p u = elim (cases_Bool (has_declaration p t)) [
  | inl h ↦ same_declared p t tags others h
  | inr h ↦ same_past p t tags others h (s p (and_from _ _ (not_from_false _ h) u))
]

-- ---- nodes

shown_under : (s : Step) (es : List Entry) → map shown (map (under s) es) ≡ map shown es
unfolding expanded
shown_under s [] = refl
shown_under s (e ∷ es) = ap (λ (xs : List Shown). shown e ∷ xs) (shown_under s es)

-- an attribute
pub attribute_same : (a : Attribute) (tags others : List Tag) →
    ((p : List ℕ) → is_nil p ≡ false → bytes_eq (prefix_of a.name) p ≡ true → Same tags others p) →
    attribute_uri (prefix_of a.name) tags ≡ attribute_uri (prefix_of a.name) others
attribute_same a tags others s = by (prefix_of a.name) refl
  where
    by : (q : List ℕ) → prefix_of a.name ≡ q → attribute_uri q tags ≡ attribute_uri q others
    by [] e = refl
    by (c ∷ q) e = s (c ∷ q) refl ((bytes_eq-Decides (prefix_of a.name) (c ∷ q)).1 e)

entry_same : (b : Bool) (e d : Entry) → (b ≡ false → shown e ≡ shown d) → (xs ys : List Entry) → map shown xs ≡ map shown ys →
    map shown (cons_option (cond b None (Some e)) xs) ≡ map shown (cons_option (cond b None (Some d)) ys)
entry_same true e d s xs ys h = h
entry_same false e d s xs ys h = ap₂ (λ (x : Shown) (rest : List Shown). x ∷ rest) (s refl) h

abbrev pub SameAttributes : List Attribute → List Tag → List Tag → Type 0
SameAttributes others tags tags' = (p : List ℕ) → is_nil p ≡ false → list_any (is_written_with p) others ≡ true → Same tags tags' p

pub attributes_shown : (others : List Attribute) (hs hs' : List Holder) (at at' place place' i i' : ℕ) →
    SameAttributes others (tags_held hs) (tags_held hs') →
    map shown (attributes hs at place i others) ≡ map shown (attributes hs' at' place' i' others)
unfolding expanded content
attributes_shown [] hs hs' at at' place place' i i' s = refl
attributes_shown (a ∷ others) hs hs' at at' place place' i i' s =
    let rest = attributes_shown others hs hs' (at + size (written_attribute a)) (at' + size (written_attribute a)) (place + 2)
    (place' + 2) (i + one_if (not (declares a.name))) (i' + one_if (not (declares a.name))) (λ p n u. s p n (or_right _ _ u)) in
    entry_same (declares a.name)
    (record {
      path = Step.attribute i ∷ [];
      what = Thing.attribute a;
      holders = hs;
      start = at + size a.space;
      stop = at + size
          (written_attribute a);
      index = place;
      past = place + 2;
    })
    (record {
      path = Step.attribute i' ∷ [];
      what = Thing.attribute a;
      holders = hs';
      start = at' + size a.space;
      stop = at' + size
          (written_attribute a);
      index = place';
      past = place' + 2;
    })
    (λ d. ap (λ (u : Option (List ℕ)). record {
      kind = kinds.Attribute;
      name = Some
          (record { uri = u; name = local_of a.name });
      text = value_content a.value;
    })
    (attribute_same a (tags_held hs) (tags_held hs') (λ p n e. s p n (or_left _ _ (and_from _ _ (not_from_false _ d) e)))))
    (attributes hs (at + size (written_attribute a)) (place + 2) (i + one_if (not (declares a.name))) others)
    (attributes hs' (at' + size (written_attribute a)) (place' + 2) (i' + one_if (not (declares a.name))) others) rest

pub element_shown : (t : Tag) (inside : Forest) (h h' : Here) (stop stop' : ℕ) →
    SameTag t (t ∷ tags_held h.holders) (t ∷ tags_held h'.holders) →
    map shown (nodes (inside_of h t) inside) ≡ map shown (nodes (inside_of h' t) inside) →
    map shown (whole_nodes h t inside stop) ≡ map shown (whole_nodes h' t inside stop')
unfolding expanded content
element_shown t inside h h' stop stop' s e =
    let first = ap
    (λ (u : Option (List ℕ)). record {
      kind = kinds.Element;
      name = Some
          (record { uri = u; name = local_of t.name });
      text = inner_content inside;
    })
    (s (prefix_of t.name) (or_left _ _ ((bytes_eq-Decides (prefix_of t.name) (prefix_of t.name)).1 refl))) in
    let attrs = attributes_shown t.attributes (held h t) (held h' t) (attributes_place h.at t) (attributes_place h'.at t) (suc h.index)
    (suc h'.index) 0 0 (λ p n u. s p (or_right _ _ (and_from _ _ (not_from_false _ n) u))) in
    ap₂ (λ (x : Shown) (xs : List Shown). x ∷ xs) first (
    map-append shown (tag_attributes h t) (nodes (inside_of h t) inside) ∙ ap₂ (λ (xs ys : List Shown). xs ++ ys) attrs e
    ∙ sym (map-append shown (tag_attributes h' t) (nodes (inside_of h' t) inside))
    )

-- where the next piece stands, held by some element
abbrev pub held_here : Holder → List Holder → ℕ → ℕ → ℕ → Bool → Here
held_here x xs at place number joins = record { holders = x ∷ xs; at = at; index = place; number = number; joins = joins }

option_same : (o o' : Option Entry) → map shown (cons_option o []) ≡ map shown (cons_option o' []) → (xs ys : List Entry) →
    map shown xs ≡ map shown ys → map shown (cons_option o xs) ≡ map shown (cons_option o' ys)
option_same None None e xs ys h = h
option_same None (Some d) e xs ys h = absurd cc
option_same (Some d) None e xs ys h = absurd cc
option_same (Some c) (Some d) e xs ys h = ap₂ (λ (x : Shown) (rest : List Shown). x ∷ rest) (same_head (shown c) (shown d) [] [] e).0 h

text_shown : (b : Bool) (e d : Entry) → shown e ≡ shown d →
    map shown (cons_option (cond b (Some e) None) []) ≡ map shown (cons_option (cond b (Some d) None) [])
text_shown true e d s = ap (λ (x : Shown). x ∷ []) s
text_shown false e d s = refl

run_shown : (joins : Bool) (y y' : Holder) (hs hs' : List Holder) (at at' place place' number number' : ℕ) (xs : List Leaf) →
    map shown (cons_option (text_node (held_here y hs at place number joins) xs) []) ≡ map shown
    (cons_option (text_node (held_here y' hs' at' place' number' joins) xs) [])
unfolding expanded content
run_shown true y y' hs hs' at at' place place' number number' xs = refl
run_shown false y y' hs hs' at at' place place' number number' xs = text_shown (list_any has_content xs) _ _ refl

leaf_shown : (x : Leaf) (f : Forest) (joins : Bool) (y y' : Holder) (hs hs' : List Holder) (at at' place place' number number' : ℕ) →
    map shown (cons_option (leaf_node (held_here y hs at place number joins) x f) []) ≡ map shown
    (cons_option (leaf_node (held_here y' hs' at' place' number' joins) x f) [])
unfolding expanded content
leaf_shown (text ps) f joins y y' hs hs' at at' place place' number number' =
    run_shown joins y y' hs hs' at at' place place' number number' (text ps ∷ run f)
leaf_shown (cdata cs) f joins y y' hs hs' at at' place place' number number' =
    run_shown joins y y' hs hs' at at' place place' number number' (cdata cs ∷ run f)
leaf_shown (Leaf.comment cs) f joins y y' hs hs' at at' place place' number number' = refl
leaf_shown (Leaf.instruction i) f joins y y' hs hs' at at' place place' number number' = refl
leaf_shown (declaration d) f joins y y' hs hs' at at' place place' number number' = refl
leaf_shown (doctype d) f joins y y' hs hs' at at' place place' number number' = refl

-- the law: pieces held by elements show the same under tags that bind alike what they use
pub nodes_shown : (f : Forest) (joins : Bool) (y y' : Holder) (hs hs' : List Holder) (at at' place place' number number' : ℕ) →
    SameIn f (tags_held (y ∷ hs)) (tags_held (y' ∷ hs')) →
    map shown (nodes (held_here y hs at place number joins) f) ≡ map shown (nodes (held_here y' hs' at' place' number' joins) f)
nodes_shown done joins y y' hs hs' at at' place place' number number' s = refl
nodes_shown (single x f) joins y y' hs hs' at at' place place' number number' s =
    let h = held_here y hs at place number joins in
    let h' = held_here y' hs' at' place' number' joins in
    let a = after_leaf h x f in
    let a' = after_leaf h' x f in
    option_same (leaf_node h x f) (leaf_node h' x f) (leaf_shown x f joins y y' hs hs' at at' place place' number number') (nodes a f)
    (nodes a' f) (nodes_shown f (is_text x) y y' hs hs' a.at a'.at a.index a'.index a.number a'.number s)
nodes_shown (empty t f) joins y y' hs hs' at at' place place' number number' s =
    let h = held_here y hs at place number joins in
    let h' = held_here y' hs' at' place' number' joins in
    let b = after_element h t done (past_empty at t) in
    let b' = after_element h' t done (past_empty at' t) in
    let own = element_shown t done h h' (past_empty at t) (past_empty at' t)
    (inner_same t (λ p. tag_uses p t) (tags_held (y ∷ hs)) (tags_held (y' ∷ hs')) (λ p u. s p (or_left _ _ u))) refl in
    let rest = nodes_shown f false y y' hs hs' b.at b'.at b.index b'.index b.number b'.number (λ p u. s p (or_right _ _ u)) in
    let es = element_entry h t done (past_empty at t) ∷ tag_attributes h t in
    let es' = element_entry h' t done (past_empty at' t) ∷ tag_attributes h' t in
    let short : map shown es ≡ map shown es' = ap (map shown) (sym (append-nil es)) ∙ own ∙ ap (map shown) (append-nil es') in
    map-append shown (map (under (Step.child number)) es) (nodes b f)
    ∙ ap₂ (λ (xs ys : List Shown). xs ++ ys)
    (shown_under (Step.child number) es ∙ short ∙ sym (shown_under (Step.child number') es')) rest
    ∙ sym (map-append shown (map (under (Step.child number')) es') (nodes b' f))
nodes_shown (element t inside space f) joins y y' hs hs' at at' place place' number number' s =
    let h = held_here y hs at place number joins in
    let h' = held_here y' hs' at' place' number' joins in
    let stop = past_element at t inside space in
    let stop' = past_element at' t inside space in
    let b = after_element h t inside stop in
    let b' = after_element h' t inside stop' in
    let i = inside_of h t in
    let i' = inside_of h' t in
    let free = inner_same t (λ p. tag_uses p t || uses p inside) (tags_held (y ∷ hs)) (tags_held (y' ∷ hs'))
    (λ p u. s p (or_left _ _ u)) in
    let deep = nodes_shown inside false (record { tag = t; index = place }) (record { tag = t; index = place' }) (y ∷ hs)
    (y' ∷ hs') i.at i'.at i.index i'.index 0 0 (λ p u. free p (or_right _ _ u)) in
    let own = element_shown t inside h h' stop stop' (λ p u. free p (or_left _ _ u)) deep in
    let rest = nodes_shown f false y y' hs hs' b.at b'.at b.index b'.index b.number b'.number (λ p u. s p (or_right _ _ u)) in
    map-append shown (map (under (Step.child number)) (whole_nodes h t inside stop)) (nodes b f)
    ∙ ap₂ (λ (xs ys : List Shown). xs ++ ys)
    (shown_under (Step.child number) (whole_nodes h t inside stop) ∙ own
    ∙ sym (shown_under (Step.child number') (whole_nodes h' t inside stop'))) rest
    ∙ sym (map-append shown (map (under (Step.child number')) (whole_nodes h' t inside stop')) (nodes b' f))
