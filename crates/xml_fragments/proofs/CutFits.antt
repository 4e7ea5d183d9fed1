-- The cut element fits as a document of its own, where no name of its tag stands twice.
use Rattle.std.proofs.Common.{◌≡◌, ℕ, suc, ◌+◌, ◌≤◌, Bool, true, inl, inr, List, [], ◌∷◌, ◌++◌, map, refl, sym, ap, ap₂, ◌∙◌, arith, ◌&&◌}
use Rattle.std.specs.Prelude.{nat_le, codes, filter, ◌==◌}
use Rattle.std.specs.List.{list_all}
use Rattle.std.proofs.lemmas.Bool.{and_parts, and_from, or_cases, false≢true, le-leb, leb-true}
use Rattle.std.proofs.lemmas.List.Folds.{list_all-append}
use Rattle.xml_model.specs.Chars.{is_name, is_blank, is_white, is_space, in_ranges, size}
use Rattle.xml_model.specs.Items.{Attribute, Tag, Leaf, Item, leaf, start_tag, empty_tag, end_tag, quote_char, meets, meets_attribute}
use Rattle.xml_model.specs.Items.{meets_piece, is_nil, written_attribute}
use Rattle.xml_model.specs.Nest.{Forest, done, single, empty, element, flat, is_content, is_content_leaf, is_tail, is_body, is_head}
use Rattle.xml_model.specs.Nest.{is_nest, is_misc, is_doctype, is_declaration}
use Rattle.xml_model.specs.Records.{attributes_place}
use Rattle.xml_model.specs.Accepted.{unknown_pieces, unknown_attributes, value_place}
use Rattle.xml_nests.specs.Fits.{is_resolved, is_readable, texts_apart}
use Rattle.xml_nests.specs.Context.{join, Context, before, past_single, past_tag, past_whole, within, plug, items_before, items_after}
use Rattle.xml_nests.specs.Context.{level_in, tags_in}
use Rattle.xml_fragments.specs.Cut.{is_needed, needed, spaced, cut_tag}
use Rattle.xml_nests.proofs.Lists.{nil_append, pieces_any}
use Rattle.xml_nests.proofs.Around.{flat_plug}
use Rattle.xml_nests.proofs.Apart.{apart_left, apart_right}
use Rattle.xml_fragments.proofs.CutShown.{filter_by}

-- ---- content of a higher element

content_lower : (f : Forest) (m n : ℕ) → n ≤ m → is_content m f ≡ true → is_content n f ≡ true
unfolding is_content
content_lower done m n l h = refl
content_lower (single x f) m n l h = let q =
    and_parts (is_content_leaf x) (is_content m f) h in and_from _ _ q.0 (content_lower f m n l q.1)
content_lower (empty t f) m n l h = let q =
    and_parts (nat_le m 254) (is_content m f) h in and_from _ _ (le-leb n 254 (omega (arith, l, leb-true m 254 q.0)))
    (content_lower f m n l q.1)
content_lower (element t inside space f) m n l h =
    let q = and_parts (nat_le m 254 && is_content (suc m) inside) (is_content m f) h in
    let r = and_parts (nat_le m 254) (is_content (suc m) inside) q.0 in
    and_from _ _
    (and_from _ _ (le-leb n 254 (omega (arith, l, leb-true m 254 r.0)))
    (content_lower inside (suc m) (suc n) (omega (arith, l)) r.1)) (content_lower f m n l q.1)

abbrev pub one : Tag → Forest → List ℕ → Forest
one t inside space = element t inside space done

content_at : (c : Context) (m : ℕ) (t : Tag) (inside : Forest) (space : List ℕ) → is_content m (plug c (one t inside space)) ≡ true →
    is_content (suc (level_in m c)) inside ≡ true
unfolding is_content
content_at (before rest) m t inside space h =
    (and_parts (nat_le m 254) (is_content (suc m) inside)
    (and_parts (nat_le m 254 && is_content (suc m) inside) (is_content m (join done rest)) h).0).1
content_at (past_single x c) m t inside space h =
    content_at c m t inside space (and_parts (is_content_leaf x) (is_content m (plug c (one t inside space))) h).1
content_at (past_tag u c) m t inside space h =
    content_at c m t inside space (and_parts (nat_le m 254) (is_content m (plug c (one t inside space))) h).1
content_at (past_whole u f s c) m t inside space h =
    content_at c m t inside space (and_parts (nat_le m 254 && is_content (suc m) f) (is_content m (plug c (one t inside space))) h).1
content_at (within u c s f) m t inside space h =
    content_at c (suc m) t inside space
    (and_parts (nat_le m 254) (is_content (suc m) (plug c (one t inside space)))
    (and_parts (nat_le m 254 && is_content (suc m) (plug c (one t inside space))) (is_content m f) h).0).1

tail_not : (c : Context) (t : Tag) (inside : Forest) (space : List ℕ) → is_tail (plug c (one t inside space)) ≡ true → ⊥
unfolding is_tail
tail_not (before rest) t inside space h = false≢true h
tail_not (past_single x c) t inside space h =
    tail_not c t inside space (and_parts (is_misc x) (is_tail (plug c (one t inside space))) h).1
tail_not (past_tag u c) t inside space h = false≢true h
tail_not (past_whole u f s c) t inside space h = false≢true h
tail_not (within u c s f) t inside space h = false≢true h

body_at : (c : Context) (t : Tag) (inside : Forest) (space : List ℕ) → is_body (plug c (one t inside space)) ≡ true →
    is_content (suc (level_in 0 c)) inside ≡ true
unfolding is_body
body_at (before rest) t inside space h = (and_parts (is_content 1 inside) (is_tail (join done rest)) h).0
body_at (past_single x c) t inside space h = body_at c t inside space (and_parts (is_misc x) (is_body (plug c (one t inside space))) h).1
body_at (past_tag u c) t inside space h = absurd (tail_not c t inside space h)
body_at (past_whole u f s c) t inside space h =
    absurd (tail_not c t inside space (and_parts (is_content 1 f) (is_tail (plug c (one t inside space))) h).1)
body_at (within u c s f) t inside space h =
    content_at c 1 t inside space (and_parts (is_content 1 (plug c (one t inside space))) (is_tail f) h).0

head_at : (c : Context) (t : Tag) (inside : Forest) (space : List ℕ) → is_head (plug c (one t inside space)) ≡ true →
    is_content (suc (level_in 0 c)) inside ≡ true
unfolding is_head
head_at (before rest) t inside space h = body_at (before rest) t inside space h
head_at (past_single x c) t inside space h =
    elim (or_cases (is_misc x && is_head (plug c (one t inside space))) (is_doctype x && is_body (plug c (one t inside space))) h) [
      | inl k ↦ head_at c t inside space (and_parts (is_misc x) (is_head (plug c (one t inside space))) k).1
      | inr k ↦ body_at c t inside space (and_parts (is_doctype x) (is_body (plug c (one t inside space))) k).1
    ]
head_at (past_tag u c) t inside space h = body_at (past_tag u c) t inside space h
head_at (past_whole u f s c) t inside space h = body_at (past_whole u f s c) t inside space h
head_at (within u c s f) t inside space h = body_at (within u c s f) t inside space h

nest_at : (c : Context) (t : Tag) (inside : Forest) (space : List ℕ) → is_nest (plug c (one t inside space)) ≡ true →
    is_content (suc (level_in 0 c)) inside ≡ true
unfolding is_nest
nest_at (before rest) t inside space h = head_at (before rest) t inside space h
nest_at (past_single x c) t inside space h =
    elim (or_cases (is_declaration x && is_head (plug c (one t inside space))) (is_head (past_plug x c)) h) [
      | inl k ↦ head_at c t inside space (and_parts (is_declaration x) (is_head (plug c (one t inside space))) k).1
      | inr k ↦ head_at (past_single x c) t inside space k
    ]
  where
    past_plug : Leaf → Context → Forest
    past_plug x c = single x (plug c (one t inside space))
nest_at (past_tag u c) t inside space h = head_at (past_tag u c) t inside space h
nest_at (past_whole u f s c) t inside space h = head_at (past_whole u f s c) t inside space h
nest_at (within u c s f) t inside space h = head_at (within u c s f) t inside space h

-- the cut nests
pub cut_nests : (c : Context) (t u : Tag) (inside : Forest) (space : List ℕ) → is_nest (plug c (one t inside space)) ≡ true →
    is_nest (one u inside space) ≡ true
unfolding is_nest is_head is_body is_tail
cut_nests c t u inside space h =
    and_from _ _ (content_lower inside (suc (level_in 0 c)) 1 (omega arith) (nest_at c t inside space h)) refl

-- ---- tests of items

pub tags_items : (p : Item → Bool) (c : Context) (tags : List Tag) → list_all p (items_before c) ≡ true →
    list_all (λ u. p (start_tag u)) tags ≡ true → list_all (λ u. p (start_tag u)) (tags_in tags c) ≡ true
tags_items p (before rest) tags h k = k
tags_items p (past_single x c) tags h k = tags_items p c tags (and_parts (p (leaf x)) (list_all p (items_before c)) h).1 k
tags_items p (past_tag t c) tags h k = tags_items p c tags (and_parts (p (empty_tag t)) (list_all p (items_before c)) h).1 k
tags_items p (past_whole t inside space c) tags h k =
    let xs = start_tag t ∷ flat inside ++ end_tag t.name space ∷ [] in
    tags_items p c tags (and_parts (list_all p xs) (list_all p (items_before c)) (sym (list_all-append p xs (items_before c)) ∙ h)).1 k
tags_items p (within t c space f) tags h k = let q =
    and_parts (p (start_tag t)) (list_all p (items_before c)) h in tags_items p c (t ∷ tags) q.1 (and_from _ _ q.0 k)

filter_sub : (q r : Attribute → Bool) (xs : List Attribute) → list_all q xs ≡ true → list_all q (filter r xs) ≡ true
filter_sub q r [] h = refl
filter_sub q r (x ∷ xs) h = let p =
    and_parts (q x) (list_all q xs) h in filter_by (r x) q x (filter r xs) (λ t. p.0) (filter_sub q r xs p.1)

needed_all : (q : Attribute → Bool) (t : Tag) (inside : Forest) (tags nearer : List Tag) →
    list_all (λ u. list_all q u.attributes) tags ≡ true → list_all q (needed t inside nearer tags) ≡ true
needed_all q t inside [] nearer h = refl
needed_all q t inside (u ∷ tags) nearer h =
    let p = and_parts (list_all q u.attributes) (list_all (λ u. list_all q u.attributes) tags) h in
    list_all-append q (needed t inside (u ∷ nearer) tags) (filter (is_needed t inside nearer) u.attributes)
    ∙ and_from _ _ (needed_all q t inside tags (u ∷ nearer) p.1) (filter_sub q (is_needed t inside nearer) u.attributes p.0)

spaced_all : (q : Attribute → Bool) → ((a : Attribute) → q a ≡ true → q (spaced a) ≡ true) → (xs : List Attribute) →
    list_all q xs ≡ true → list_all q (map spaced xs) ≡ true
spaced_all q h [] e = refl
spaced_all q h (x ∷ xs) e = let p = and_parts (q x) (list_all q xs) e in and_from _ _ (h x p.0) (spaced_all q h xs p.1)

-- what each attribute of each tag round the element meets, each of the cut tag does
pub cut_attributes : (q : Attribute → Bool) → ((a : Attribute) → q a ≡ true → q (spaced a) ≡ true) →
    (t : Tag) (inside : Forest) (tags : List Tag) → list_all (λ u. list_all q u.attributes) tags ≡ true → list_all q t.attributes ≡ true →
    list_all q (map spaced (needed t inside [] tags) ++ t.attributes) ≡ true
cut_attributes q h t inside tags a b = list_all-append q (map spaced (needed t inside [] tags)) t.attributes
    ∙ and_from _ _ (spaced_all q h (needed t inside [] tags) (needed_all q t inside tags [] a)) b

pub all_more : (p r : Tag → Bool) → ((u : Tag) → p u ≡ true → r u ≡ true) → (us : List Tag) → list_all p us ≡ true → list_all r us ≡ true
all_more p r h [] e = refl
all_more p r h (u ∷ us) e = let q = and_parts (p u) (list_all p us) e in and_from _ _ (h u q.0) (all_more p r h us q.1)

spaced_white : is_white (codes " ") ≡ true
unfolding is_white is_space in_ranges
spaced_white = refl

pub spaced_meets : (a : Attribute) → meets_attribute a ≡ true → meets_attribute (spaced a) ≡ true
spaced_meets a h =
    let v = and_parts (is_white a.space && is_name a.name && is_blank a.left && is_blank a.right)
    (list_all (meets_piece (λ c. c == quote_char a.quote)) a.value) h in
    let r = and_parts (is_white a.space && is_name a.name && is_blank a.left) (is_blank a.right) v.0 in
    let l = and_parts (is_white a.space && is_name a.name) (is_blank a.left) r.0 in
    let n = and_parts (is_white a.space) (is_name a.name) l.0 in
    and_from _ _ (and_from _ _ (and_from _ _ (and_from _ _ spaced_white n.1) l.1) r.1) v.1

pub start_attributes : (u : Tag) → meets (start_tag u) ≡ true → list_all meets_attribute u.attributes ≡ true
unfolding meets
start_attributes u h =
    (and_parts (is_name u.name) (list_all meets_attribute u.attributes)
    (and_parts (is_name u.name && list_all meets_attribute u.attributes) (is_blank u.space) h).0).1

pub start_with : (u : Tag) (others : List Attribute) → meets (start_tag u) ≡ true → list_all meets_attribute others ≡ true →
    meets (start_tag (record u { attributes = others })) ≡ true
unfolding meets
start_with u others h k =
    let s = and_parts (is_name u.name && list_all meets_attribute u.attributes) (is_blank u.space) h in
    and_from _ _ (and_from _ _ (and_parts (is_name u.name) (list_all meets_attribute u.attributes) s.0).0 k) s.1

abbrev pub is_known : Attribute → Bool
is_known a = is_nil (unknown_pieces 0 a.value)

pub known_is : (at : ℕ) (others : List Attribute) → is_nil (unknown_attributes at others) ≡ list_all is_known others
known_is at [] = refl
known_is at (a ∷ others) =
    nil_append (unknown_pieces (value_place at a) a.value) (unknown_attributes (at + size (written_attribute a)) others)
    ∙ ap₂ (λ (x y : Bool). x && y) (pieces_any (value_place at a) 0 a.value) (known_is (at + size (written_attribute a)) others)

-- the laws: the items of the cut element meet their rows, are resolved, and stay apart
pub parts_of : (p : Item → Bool) (c : Context) (g : Forest) → list_all p (flat (plug c g)) ≡ true →
    (list_all p (items_before c) ≡ true) × (list_all p (flat g) ≡ true)
parts_of p c g h =
    let x = and_parts (list_all p (items_before c)) (list_all p (flat g ++ items_after c))
    (sym (list_all-append p (items_before c) (flat g ++ items_after c)) ∙ ap (list_all p) (sym (flat_plug c g)) ∙ h) in
    (x.0, (and_parts (list_all p (flat g)) (list_all p (items_after c)) (sym (list_all-append p (flat g) (items_after c)) ∙ x.1)).0)

pub cut_meets : (c : Context) (t : Tag) (inside : Forest) (space : List ℕ) → list_all meets (flat (plug c (one t inside space))) ≡ true →
    list_all meets (flat (one (cut_tag t inside (tags_in [] c)) inside space)) ≡ true
unfolding flat
cut_meets c t inside space h =
    let q = parts_of meets c (one t inside space) h in
    let own = and_parts (meets (start_tag t)) (list_all meets (flat inside ++ end_tag t.name space ∷ [])) q.1 in
    let round = all_more (λ u. meets (start_tag u)) (λ u. list_all meets_attribute u.attributes) start_attributes (tags_in [] c)
    (tags_items meets c [] q.0 refl) in
    and_from _ _
    (start_with t (map spaced (needed t inside [] (tags_in [] c)) ++ t.attributes) own.0
    (cut_attributes meets_attribute spaced_meets t inside (tags_in [] c) round (start_attributes t own.0))) own.1

pub cut_resolved : (c : Context) (t : Tag) (inside : Forest) (space : List ℕ) →
    list_all is_resolved (flat (plug c (one t inside space))) ≡ true →
    list_all is_resolved (flat (one (cut_tag t inside (tags_in [] c)) inside space)) ≡ true
unfolding flat
cut_resolved c t inside space h =
    let q = parts_of is_resolved c (one t inside space) h in
    let own = and_parts (is_resolved (start_tag t)) (list_all is_resolved (flat inside ++ end_tag t.name space ∷ [])) q.1 in
    let known = λ (u : Tag) (r : is_resolved (start_tag u) ≡ true). sym (known_is (attributes_place 0 u) u.attributes) ∙ r in
    let round = all_more (λ u. is_resolved (start_tag u)) (λ u. list_all is_known u.attributes) known (tags_in [] c)
    (tags_items is_resolved c [] q.0 refl) in
    let u = cut_tag t inside (tags_in [] c) in
    and_from _ _
    (known_is (attributes_place 0 u) u.attributes
    ∙ cut_attributes is_known (λ a k. k) t inside (tags_in [] c) round (known t own.0)) own.1

pub cut_apart : (c : Context) (t : Tag) (inside : Forest) (space : List ℕ) → texts_apart (flat (plug c (one t inside space))) ≡ true →
    texts_apart (flat (one (cut_tag t inside (tags_in [] c)) inside space)) ≡ true
unfolding flat
cut_apart c t inside space h =
    let g = start_tag t ∷ flat inside ++ end_tag t.name space ∷ [] in
    apart_left g (items_after c)
    (apart_right (items_before c) (g ++ items_after c) (ap texts_apart (sym (flat_plug c (one t inside space))) ∙ h))

pub cut_readable : (c : Context) (t : Tag) (inside : Forest) (space : List ℕ) →
    list_all is_readable (flat (plug c (one t inside space))) ≡ true →
    list_all is_readable (flat (one (cut_tag t inside (tags_in [] c)) inside space)) ≡ true
unfolding flat
cut_readable c t inside space h = (parts_of is_readable c (one t inside space) h).1
