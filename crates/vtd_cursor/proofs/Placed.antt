-- The pieces of a document are in its bytes one after another, and in an element is content alone.
use Rattle.std.proofs.Common.{◌≡◌, ℕ, suc, Bool, true, ◌&&◌, List, [], ◌∷◌, ◌++◌, length, refl, ap, sym, ◌∙◌, append_assoc, append-nil, ⊎_elim, nat_le, ◌==◌, eqb-true}
use Rattle.std.specs.Prelude.{⊤}
use Rattle.std.proofs.lemmas.Bool.{and_parts, or_cases, false≢true}
use Rattle.xml_model.specs.Chars.{size}
use Rattle.xml_model.specs.Items.{Leaf, Item, leaf, start_tag, empty_tag, end_tag, begins_at, spelling, walk, walk_from, walk_to_end, end_of_items, first_place}
use Rattle.xml_model.specs.Nest.{Forest, done, single, empty, element, flat, is_content, is_content_leaf, is_tail, is_body, is_head, is_nest, is_misc, is_declaration, is_doctype}
use Rattle.xml_model.specs.Records.{past_leaf, past_empty, past_start, past_forest, past_element}
use Rattle.xml_model.specs.Accepted.{IsDocument}
use Rattle.vtd_words.proofs.Fitting.{past_items}

abbrev pub any_leaf : Leaf → Bool
any_leaf x = true

-- the leaves of a list pass a test, and what is in its elements is content
abbrev pub Fit : (Leaf → Bool) → Forest → Type 0
Fit may done = ⊤
Fit may (single x f) = (may x ≡ true) × Fit may f
Fit may (empty t f) = Fit may f
Fit may (element t inside space f) = Fit is_content_leaf inside × Fit may f

content_fits : (f : Forest) (l : ℕ) → is_content l f ≡ true → Fit is_content_leaf f
unfolding is_content
content_fits done l h = tt
content_fits (single x f) l h = let p = and_parts (is_content_leaf x) _ h in (p.0, content_fits f l p.1)
content_fits (empty t f) l h = content_fits f l (and_parts (nat_le l 254) _ h).1
content_fits (element t inside space f) l h =
    let p = and_parts (nat_le l 254 && is_content (suc l) inside) _ h in
    (content_fits inside (suc l) (and_parts (nat_le l 254) _ p.0).1, content_fits f l p.1)

tail_fits : (f : Forest) → is_tail f ≡ true → Fit any_leaf f
unfolding is_tail
tail_fits done h = tt
tail_fits (single x f) h = (refl, tail_fits f (and_parts (is_misc x) _ h).1)
tail_fits (empty t f) h = absurd (false≢true h)
tail_fits (element t inside space f) h = absurd (false≢true h)

body_fits : (f : Forest) → is_body f ≡ true → Fit any_leaf f
unfolding is_body
body_fits done h = tt
body_fits (single x f) h = (refl, body_fits f (and_parts (is_misc x) _ h).1)
body_fits (empty t f) h = tail_fits f h
body_fits (element t inside space f) h = let p = and_parts (is_content 1 inside) _ h in (content_fits inside 1 p.0, tail_fits f p.1)

head_fits : (f : Forest) → is_head f ≡ true → Fit any_leaf f
unfolding is_head
head_fits done h = tt
head_fits (single x f) h =
    (refl, ⊎_elim (λ k. head_fits f (and_parts (is_misc x) _ k).1) (λ k. body_fits f (and_parts (is_doctype x) _ k).1) (or_cases (is_misc x && is_head f) _ h))
head_fits (empty t f) h = body_fits (empty t f) h
head_fits (element t inside space f) h = body_fits (element t inside space f) h

nest_fits : (f : Forest) → is_nest f ≡ true → Fit any_leaf f
unfolding is_nest
nest_fits done h = tt
nest_fits (single x f) h = ⊎_elim (λ k. (refl, head_fits f (and_parts (is_declaration x) _ k).1)) (λ k. head_fits (single x f) k) (or_cases (is_declaration x && is_head f) _ h)
nest_fits (empty t f) h = head_fits (empty t f) h
nest_fits (element t inside space f) h = head_fits (element t inside space f) h

-- the tags of a list of pieces are in the bytes, from a place on; and its leaves pass a test
abbrev pub Placed : (Leaf → Bool) → List ℕ → ℕ → Forest → Type 0
Placed may bytes at done = ⊤
Placed may bytes at (single x f) = (may x ≡ true) × Placed may bytes (past_leaf at x) f
Placed may bytes at (empty t f) = (begins_at bytes at (empty_tag t) ≡ true) × Placed may bytes (past_empty at t) f
Placed may bytes at (element t inside space f) =
    (begins_at bytes at (start_tag t) ≡ true) × Placed is_content_leaf bytes (past_start at t) inside × (begins_at bytes (past_forest (past_start at t) inside) (end_tag t.name space) ≡ true) × Placed may bytes (past_element at t inside space) f

placed : (f : Forest) (may : Leaf → Bool) (bytes : List ℕ) (at : ℕ) (js : List Item) → Fit may f → walk_from bytes at (flat f ++ js) ≡ true → Placed may bytes at f × (walk_from bytes (past_forest at f) js ≡ true)
unfolding flat size spelling
placed done may bytes at js fit w = (tt, w)
placed (single x f) may bytes at js fit w =
    let p = and_parts (begins_at bytes at (leaf x)) _ w in
    let r = placed f may bytes (past_leaf at x) js fit.1 p.1 in
    ((fit.0, r.0), r.1)
placed (empty t f) may bytes at js fit w =
    let p = and_parts (begins_at bytes at (empty_tag t)) _ w in
    let r = placed f may bytes (past_empty at t) js fit p.1 in
    ((p.0, r.0), r.1)
placed (element t inside space f) may bytes at js fit w =
    let p = and_parts (begins_at bytes at (start_tag t)) _ w in
    let after = end_tag t.name space ∷ flat f in
    let q : walk_from bytes (past_start at t) (flat inside ++ (after ++ js)) ≡ true = ap (walk_from bytes (past_start at t)) (sym (append_assoc (flat inside) after js)) ∙ p.1 in
    let i = placed inside is_content_leaf bytes (past_start at t) (after ++ js) fit.0 q in
    let e = and_parts (begins_at bytes (past_forest (past_start at t) inside) (end_tag t.name space)) _ i.1 in
    let r = placed f may bytes (past_element at t inside space) js fit.1 e.1 in
    ((p.0, i.0, e.0, r.0), r.1)

walked : (bytes : List ℕ) (nest : Forest) → IsDocument bytes nest → walk_from bytes (first_place bytes) (flat nest) ≡ true
unfolding walk walk_to_end
walked bytes nest d = (and_parts (walk bytes (flat nest)) _ d.walked).0

pub document_placed : (bytes : List ℕ) (nest : Forest) → IsDocument bytes nest → Placed any_leaf bytes (first_place bytes) nest
document_placed bytes nest d =
    (placed nest any_leaf bytes (first_place bytes) [] (nest_fits nest d.nests) (ap (walk_from bytes (first_place bytes)) (append-nil (flat nest)) ∙ walked bytes nest d)).0

pub document_ends : (bytes : List ℕ) (nest : Forest) → IsDocument bytes nest → past_forest (first_place bytes) nest ≡ length bytes
unfolding walk_to_end
document_ends bytes nest d = past_items nest (first_place bytes) ∙ eqb-true _ _ (and_parts (walk bytes (flat nest)) (end_of_items (first_place bytes) (flat nest) == length bytes) d.walked).1
