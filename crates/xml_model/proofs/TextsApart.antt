-- In a walk no text follows a text: each runs to the next < or to the end.
use Rattle.std.proofs.Common.{◌≡◌, ℕ, ◌+◌, Bool, true, false, List, [], ◌∷◌, ◌++◌, length, drop, refl, sym, ap, ap₂, ◌∙◌, arith, append_assoc, length-append, not}
use Rattle.std.specs.Prelude.{◌&&◌, ◌==◌, codes}
use Rattle.std.specs.List.{list_all}
use Rattle.std.proofs.lemmas.Bool.{and_parts, and_from, false≢true, not-true, eqb-true, eq-eqb}
use Rattle.std.proofs.lemmas.Str.{char_from_byte, length-encode, len_utf8_bounds}
use lib.Utf8.{encode, encodes}
use Rattle.xml_model.specs.Chars.{is_char, lacks, begins}
use Rattle.xml_model.specs.Items.{Piece, literal, entity, decimal, hexadecimal, Leaf, Item, leaf, start_tag, empty_tag, end_tag, written_piece}
use Rattle.xml_model.specs.Items.{written_pieces, meets, meets_piece, is_nil, spelling, begins_at, ends_well, may_begin_at, first_place, walk}
use Rattle.xml_model.specs.Items.{walk_from, walk_to_end}
use Rattle.xml_model.specs.Nest.{Forest, done, single, empty, element, flat}
use Rattle.xml_model.specs.Accepted.{IsDocument}

abbrev pub is_text : Item → Bool
is_text (leaf (Leaf.text ps)) = true
is_text _ = false

abbrev pub begins_text : List Item → Bool
begins_text [] = false
begins_text (i ∷ is) = is_text i

-- no text follows a text
abbrev pub apart : List Item → Bool
apart [] = true
apart (i ∷ is) = not (is_text i && begins_text is) && apart is

-- ---- what is written of a text does not begin with <

record First (w : List ℕ) : Type 0 where
  char : ℕ
  more : List ℕ
  is : w ≡ char ∷ more
  other : (char == 60) ≡ false

first_piece : (p : Piece) (w : List ℕ) → meets_piece (λ c. false) p ≡ true → First (written_piece p ++ w)
first_piece (literal c) w m =
    let a = and_parts (is_char c && not (c == 60) && not (c == 38)) true m in
    let b = and_parts (is_char c && not (c == 60)) (not (c == 38)) a.0 in
    record { char = c; more = w; is = refl; other = not-true (c == 60) (and_parts (is_char c) _ b.0).1 }
first_piece (entity name) w m = record { char = 38; more = (name ++ codes ";") ++ w; is = refl; other = refl }
first_piece (decimal digits) w m = record { char = 38; more = (35 ∷ digits ++ codes ";") ++ w; is = refl; other = refl }
first_piece (hexadecimal digits) w m = record { char = 38; more = (35 ∷ 120 ∷ digits ++ codes ";") ++ w; is = refl; other = refl }

first_of_text : (ps : List Piece) → meets (leaf (Leaf.text ps)) ≡ true → First (written_pieces ps)
unfolding meets
first_of_text [] m = absurd (false≢true (and_parts false true (and_parts (false && true) (lacks (codes "]]>") []) m).0).0)
first_of_text (p ∷ ps) m =
    let q = and_parts (not (is_nil (written_pieces (p ∷ ps))) && list_all (meets_piece (λ c. false)) (p ∷ ps)) _ m in
    let r = and_parts _ (list_all (meets_piece (λ c. false)) (p ∷ ps)) q.0 in
    first_piece p (written_pieces ps) (and_parts (meets_piece (λ c. false) p) _ r.1).0

-- a character whose first byte is < is <
opens : (bs rest : List ℕ) (c : ℕ) → bs ≡ encode c ++ rest → ends_well (leaf (Leaf.text [])) bs ≡ true → (c == 60) ≡ true
opens [] rest c e h = absurd (omega (arith, ap (λ (l : List ℕ). length l) e, length-append (encode c) rest, length-encode c, len_utf8_bounds c))
opens (b ∷ bs) rest c e h =
    let first : b ≡ 60 = eqb-true b 60 h in
    eq-eqb c 60 (char_from_byte (b ∷ bs) rest c e (omega (arith, first)) (omega arith) ∙ first)

-- what begins with characters is these and the rest
split_off : (w bytes : List ℕ) → begins w bytes ≡ true → (rest : List ℕ) × (bytes ≡ w ++ rest)
split_off [] bytes h = (bytes, refl)
split_off (c ∷ w) [] h = absurd (false≢true h)
split_off (c ∷ w) (d ∷ bytes) h =
    let q = and_parts (c == d) (begins w bytes) h in
    let s = split_off w bytes q.1 in
    (s.0, ap₂ (λ x xs. x ∷ xs) (sym (eqb-true c d q.0)) s.1)

-- what an item at a place meets, and where its spelling is
record Here (bytes : List ℕ) (at : ℕ) (i : Item) : Type 0 where
  meets : meets i ≡ true
  rest : List ℕ
  whole : drop at bytes ≡ spelling i ++ rest

here : (bytes : List ℕ) (at : ℕ) (i : Item) → begins_at bytes at i ≡ true → Here bytes at i
unfolding begins_at
here bytes at i h =
    let x = and_parts (meets i && begins (spelling i) (drop at bytes) && ends_well i (drop (at + length (spelling i)) bytes)) (may_begin_at i (first_place bytes) at) h in
    let y = and_parts (meets i && begins (spelling i) (drop at bytes)) (ends_well i (drop (at + length (spelling i)) bytes)) x.0 in
    let z = and_parts (meets i) (begins (spelling i) (drop at bytes)) y.0 in
    let s = split_off (spelling i) (drop at bytes) z.1 in
    record { meets = z.0; rest = s.0; whole = s.1 }

-- so no text begins where a text may end
no_text : (bytes : List ℕ) (at : ℕ) (ps qs : List Piece) → ends_well (leaf (Leaf.text ps)) (drop at bytes) ≡ true →
    begins_at bytes at (leaf (Leaf.text qs)) ≡ true → ⊥
unfolding spelling
no_text bytes at ps qs e b =
    let i = leaf (Leaf.text qs) in
    let h = here bytes at i b in
    let f = first_of_text qs h.meets in
    let rest = h.rest in
    let split : drop at bytes ≡ encode f.char ++ (encodes f.more ++ rest) =
    h.whole ∙ ap (λ (l : List ℕ). encodes l ++ rest) f.is ∙ append_assoc (encode f.char) (encodes f.more) rest in
    false≢true (sym f.other ∙ opens (drop at bytes) (encodes f.more ++ rest) f.char split (same (drop at bytes) e))
  where
    same : (bs : List ℕ) → ends_well (leaf (Leaf.text ps)) bs ≡ true → ends_well (leaf (Leaf.text [])) bs ≡ true
    same [] k = refl
    same (b ∷ bs) k = k

-- ---- the items of a walk

ends_there : (bytes : List ℕ) (at : ℕ) (i : Item) → begins_at bytes at i ≡ true → ends_well i (drop (at + length (spelling i)) bytes) ≡ true
unfolding begins_at
ends_there bytes at i b =
    (and_parts _ (ends_well i (drop (at + length (spelling i)) bytes)) (and_parts _ (may_begin_at i (first_place bytes) at) b).0).1

text_none : (bytes : List ℕ) (at : ℕ) (ps : List Piece) (j : Item) → ends_well (leaf (Leaf.text ps)) (drop at bytes) ≡ true →
    begins_at bytes at j ≡ true → is_text j ≡ false
text_none bytes at ps (leaf (Leaf.text qs)) e b = absurd (no_text bytes at ps qs e b)
text_none bytes at ps (leaf (Leaf.cdata cs)) e b = refl
text_none bytes at ps (leaf (Leaf.comment cs)) e b = refl
text_none bytes at ps (leaf (Leaf.instruction x)) e b = refl
text_none bytes at ps (leaf (Leaf.declaration d)) e b = refl
text_none bytes at ps (leaf (Leaf.doctype d)) e b = refl
text_none bytes at ps (start_tag t) e b = refl
text_none bytes at ps (empty_tag t) e b = refl
text_none bytes at ps (end_tag name space) e b = refl

next_apart : (bytes : List ℕ) (at : ℕ) (i : Item) (is : List Item) → begins_at bytes at i ≡ true →
    walk_from bytes (at + length (spelling i)) is ≡ true → not (is_text i && begins_text is) ≡ true
next_apart bytes at (leaf (Leaf.text ps)) [] b w = refl
next_apart bytes at (leaf (Leaf.text ps)) (j ∷ js) b w =
    let past = at + length (spelling (leaf (Leaf.text ps))) in
    ap not (text_none bytes past ps j (ends_there bytes at (leaf (Leaf.text ps)) b) (and_parts (begins_at bytes past j) _ w).0)
next_apart bytes at (leaf (Leaf.cdata cs)) is b w = refl
next_apart bytes at (leaf (Leaf.comment cs)) is b w = refl
next_apart bytes at (leaf (Leaf.instruction x)) is b w = refl
next_apart bytes at (leaf (Leaf.declaration d)) is b w = refl
next_apart bytes at (leaf (Leaf.doctype d)) is b w = refl
next_apart bytes at (start_tag t) is b w = refl
next_apart bytes at (empty_tag t) is b w = refl
next_apart bytes at (end_tag name space) is b w = refl

walk_apart : (bytes : List ℕ) (at : ℕ) (is : List Item) → walk_from bytes at is ≡ true → apart is ≡ true
walk_apart bytes at [] w = refl
walk_apart bytes at (i ∷ is) w =
    let q = and_parts (begins_at bytes at i) (walk_from bytes (at + length (spelling i)) is) w in
    and_from _ _ (next_apart bytes at i is q.0 q.1) (walk_apart bytes (at + length (spelling i)) is q.1)

pub document_apart : (bytes : List ℕ) (nest : Forest) → IsDocument bytes nest → apart (flat nest) ≡ true
unfolding walk_to_end walk
document_apart bytes nest d =
    walk_apart bytes (first_place bytes) (flat nest) (and_parts (walk_from bytes (first_place bytes) (flat nest)) _ d.walked).0

-- ---- a part of them

before : (x : Item) (xs ys : List Item) → not (is_text x && begins_text (xs ++ ys)) ≡ true → not (is_text x && begins_text xs) ≡ true
before x [] ys h = none (is_text x)
  where
    none : (b : Bool) → not (b && false) ≡ true
    none true = refl
    none false = refl
before x (z ∷ zs) ys h = h

pub apart-append : (xs ys : List Item) → apart (xs ++ ys) ≡ true → (apart xs ≡ true) × (apart ys ≡ true)
apart-append [] ys h = (refl, h)
apart-append (x ∷ xs) ys h =
    let q = and_parts (not (is_text x && begins_text (xs ++ ys))) (apart (xs ++ ys)) h in
    let r = apart-append xs ys q.1 in
    (and_from _ _ (before x xs ys q.0) r.0, r.1)

-- ---- in a list of pieces

-- no text follows a text in any list of pieces
abbrev pub Separate : Forest → Type 0
Separate done = Unit {0}
Separate (single x f) = ((is_text (leaf x) && begins_text (flat f)) ≡ false) × Separate f
Separate (empty t f) = Separate f
Separate (element t inside space f) = Separate inside × Separate f

pub separate : (f : Forest) → apart (flat f) ≡ true → Separate f
unfolding flat
separate done h = tt
separate (single x f) h =
    let q = and_parts (not (is_text (leaf x) && begins_text (flat f))) (apart (flat f)) h in (not-true _ q.0, separate f q.1)
separate (empty t f) h = separate f h
separate (element t inside space f) h =
    let q = apart-append (flat inside) (end_tag t.name space ∷ flat f) h in (separate inside q.0, separate f q.1)

pub document_separate : (bytes : List ℕ) (nest : Forest) → IsDocument bytes nest → Separate nest
document_separate bytes nest d = separate nest (document_apart bytes nest d)
