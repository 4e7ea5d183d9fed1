-- The bytes that a nest spells are walked by its items.
use Rattle.std.proofs.Common.{◌≡◌, ℕ, suc, ◌+◌, ◌<◌, Bool, true, false, inl, inr, List, [], ◌∷◌, ◌++◌, length, drop, refl, sym, ap, ◌∙◌}
use Rattle.std.proofs.Common.{arith, not, ◌&&◌, append_assoc, append-nil, length-append, drop_at, eq-eqb, ne_eqb}
use Rattle.std.specs.Prelude.{codes, ◌==◌, IsUtf8, nat_le}
use Rattle.std.specs.List.{list_all}
use lib.Utf8.{scalar, scalars, low_scalar, encode, encodes}
use Rattle.std.proofs.lemmas.Bool.{and_parts, and_from, or_cases, false≢true, cases_lt, not-true, le-leb, lt-ltb, le-ltb}
use Rattle.std.proofs.lemmas.List.Folds.{list_all-append}
use Rattle.std.proofs.lemmas.Str.{IsUtf8-append, IsUtf8-nil, encode_ascii}
use Rattle.xml_model.specs.Chars.{begins, is_char, is_space}
use Rattle.xml_model.specs.Items.{Piece, literal, entity, decimal, hexadecimal, written_pieces, is_nil, Leaf, text, cdata, declaration}
use Rattle.xml_model.specs.Items.{doctype, Item, leaf, start_tag, empty_tag, end_tag, written, spelling, meets, begins_at, ends_well}
use Rattle.xml_model.specs.Items.{may_begin_at, first_place, byte_order_mark, walk, walk_from, walk_to_end, end_of_items}
use Rattle.xml_model.specs.Nest.{Forest, done, single, empty, element, flat, is_literal_space, is_misc, is_content_leaf, is_content}
use Rattle.xml_model.specs.Nest.{is_tail, is_body, is_doctype, is_head, is_declaration, is_nest}
use Rattle.xml_model.specs.Accepted.{IsDocument}
use Rattle.xml_chars.proofs.Readers.{begins_append}
use Rattle.xml_chars.proofs.Ranges.{space_low}
use Rattle.xml_chars.proofs.NumberLemmas.{char_top, char_scalar}
use Rattle.xml_nests.specs.Fits.{spelled, mark, mark_length, document_of, is_text_item, begins_with_text, texts_apart}
use Rattle.xml_nests.proofs.Written.{Good, good_item}

-- ---- one item

pub begins_here : (front rest : List ℕ) (i : Item) (bytes : List ℕ) → bytes ≡ front ++ (spelling i ++ rest) → meets i ≡ true →
    ends_well i rest ≡ true → may_begin_at i (first_place bytes) (length front) ≡ true →
    begins_at bytes (length front) i ≡ true
unfolding begins_at
begins_here front rest i bytes e m w s =
    let d : drop (length front) bytes ≡ spelling i ++ rest = ap (drop (length front)) e
    ∙ drop_at front (spelling i ++ rest) (length front) refl in
    let d2 : drop (length front + length (spelling i)) bytes ≡ rest =
    ap (drop (length front + length (spelling i))) (e ∙ sym (append_assoc front (spelling i) rest))
    ∙ drop_at (front ++ spelling i) rest (length front + length (spelling i)) (length-append front (spelling i)) in
    and_from _ _
    (and_from _ _ (and_from _ _ m (ap (begins (spelling i)) d ∙ begins_append (spelling i) rest)) (ap (ends_well i) d2 ∙ w)) s

-- what is no text begins with a <
pub opens : (i : Item) → is_text_item i ≡ false → (bs : List ℕ) × (spelling i ≡ 60 ∷ bs)
unfolding spelling lib.Utf8.encode
opens (leaf (text ps)) h = absurd (false≢true (sym h))
opens (leaf (cdata cs)) h = (_, refl)
opens (leaf (Leaf.comment cs)) h = (_, refl)
opens (leaf (Leaf.instruction i)) h = (_, refl)
opens (leaf (declaration d)) h = (_, refl)
opens (leaf (doctype d)) h = (_, refl)
opens (start_tag t) h = (_, refl)
opens (empty_tag t) h = (_, refl)
opens (end_tag name space) h = (_, refl)

text_ends : (ps : List Piece) (is : List Item) → not (begins_with_text is) ≡ true → ends_well (leaf (text ps)) (spelled is) ≡ true
text_ends ps [] h = refl
text_ends ps (j ∷ js) h =
    let o = opens j (not-true (is_text_item j) h) in
    ap (ends_well (leaf (text ps))) (ap (λ (l : List ℕ). l ++ spelled js) o.1)

ends : (i : Item) (is : List Item) → not (is_text_item i && begins_with_text is) ≡ true → ends_well i (spelled is) ≡ true
ends (leaf (text ps)) is h = text_ends ps is h
ends (leaf (cdata cs)) is h = refl
ends (leaf (Leaf.comment cs)) is h = refl
ends (leaf (Leaf.instruction i)) is h = refl
ends (leaf (declaration d)) is h = refl
ends (leaf (doctype d)) is h = refl
ends (start_tag t) is h = refl
ends (empty_tag t) is h = refl
ends (end_tag name space) is h = refl

-- ---- declarations stand first

abbrev pub is_declaration_item : Item → Bool
is_declaration_item (leaf (declaration d)) = true
is_declaration_item _ = false

abbrev pub is_ordinary : Item → Bool
is_ordinary i = not (is_declaration_item i)

pub stands : (i : Item) (first p : ℕ) → is_ordinary i ≡ true → may_begin_at i first p ≡ true
stands (leaf (text ps)) first p h = refl
stands (leaf (cdata cs)) first p h = refl
stands (leaf (Leaf.comment cs)) first p h = refl
stands (leaf (Leaf.instruction i)) first p h = refl
stands (leaf (declaration d)) first p h = absurd (false≢true h)
stands (leaf (doctype d)) first p h = refl
stands (start_tag t) first p h = refl
stands (empty_tag t) first p h = refl
stands (end_tag name space) first p h = refl

pub stands_first : (i : Item) (p : ℕ) → may_begin_at i p p ≡ true
stands_first (leaf (text ps)) p = refl
stands_first (leaf (cdata cs)) p = refl
stands_first (leaf (Leaf.comment cs)) p = refl
stands_first (leaf (Leaf.instruction i)) p = refl
stands_first (leaf (declaration d)) p = eq-eqb p p refl
stands_first (leaf (doctype d)) p = refl
stands_first (start_tag t) p = refl
stands_first (empty_tag t) p = refl
stands_first (end_tag name space) p = refl

content_leaf : (x : Leaf) → is_content_leaf x ≡ true → is_ordinary (leaf x) ≡ true
content_leaf (text ps) h = refl
content_leaf (cdata cs) h = refl
content_leaf (Leaf.comment cs) h = refl
content_leaf (Leaf.instruction i) h = refl
content_leaf (declaration d) h = absurd (false≢true h)
content_leaf (doctype d) h = refl

misc_leaf : (x : Leaf) → is_misc x ≡ true → is_ordinary (leaf x) ≡ true
misc_leaf (text ps) h = refl
misc_leaf (cdata cs) h = refl
misc_leaf (Leaf.comment cs) h = refl
misc_leaf (Leaf.instruction i) h = refl
misc_leaf (declaration d) h = absurd (false≢true h)
misc_leaf (doctype d) h = refl

doctype_leaf : (x : Leaf) → is_doctype x ≡ true → is_ordinary (leaf x) ≡ true
doctype_leaf (text ps) h = refl
doctype_leaf (cdata cs) h = refl
doctype_leaf (Leaf.comment cs) h = refl
doctype_leaf (Leaf.instruction i) h = refl
doctype_leaf (declaration d) h = absurd (false≢true h)
doctype_leaf (doctype d) h = refl

pub content_ordinary : (n : ℕ) (f : Forest) → is_content n f ≡ true → list_all is_ordinary (flat f) ≡ true
unfolding is_content flat
content_ordinary n done h = refl
content_ordinary n (single x f) h = let q =
    and_parts (is_content_leaf x) _ h in and_from _ _ (content_leaf x q.0) (content_ordinary n f q.1)
content_ordinary n (empty t f) h = content_ordinary n f (and_parts (nat_le n 254) _ h).1
content_ordinary n (element t inside space f) h =
    let q = and_parts _ (is_content n f) h in
    let r = and_parts (nat_le n 254) _ q.0 in
    list_all-append is_ordinary (flat inside) (end_tag t.name space ∷ flat f)
    ∙ and_from _ _ (content_ordinary (suc n) inside r.1) (content_ordinary n f q.1)

tail_ordinary : (f : Forest) → is_tail f ≡ true → list_all is_ordinary (flat f) ≡ true
unfolding is_tail flat
tail_ordinary done h = refl
tail_ordinary (single x f) h = let q = and_parts (is_misc x) _ h in and_from _ _ (misc_leaf x q.0) (tail_ordinary f q.1)
tail_ordinary (empty t f) h = absurd (false≢true h)
tail_ordinary (element t inside space f) h = absurd (false≢true h)

body_ordinary : (f : Forest) → is_body f ≡ true → list_all is_ordinary (flat f) ≡ true
unfolding is_body flat
body_ordinary done h = absurd (false≢true h)
body_ordinary (single x f) h = let q = and_parts (is_misc x) _ h in and_from _ _ (misc_leaf x q.0) (body_ordinary f q.1)
body_ordinary (empty t f) h = tail_ordinary f h
body_ordinary (element t inside space f) h =
    let q = and_parts (is_content 1 inside) _ h in
    list_all-append is_ordinary (flat inside) (end_tag t.name space ∷ flat f)
    ∙ and_from _ _ (content_ordinary 1 inside q.0) (tail_ordinary f q.1)

head_ordinary : (f : Forest) → is_head f ≡ true → list_all is_ordinary (flat f) ≡ true
unfolding is_head flat
head_ordinary done h = body_ordinary done h
head_ordinary (single x f) h = elim (or_cases (is_misc x && is_head f) _ h) [
  | inl t ↦ let q = and_parts (is_misc x) _ t in and_from _ _ (misc_leaf x q.0) (head_ordinary f q.1)
  | inr t ↦ let q = and_parts (is_doctype x) _ t in and_from _ _ (doctype_leaf x q.0) (body_ordinary f q.1)
]
head_ordinary (empty t f) h = body_ordinary (empty t f) h
head_ordinary (element t inside space f) h = body_ordinary (element t inside space f) h

-- after the first item all are ordinary
abbrev pub rest_of : List Item → List Item
rest_of [] = []
rest_of (i ∷ is) = is

pub nest_ordinary : (f : Forest) → is_nest f ≡ true → list_all is_ordinary (rest_of (flat f)) ≡ true
unfolding is_nest flat
nest_ordinary done h = refl
nest_ordinary (single x f) h = elim (or_cases (is_declaration x && is_head f) _ h) [
  | inl t ↦ head_ordinary f (and_parts (is_declaration x) _ t).1
  | inr t ↦ (and_parts (is_ordinary (leaf x)) _ (head_ordinary (single x f) t)).1
]
nest_ordinary (empty t f) h = head_ordinary (empty t f) h
nest_ordinary (element t inside space f) h = head_ordinary (element t inside space f) h

-- ---- the walk

pub walk_rest : (bytes front : List ℕ) (is : List Item) → bytes ≡ front ++ spelled is → list_all meets is ≡ true →
    texts_apart is ≡ true → list_all is_ordinary is ≡ true →
    (walk_from bytes (length front) is ≡ true) × (end_of_items (length front) is ≡ length bytes)
walk_rest bytes front [] e m a o = (refl, sym (ap length e ∙ ap length (append-nil front)))
walk_rest bytes front (i ∷ is) e m a o =
    let m2 = and_parts (meets i) (list_all meets is) m in
    let a2 = and_parts _ (texts_apart is) a in
    let o2 = and_parts (is_ordinary i) (list_all is_ordinary is) o in
    let b = begins_here front (spelled is) i bytes e m2.0 (ends i is a2.0) (stands i (first_place bytes) (length front) o2.0) in
    let r = walk_rest bytes (front ++ spelling i) is (e ∙ sym (append_assoc front (spelling i) (spelled is))) m2.1 a2.1 o2.1 in
    let l = length-append front (spelling i) in
    (and_from _ _ b (ap (λ n. walk_from bytes n is) (sym l) ∙ r.0), ap (λ n. end_of_items n is) (sym l) ∙ r.1)

walk_first : (bytes front : List ℕ) (is : List Item) → bytes ≡ front ++ spelled is → first_place bytes ≡ length front →
    list_all meets is ≡ true → texts_apart is ≡ true → list_all is_ordinary (rest_of is) ≡ true →
    (walk_from bytes (length front) is ≡ true) × (end_of_items (length front) is ≡ length bytes)
walk_first bytes front [] e p m a o = walk_rest bytes front [] e m a o
walk_first bytes front (i ∷ is) e p m a o =
    let m2 = and_parts (meets i) (list_all meets is) m in
    let a2 = and_parts _ (texts_apart is) a in
    let b = begins_here front (spelled is) i bytes e m2.0 (ends i is a2.0)
    (ap (λ n. may_begin_at i n (length front)) p ∙ stands_first i (length front)) in
    let r = walk_rest bytes (front ++ spelling i) is (e ∙ sym (append_assoc front (spelling i) (spelled is))) m2.1 a2.1 o in
    let l = length-append front (spelling i) in
    (and_from _ _ b (ap (λ n. walk_from bytes n is) (sym l) ∙ r.0), ap (λ n. end_of_items n is) (sym l) ∙ r.1)

-- ---- the first place

pub first_marked : (rest : List ℕ) → first_place (byte_order_mark ++ rest) ≡ 3
unfolding first_place
first_marked rest = refl

pub first_low : (b : ℕ) (bs : List ℕ) → b < 128 → first_place (b ∷ bs) ≡ 0
unfolding first_place
first_low b bs l = rw (ne_eqb 0xEF b (λ e. omega (arith, e, l))) refl

-- text outside of the root element begins with white space
space_first : (ps : List Piece) → list_all is_literal_space ps ≡ true → not (is_nil (written_pieces ps)) ≡ true →
    (b : ℕ) × (bs : List ℕ) × (spelling (leaf (text ps)) ≡ b ∷ bs) × (b < 128)
unfolding spelling
space_first [] h n = absurd (false≢true n)
space_first (literal c ∷ ps) h n =
    let q = and_parts (is_space c) _ h in
    let low = space_low c q.0 in
    (c, _, ap (λ (l : List ℕ). l ++ encodes (written_pieces ps)) (encode_ascii c low), low)
space_first (entity name ∷ ps) h n = absurd (false≢true h)
space_first (decimal ds ∷ ps) h n = absurd (false≢true h)
space_first (hexadecimal ds ∷ ps) h n = absurd (false≢true h)

abbrev pub LowFirst : List ℕ → Type 0
LowFirst bytes = (b : ℕ) × (bs : List ℕ) × (bytes ≡ b ∷ bs) × (b < 128)

opened : (i : Item) (is : List Item) → is_text_item i ≡ false → LowFirst (spelled (i ∷ is))
opened i is h = let o = opens i h in (60, _, ap (λ (l : List ℕ). l ++ spelled is) o.1, omega arith)

leaf_first : (x : Leaf) (f : Forest) → is_nest (single x f) ≡ true → meets (leaf x) ≡ true → LowFirst (spelled (flat (single x f)))
unfolding is_nest is_head flat meets
leaf_first (text ps) f h m =
    let q = and_parts _ (lacks_end ps) m in
    let n = (and_parts (not (is_nil (written_pieces ps))) _ q.0).0 in
    elim (or_cases (list_all is_literal_space ps && is_head f) false h) [
      | inl t ↦ let s =
          space_first ps (and_parts (list_all is_literal_space ps) _ t).0 n in
          (s.0, _, ap (λ (l : List ℕ). l ++ spelled (flat f)) s.2, s.3)
      | inr t ↦ absurd (false≢true t)
    ]
  where
    lacks_end : List Piece → Bool
    lacks_end ps = Rattle.xml_model.specs.Chars.lacks (codes "]]>") (written_pieces ps)
leaf_first (cdata cs) f h m = opened (leaf (cdata cs)) (flat f) refl
leaf_first (Leaf.comment cs) f h m = opened (leaf (Leaf.comment cs)) (flat f) refl
leaf_first (Leaf.instruction i) f h m = opened (leaf (Leaf.instruction i)) (flat f) refl
leaf_first (declaration d) f h m = opened (leaf (declaration d)) (flat f) refl
leaf_first (doctype d) f h m = opened (leaf (doctype d)) (flat f) refl

pub nest_first : (f : Forest) → is_nest f ≡ true → list_all meets (flat f) ≡ true → LowFirst (spelled (flat f))
unfolding is_nest is_head is_body flat
nest_first done h m = absurd (false≢true h)
nest_first (single x f) h m = leaf_first x f h (and_parts (meets (leaf x)) _ m).0
nest_first (empty t f) h m = opened (empty_tag t) (flat f) refl
nest_first (element t inside space f) h m = opened (start_tag t) (flat inside ++ end_tag t.name space ∷ flat f) refl

pub first_of : (marked : Bool) (f : Forest) → is_nest f ≡ true → list_all meets (flat f) ≡ true →
    first_place (document_of marked f) ≡ length (mark marked)
unfolding document_of
first_of true f h m = first_marked (spelled (flat f))
first_of false f h m = let q = nest_first f h m in ap first_place q.2 ∙ first_low q.0 q.1 q.3

pub first_place_of : (marked : Bool) (f : Forest) → is_nest f ≡ true → list_all meets (flat f) ≡ true →
    first_place (document_of marked f) ≡ mark_length marked
first_place_of true f h m = first_of true f h m
first_place_of false f h m = first_of false f h m

-- ---- a document

pub document_from_nest : (marked : Bool) (f : Forest) → is_nest f ≡ true → list_all meets (flat f) ≡ true → texts_apart (flat f) ≡ true →
    IsDocument (document_of marked f) f
unfolding document_of walk_to_end walk
document_from_nest marked f h m a =
    let p = first_of marked f h m in
    let w = walk_first (document_of marked f) (mark marked) (flat f) refl p m a (nest_ordinary f h) in
    record {
      nests = h;
      walked = and_from _ _ (ap (λ n. walk_from (document_of marked f) n (flat f)) p ∙ w.0)
          (ap (λ n. end_of_items n (flat f) == length (document_of marked f)) p ∙ eq-eqb _ _ w.1);
    }

-- ---- UTF-8

pub char_is_scalar : (c : ℕ) → is_char c ≡ true → scalar c ≡ true
char_is_scalar c h = elim (char_scalar c h) [
  | inl low ↦ low_scalar c low
  | inr high ↦ elim (cases_lt c 55296) [
    | inl low ↦ low_scalar c low
    | inr ge ↦ rw (le-ltb c 55296 ge) (and_from _ _ (le-leb 57344 c high) (lt-ltb c 1114112 (omega (arith, char_top c h))))
  ]
]

pub good_scalars : (cs : List ℕ) → Good cs → scalars cs ≡ true
good_scalars [] h = refl
good_scalars (c ∷ cs) h = let q =
    and_parts (is_char c) (list_all is_char cs) h in and_from _ _ (char_is_scalar c q.0) (good_scalars cs q.1)

pub spelled_utf8 : (is : List Item) → list_all meets is ≡ true → IsUtf8 (spelled is)
unfolding spelling
spelled_utf8 [] m = IsUtf8-nil
spelled_utf8 (i ∷ is) m =
    let q = and_parts (meets i) (list_all meets is) m in
    IsUtf8-append (spelling i) (spelled is) (written i, (good_scalars (written i) (good_item i q.0), refl)) (spelled_utf8 is q.1)

pub mark_utf8 : (marked : Bool) → IsUtf8 (mark marked)
unfolding lib.Utf8.encode
mark_utf8 true = (0xFEFF ∷ [], (refl, refl))
mark_utf8 false = IsUtf8-nil

pub document_utf8 : (marked : Bool) (f : Forest) → list_all meets (flat f) ≡ true → IsUtf8 (document_of marked f)
unfolding document_of
document_utf8 marked f m = IsUtf8-append (mark marked) (spelled (flat f)) (mark_utf8 marked) (spelled_utf8 (flat f) m)
