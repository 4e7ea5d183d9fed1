-- A text node that is set to a text with a character that is no Char: the document is refused, at the node's start.
use Rattle.std.proofs.Common.{◌≡◌, ℕ, suc, ◌+◌, ◌≤◌, Bool, true, false, ◌⊎◌, inl, inr, List, [], ◌∷◌, ◌++◌, map, length, drop, refl, sym, ap, subst, ◌∙◌}
use Rattle.std.proofs.Common.{arith, not, ◌&&◌, append_assoc, length-append, drop_at}
use Rattle.std.specs.Prelude.{◌==◌, IsUtf8, Contains}
use Rattle.std.specs.Str.{chars}
use Rattle.std.specs.List.{list_all}
use lib.Utf8.{encode, encodes, scalars}
use Rattle.std.proofs.lemmas.Bool.{and_parts, and_from, false≢true, cases_Bool}
use Rattle.std.proofs.lemmas.List.Folds.{list_all-append}
use Rattle.std.proofs.lemmas.Str.{IsUtf8-append, chars-append, chars-encodes, length-le-encodes}
use Rattle.xml_model.specs.declared.DocFault.TheVariants as faults
use Rattle.xml_model.specs.Chars.{is_char, begins}
use Rattle.xml_model.specs.Items.{Piece, Leaf, text, cdata, declaration, doctype, Item, leaf, start_tag, empty_tag, end_tag, written_piece, written_pieces}
use Rattle.xml_model.specs.Items.{spelling, meets, ends_well, may_begin_at, first_place, byte_order_mark, walk, walk_from, end_of_items}
use Rattle.xml_model.specs.Nest.{Forest, flat}
use Rattle.xml_model.specs.Tree.{Thing, Entry, all}
use Rattle.xml_model.specs.Accepted.{Accepted, IsRefusal}
use Rattle.xml_items.specs.Reading.{read_item}
use Rattle.xml_nests.specs.Fits.{spelled, mark, document_of, is_text_item, begins_with_text, texts_apart, ends_with_text, last_text}
use Rattle.xml_nests.specs.Context.{Context, before, past_single, past_tag, past_whole, within, leaves, items_before, items_after, place_in, is_held}
use Rattle.xml_patches.specs.Edited.{in_text}
use Rattle.xml_patches.specs.Patched.{text_bytes, exchanged}
use Rattle.xml_nests.proofs.Walks.{begins_here, opens, is_ordinary, stands, stands_first, nest_ordinary, rest_of, first_marked, first_low, nest_first}
use Rattle.xml_nests.proofs.Walks.{LowFirst, mark_utf8, spelled_utf8}
use Rattle.xml_nests.proofs.Around.{flat_plug}
use Rattle.xml_nests.proofs.Apart.{apart_left}
use Rattle.xml_nests.proofs.Back.{document_spelled, fits_from_accepted}
use Rattle.xml_nests.proofs.Bytes.{three_parts, document_parts, place_spelled, past_spelled, spelled_append}
use Rattle.xml_patches.proofs.TextNode.{text_stand, is_held_by, no_last_text}
use Rattle.xml_patches.proofs.Bad.{text_refused, syntax_refusal, none_begins, written_more, bad_in_text}

-- ---- a walk up to some place

other_ends : (i : Item) (z : List ℕ) → is_text_item i ≡ false → ends_well i z ≡ true
other_ends (leaf (text ps)) z n = absurd (false≢true (sym n))
other_ends (leaf (cdata cs)) z n = refl
other_ends (leaf (Leaf.comment cs)) z n = refl
other_ends (leaf (Leaf.instruction x)) z n = refl
other_ends (leaf (declaration x)) z n = refl
other_ends (leaf (doctype x)) z n = refl
other_ends (start_tag t) z n = refl
other_ends (empty_tag t) z n = refl
other_ends (end_tag name space) z n = refl

before_angle : (i : Item) (z : List ℕ) → ends_well i (60 ∷ z) ≡ true
before_angle (leaf (text ps)) z = refl
before_angle (leaf (cdata cs)) z = refl
before_angle (leaf (Leaf.comment cs)) z = refl
before_angle (leaf (Leaf.instruction x)) z = refl
before_angle (leaf (declaration x)) z = refl
before_angle (leaf (doctype x)) z = refl
before_angle (start_tag t) z = refl
before_angle (empty_tag t) z = refl
before_angle (end_tag name space) z = refl

not_both_texts : (a b : Bool) → not (a && b) ≡ true → (a ≡ false) ⊎ (b ≡ false)
not_both_texts true true e = absurd (false≢true e)
not_both_texts true false e = inr refl
not_both_texts false b e = inl refl

ends_before : (i : Item) (is : List Item) (z : List ℕ) → not (is_text_item i && begins_with_text is) ≡ true → last_text (is_text_item i) is ≡ false →
    ends_well i (spelled is ++ z) ≡ true
ends_before i [] z a e = other_ends i z e
ends_before i (j ∷ is) z a e = elim (not_both_texts (is_text_item i) (is_text_item j) a) [
  | inl n ↦ other_ends i (spelled (j ∷ is) ++ z) n
  | inr n ↦ let o = opens j n in ap (λ (l : List ℕ). ends_well i ((l ++ spelled is) ++ z)) o.1 ∙ before_angle i ((o.0 ++ spelled is) ++ z)
]

last_of : (i : Item) (is : List Item) (b : Bool) → last_text b (i ∷ is) ≡ false → last_text (is_text_item i) is ≡ false
last_of i is b e = e

rest_last : (i j : Item) (is : List Item) → last_text (is_text_item i) (j ∷ is) ≡ false → last_text false (j ∷ is) ≡ false
rest_last i j is e = e

rest_ends : (i : Item) (is : List Item) → last_text (is_text_item i) is ≡ false → ends_with_text is ≡ false
rest_ends i [] e = refl
rest_ends i (j ∷ is) e = e

walk_to : (bytes prefix : List ℕ) (is : List Item) (z : List ℕ) → bytes ≡ prefix ++ (spelled is ++ z) → list_all meets is ≡ true → texts_apart is ≡ true →
    ends_with_text is ≡ false → ((i : Item) (js : List Item) → is ≡ i ∷ js → may_begin_at i (first_place bytes) (length prefix) ≡ true) →
    list_all is_ordinary (rest_of is) ≡ true →
    (walk_from bytes (length prefix) is ≡ true) × (end_of_items (length prefix) is ≡ length prefix + length (spelled is))
walk_to bytes prefix [] z e m a t s o = (refl, omega arith)
walk_to bytes prefix (i ∷ is) z e m a t s o =
    let m2 = and_parts (meets i) (list_all meets is) m in
    let a2 = and_parts (not (is_text_item i && begins_with_text is)) (texts_apart is) a in
    let split : bytes ≡ prefix ++ (spelling i ++ (spelled is ++ z)) = e ∙ ap (λ (l : List ℕ). prefix ++ l) (append_assoc (spelling i) (spelled is) z) in
    let b = begins_here prefix (spelled is ++ z) i bytes split m2.0 (ends_before i is z a2.0 t) (s i is refl) in
    let l = length-append prefix (spelling i) in
    let k = length-append (spelling i) (spelled is) in
    let next : bytes ≡ (prefix ++ spelling i) ++ (spelled is ++ z) = split ∙ sym (append_assoc prefix (spelling i) (spelled is ++ z)) in
    let r = walk_to bytes (prefix ++ spelling i) is z next m2.1 a2.1 (rest_ends i is t)
    (λ j js h. stands j (first_place bytes) (length (prefix ++ spelling i)) (head_ordinary is j js h o)) (rest_ordinary is o) in
    (and_from _ _ b (ap (λ n. walk_from bytes n is) (sym l) ∙ r.0), ap (λ n. end_of_items n is) (sym l) ∙ r.1 ∙ omega (arith, l, k))
  where
    head_ordinary : (is : List Item) (j : Item) (js : List Item) → is ≡ j ∷ js → list_all is_ordinary is ≡ true → is_ordinary j ≡ true
    head_ordinary is j js h o = (and_parts (is_ordinary j) (list_all is_ordinary js) (ap (list_all is_ordinary) (sym h) ∙ o)).0

    rest_ordinary : (is : List Item) → list_all is_ordinary is ≡ true → list_all is_ordinary (rest_of is) ≡ true
    rest_ordinary [] o = refl
    rest_ordinary (j ∷ js) o = (and_parts (is_ordinary j) (list_all is_ordinary js) o).1

-- ---- what is before a held place

start_some : (i : Item) → is_text_item i ≡ false → 1 ≤ length (spelling i)
start_some i n = let o = opens i n in let e : length (spelling i) ≡ suc (length o.0) = ap length o.1 in omega (arith, e)

held_some : (c : Context) → is_held c ≡ true → 1 ≤ length (spelled (items_before c))
held_some (before rest) h = absurd (false≢true h)
held_some (past_single x c) h = let l = length-append (spelling (leaf x)) (spelled (items_before c)) in omega (arith, l, held_some c h)
held_some (past_tag t c) h = let l = length-append (spelling (empty_tag t)) (spelled (items_before c)) in omega (arith, l, held_some c h)
held_some (past_whole t inside space c) h =
    let xs = start_tag t ∷ flat inside ++ end_tag t.name space ∷ [] in
    let e : length (spelled (xs ++ items_before c)) ≡ length (spelled xs) + length (spelled (items_before c)) =
    ap length (spelled_append xs (items_before c)) ∙ length-append (spelled xs) (spelled (items_before c)) in
    omega (arith, e, held_some c h)
held_some (within t c space f) h =
    let l = length-append (spelling (start_tag t)) (spelled (items_before c)) in let s = start_some (start_tag t) refl in omega (arith, l, s)

low_prefix : (w z : List ℕ) → 1 ≤ length w → LowFirst (w ++ z) → LowFirst w
low_prefix [] z l h = absurd (omega (arith, l))
low_prefix (x ∷ w) z l h = let e : x ≡ h.0 = cc in (x, w, refl, omega (arith, e, h.3))

first_new : (m : Bool) (w z : List ℕ) → LowFirst w → first_place ((mark m ++ w) ++ z) ≡ length (mark m)
first_new true w z h = first_marked (w ++ z)
first_new false w z h = ap (λ (l : List ℕ). first_place (l ++ z)) h.2 ∙ first_low h.0 (h.1 ++ z) h.3

ordinary_prefix : (xs ys : List Item) → list_all is_ordinary (rest_of (xs ++ ys)) ≡ true → list_all is_ordinary (rest_of xs) ≡ true
ordinary_prefix [] ys h = refl
ordinary_prefix (x ∷ xs) ys h = (and_parts (list_all is_ordinary xs) (list_all is_ordinary ys) (sym (list_all-append is_ordinary xs ys) ∙ h)).0

-- ---- the text as it is written

piece_scalars : (c : ℕ) → lib.Utf8.scalar c ≡ true → scalars (written_piece (in_text c)) ≡ true
piece_scalars c s = elim (cases_Bool (c == 38)) [
  | inl t ↦ rw t refl
  | inr f ↦ elim (cases_Bool (c == 60)) [
    | inl t ↦ rw (f, t) refl
    | inr g ↦ elim (cases_Bool (c == 62)) [
      | inl t ↦ rw (f, g, t) refl
      | inr h ↦ elim (cases_Bool (c == 13)) [ inl t ↦ rw (f, g, h, t) refl | inr k ↦ rw (f, g, h, k) (and_from _ _ s refl) ]
    ]
  ]
]

scalars_join : (xs ys : List ℕ) → scalars xs ≡ true → scalars ys ≡ true → scalars (xs ++ ys) ≡ true
scalars_join [] ys a b = b
scalars_join (x ∷ xs) ys a b = let q = and_parts (lib.Utf8.scalar x) (scalars xs) a in and_from _ _ q.0 (scalars_join xs ys q.1 b)

written_scalars : (cs : List ℕ) → scalars cs ≡ true → scalars (written_pieces (map in_text cs)) ≡ true
written_scalars [] h = refl
written_scalars (c ∷ cs) h = let q =
    and_parts (lib.Utf8.scalar c) (scalars cs) h in scalars_join (written_piece (in_text c)) (written_pieces (map in_text cs)) (piece_scalars c q.0)
    (written_scalars cs q.1)

bad_some : (ts more : List ℕ) (c : ℕ) → is_char c ≡ false → 1 ≤ length (text_bytes (ts ++ c ∷ more))
bad_some ts more c n =
    let p = written_pieces (map in_text (ts ++ c ∷ more)) in
    let e : p ≡ written_pieces (map in_text ts) ++ (c ∷ written_pieces (map in_text more)) = written_more in_text ts (c ∷ more)
    ∙ ap (λ (q : Piece). written_pieces (map in_text ts) ++ (written_piece q ++ written_pieces (map in_text more))) (bad_in_text c n) in
    let l : length p ≡ length (written_pieces (map in_text ts)) + suc (length (written_pieces (map in_text more))) = ap length e
    ∙ length-append (written_pieces (map in_text ts)) (c ∷ written_pieces (map in_text more)) in
    omega (arith, l, length-le-encodes p)

-- ---- the refusal, of bytes in parts

refused_parts : (m : Bool) (items : List Item) (ts more z : List ℕ) (c : ℕ) (bytes : List ℕ) →
    bytes ≡ (mark m ++ spelled items) ++ (text_bytes (ts ++ c ∷ more) ++ z) → LowFirst (spelled items) → list_all meets items ≡ true →
    texts_apart items ≡ true → ends_with_text items ≡ false →
    list_all is_ordinary (rest_of items) ≡ true → IsUtf8 z → scalars (ts ++ c ∷ more) ≡ true → list_all is_char ts ≡ true → is_char c ≡ false →
    IsRefusal bytes (faults.Syntax (length (mark m ++ spelled items)))
unfolding walk
refused_parts m items ts more z c bytes is low ok apart ends ordinary uz sc good bad =
    let cs = ts ++ c ∷ more in
    let p = written_pieces (map in_text cs) in
    let y = text_bytes cs in
    let at = length (mark m ++ spelled items) in
    let sp = written_scalars cs sc in
    let uy : IsUtf8 y = (p, (sp, refl)) in
    let first : first_place bytes ≡ length (mark m) = ap first_place is ∙ first_new m (spelled items) (y ++ z) low in
    let whole : bytes ≡ mark m ++ (spelled items ++ (y ++ z)) = is ∙ append_assoc (mark m) (spelled items) (y ++ z) in
    let w = walk_to bytes (mark m) items (y ++ z) whole ok apart ends (λ i js e. ap (λ (n : ℕ). may_begin_at i n (length (mark m))) first
    ∙ stands_first i (length (mark m))) ordinary in
    let u : IsUtf8 bytes =
    subst IsUtf8 (sym is) (IsUtf8-append (mark m ++ spelled items) (y ++ z) (IsUtf8-append (mark m) (spelled items) (mark_utf8 m) (spelled_utf8 items ok))
    (IsUtf8-append y z uy uz)) in
    let left : drop at bytes ≡ y ++ z = ap (drop at) is ∙ drop_at (mark m ++ spelled items) (y ++ z) at refl in
    let total : length bytes ≡ at + (length y + length z) = ap length is ∙ length-append (mark m ++ spelled items) (y ++ z)
    ∙ ap (λ (n : ℕ). at + n) (length-append y z) in
    let shown : chars (drop at bytes) ≡ p ++ chars z = ap chars left ∙ chars-append y z uy ∙ ap (λ (l : List ℕ). l ++ chars z) (chars-encodes p sp) in
    let rest : IsUtf8 (drop at bytes) = subst IsUtf8 (sym left) (IsUtf8-append y z uy uz) in
    syntax_refusal bytes items at u (ap (λ (n : ℕ). walk_from bytes n items) first ∙ w.0) (ap (λ (n : ℕ). end_of_items n items) first ∙ w.1
    ∙ sym (length-append (mark m) (spelled items))) (omega (arith, total, bad_some ts more c bad))
    (none_begins bytes at rest
    (λ j v e. text_refused (at == first_place bytes) ts more (chars z) v c j good bad (ap (read_item (at == first_place bytes)) (sym shown) ∙ e)))

-- the law: a text node is set to a text with a character that is no Char, of which the first is c
pub text_node_refused : (k : ℕ) (bytes : List ℕ) (nest : Forest) (e : Entry) (xs : List Leaf) (ts more : List ℕ) (c : ℕ) → Accepted k bytes nest →
    Contains (all nest (first_place bytes)) e → e.what ≡ Thing.text xs → scalars (ts ++ c ∷ more) ≡ true → list_all is_char ts ≡ true → is_char c ≡ false →
    IsRefusal (exchanged bytes e.start e.stop (text_bytes (ts ++ c ∷ more))) (faults.Syntax e.start)
text_node_refused k bytes nest e xs ts more c a there w sc good bad =
    let st = text_stand nest (first_place bytes) e xs there w in
    let x = st.stand.around in
    let m = begins byte_order_mark bytes in
    let f = fits_from_accepted k bytes nest a in
    let held = is_held_by x (length e.holders) st.inside st.stand.level in
    let items = items_before x in
    let parts = mark m ++ spelled items in
    let old = spelled (flat (leaves xs)) in
    let z = spelled (items_after x) in
    let y = text_bytes (ts ++ c ∷ more) in
    let is : bytes ≡ parts ++ (old ++ z) = document_spelled bytes nest a.document ∙ ap (document_of m) st.stand.split ∙ document_parts m x (leaves xs) in
    let flat_is : flat nest ≡ items ++ (flat (leaves xs) ++ items_after x) = ap flat st.stand.split ∙ flat_plug x (leaves xs) in
    let ok = and_parts _ _ (sym (list_all-append meets items (flat (leaves xs) ++ items_after x)) ∙ ap (list_all meets) (sym flat_is) ∙ f.meets_all) in
    let ok2 = and_parts _ _ (sym (list_all-append meets (flat (leaves xs)) (items_after x)) ∙ ok.1) in
    let low : LowFirst (spelled items) =
    low_prefix (spelled items) (spelled (flat (leaves xs) ++ items_after x)) (held_some x held) (subst LowFirst (ap spelled flat_is
    ∙ spelled_append items (flat (leaves xs) ++ items_after x)) (nest_first nest f.nests f.meets_all)) in
    let first : first_place bytes ≡ length (mark m) = ap first_place is ∙ first_new m (spelled items) (old ++ z) low in
    let start : e.start ≡ length parts = st.stand.starts ∙ place_spelled (first_place bytes) x ∙ ap (λ (n : ℕ). n + length (spelled items)) first
    ∙ sym (length-append (mark m) (spelled items)) in
    let stop : e.stop ≡ e.start + length old = st.stand.stops ∙ past_spelled (place_in (first_place bytes) x) (leaves xs)
    ∙ ap (λ (n : ℕ). n + length old) (sym st.stand.starts) in
    let new : exchanged bytes e.start e.stop y ≡ parts ++ (y ++ z) = sym (three_parts parts old y z bytes e.start e.stop is start stop) in
    let apart = apart_left items (flat (leaves xs) ++ items_after x) (ap texts_apart (sym flat_is) ∙ f.apart) in
    let ordinary = ordinary_prefix items (flat (leaves xs) ++ items_after x) (ap (λ (l : List Item). list_all is_ordinary (rest_of l)) (sym flat_is)
    ∙ nest_ordinary nest f.nests) in
    let r = refused_parts m items ts more z c (exchanged bytes e.start e.stop y) new low ok.0 apart
    (no_last_text items false false (λ h. h) st.apart_before) ordinary (spelled_utf8 (items_after x) ok2.1) sc good bad in
    subst (λ (n : ℕ). IsRefusal (exchanged bytes e.start e.stop y) (faults.Syntax n)) (sym start) r
