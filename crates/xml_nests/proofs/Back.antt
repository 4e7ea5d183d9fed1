-- The nest of a document fits, and the document's bytes are what it spells.
use Rattle.std.proofs.Common.{◌≡◌, ℕ, zero, suc, ◌+◌, ◌≤◌, true, false, ◌⊎◌, inl, inr, List, [], ◌∷◌, ◌++◌, length, drop, refl, sym, ap}
use Rattle.std.proofs.Common.{◌∙◌, arith, not, ◌&&◌, eqb-true}
use Rattle.std.specs.Prelude.{codes, ◌==◌}
use Rattle.std.specs.List.{list_all}
use lib.Utf8.{encode, encodes}
use Rattle.std.proofs.lemmas.Bool.{and_parts, and_from, false≢true, cases_Bool, not-true}
use Rattle.std.proofs.lemmas.List.{drop-drop}
use Rattle.std.proofs.lemmas.Str.{char_from_byte, length-encode, len_utf8_bounds}
use Rattle.xml_model.specs.Chars.{begins, is_char, lacks}
use Rattle.xml_model.specs.Items.{Piece, literal, entity, decimal, hexadecimal, written_piece, written_pieces, is_nil, meets_piece, Leaf}
use Rattle.xml_model.specs.Items.{text, cdata, declaration, doctype, Item, leaf, start_tag, empty_tag, end_tag, spelling, meets}
use Rattle.xml_model.specs.Items.{begins_at, ends_well, may_begin_at, first_place, byte_order_mark, walk, walk_from, walk_to_end}
use Rattle.xml_model.specs.Items.{end_of_items}
use Rattle.xml_model.specs.Nest.{Forest, flat}
use Rattle.xml_model.specs.Accepted.{Accepted, IsDocument, unknown_item, encoding_item, repeats, offences}
use Rattle.xml_model.proofs.Proper.{walk_to_end_meets}
use Rattle.xml_chars.proofs.Readers.{begins_split}
use Rattle.xml_nests.specs.Fits.{spelled, mark, document_of, is_text_item, begins_with_text, texts_apart, Fits}
use Rattle.xml_nests.proofs.Shift.{widths_anywhere}
use Rattle.xml_nests.proofs.Lists.{none_over, entities_any, encoding_any, no_names_anywhere, repeats_placeless, offences_placeless}

drop_end : (n : ℕ) (xs : List ℕ) → n ≡ length xs → drop n xs ≡ []
drop_end zero [] e = refl
drop_end zero (x ∷ xs) e = absurd (omega (arith, e))
drop_end (suc n) [] e = refl
drop_end (suc n) (x ∷ xs) e = drop_end n xs (omega (arith, e))

pub record Here (bytes : List ℕ) (p : ℕ) (i : Item) : Type 0 where
  pub meets_row : meets i ≡ true
  pub split : drop p bytes ≡ spelling i ++ drop (p + length (spelling i)) bytes
  pub ends : ends_well i (drop (p + length (spelling i)) bytes) ≡ true

pub here : (bytes : List ℕ) (p : ℕ) (i : Item) → begins_at bytes p i ≡ true → Here bytes p i
unfolding begins_at
here bytes p i h =
    let x = and_parts (meets i && begins (spelling i) (drop p bytes) && ends_well i (drop (p + length (spelling i)) bytes))
    (may_begin_at i (first_place bytes) p) h in
    let y = and_parts (meets i && begins (spelling i) (drop p bytes)) (ends_well i (drop (p + length (spelling i)) bytes)) x.0 in
    let z = and_parts (meets i) (begins (spelling i) (drop p bytes)) y.0 in
    record {
      meets_row = z.0;
      split = begins_split (spelling i) (drop p bytes) z.1
          ∙ ap (λ (l : List ℕ). spelling i ++ l) (drop-drop (length (spelling i)) p bytes);
      ends = y.1;
    }

pub spelled_from : (bytes : List ℕ) (p : ℕ) (is : List Item) → walk_from bytes p is ≡ true → end_of_items p is ≡ length bytes →
    drop p bytes ≡ spelled is
spelled_from bytes p [] w e = drop_end p bytes e
spelled_from bytes p (i ∷ is) w e =
    let q = and_parts (begins_at bytes p i) _ w in
    (here bytes p i q.0).split ∙ ap (λ (l : List ℕ). spelling i ++ l) (spelled_from bytes (p + length (spelling i)) is q.1 e)

-- a text does not begin with a <
encoded_first : (c : ℕ) (rest more : List ℕ) → (c == 60) ≡ false → encode c ++ rest ≡ 60 ∷ more → ⊥
encoded_first c rest more n e =
    let same : c ≡ 60 = char_from_byte (60 ∷ more) rest c (sym e) (omega arith) (omega arith) in
    false≢true (sym n ∙ ap (λ (d : ℕ). d == 60) same)

first_char : (p : Piece) → meets_piece (λ d. false) p ≡ true → (c : ℕ) × (w : List ℕ) × (written_piece p ≡ c ∷ w) × ((c == 60) ≡ false)
first_char (literal c) m =
    let t = and_parts (is_char c && not (c == 60) && not (c == 38)) true m in
    let u = and_parts (is_char c && not (c == 60)) (not (c == 38)) t.0 in
    let v = and_parts (is_char c) (not (c == 60)) u.0 in
    (c, [], refl, not-true (c == 60) v.1)
first_char (entity name) m = (38, _, refl, refl)
first_char (decimal ds) m = (38, _, refl, refl)
first_char (hexadecimal ds) m = (38, _, refl, refl)

-- what is written of a text begins with a character that is no <
text_first : (ps : List Piece) → meets (leaf (text ps)) ≡ true →
    (c : ℕ) × (w : List ℕ) × (written_pieces ps ≡ c ∷ w) × ((c == 60) ≡ false)
unfolding meets
text_first [] m = absurd (false≢true (and_parts false true (and_parts (false && true) (lacks (codes "]]>") []) m).0).0)
text_first (p ∷ ps) m =
    let q = and_parts (not (is_nil (written_pieces (p ∷ ps))) && list_all (meets_piece (λ d. false)) (p ∷ ps)) (lacks (codes "]]>")
    (written_pieces (p ∷ ps))) m in
    let r = and_parts (not (is_nil (written_pieces (p ∷ ps)))) (list_all (meets_piece (λ d. false)) (p ∷ ps)) q.0 in
    let f = first_char p (and_parts (meets_piece (λ d. false) p) (list_all (meets_piece (λ d. false)) ps) r.1).0 in
    (f.0, f.1 ++ written_pieces ps, ap (λ (l : List ℕ). l ++ written_pieces ps) f.2, f.3)

append : (xs ys zs : List ℕ) → (xs ++ ys) ++ zs ≡ xs ++ (ys ++ zs)
append [] ys zs = refl
append (x ∷ xs) ys zs = ap (λ (l : List ℕ). x ∷ l) (append xs ys zs)

pub not_angle : (ps : List Piece) (rest more : List ℕ) → meets (leaf (text ps)) ≡ true → spelling (leaf (text ps)) ++ rest ≡ 60 ∷ more → ⊥
unfolding spelling
not_angle ps rest more m e =
    let f = text_first ps m in
    encoded_first f.0 (encodes f.1 ++ rest) more f.3
    (sym (append (encode f.0) (encodes f.1) rest) ∙ sym (ap (λ (l : List ℕ). encodes l ++ rest) f.2) ∙ e)

then_angle : (text : List ℕ) (ps : List Piece) → ends_well (leaf (Leaf.text ps)) text ≡ true →
    (text ≡ []) ⊎ ((more : List ℕ) × (text ≡ 60 ∷ more))
then_angle [] ps h = inl refl
then_angle (b ∷ bs) ps h = inr (bs, ap (λ (n : ℕ). n ∷ bs) (eqb-true b 60 h))

some : (xs ys zs : List ℕ) → 1 ≤ length xs → (xs ++ ys) ++ zs ≡ [] → ⊥
some [] ys zs l e = omega (arith, l)
some (x ∷ xs) ys zs l e = cc

spelled_some : (ps : List Piece) (rest : List ℕ) → meets (leaf (text ps)) ≡ true → spelling (leaf (text ps)) ++ rest ≡ [] → ⊥
unfolding spelling
spelled_some ps rest m e =
    let f = text_first ps m in
    some (encode f.0) (encodes f.1) rest (omega (arith, len_utf8_bounds f.0, length-encode f.0))
    (sym (ap (λ (l : List ℕ). encodes l ++ rest) f.2) ∙ e)

-- two texts do not touch
touch : (i : Item) (is : List Item) → ends_well i (spelled is) ≡ true → list_all meets is ≡ true →
    not (is_text_item i && begins_with_text is) ≡ true
touch (leaf (text ps)) [] w m = refl
touch (leaf (text ps)) (leaf (text qs) ∷ js) w m =
    let n = (and_parts (meets (leaf (text qs))) _ m).0 in
    elim (then_angle (spelled (leaf (text qs) ∷ js)) ps w) [
      | inl e ↦ absurd (spelled_some qs (spelled js) n e)
      | inr e ↦ absurd (not_angle qs (spelled js) e.0 n e.1)
    ]
touch (leaf (text ps)) (leaf (cdata cs) ∷ js) w m = refl
touch (leaf (text ps)) (leaf (Leaf.comment cs) ∷ js) w m = refl
touch (leaf (text ps)) (leaf (Leaf.instruction x) ∷ js) w m = refl
touch (leaf (text ps)) (leaf (declaration d) ∷ js) w m = refl
touch (leaf (text ps)) (leaf (doctype d) ∷ js) w m = refl
touch (leaf (text ps)) (start_tag t ∷ js) w m = refl
touch (leaf (text ps)) (empty_tag t ∷ js) w m = refl
touch (leaf (text ps)) (end_tag name space ∷ js) w m = refl
touch (leaf (cdata cs)) is w m = refl
touch (leaf (Leaf.comment cs)) is w m = refl
touch (leaf (Leaf.instruction x)) is w m = refl
touch (leaf (declaration d)) is w m = refl
touch (leaf (doctype d)) is w m = refl
touch (start_tag t) is w m = refl
touch (empty_tag t) is w m = refl
touch (end_tag name space) is w m = refl

apart_from : (bytes : List ℕ) (p : ℕ) (is : List Item) → walk_from bytes p is ≡ true → end_of_items p is ≡ length bytes →
    list_all meets is ≡ true → texts_apart is ≡ true
apart_from bytes p [] w e m = refl
apart_from bytes p (i ∷ is) w e m =
    let q = and_parts (begins_at bytes p i) _ w in
    let n = and_parts (meets i) (list_all meets is) m in
    let s = spelled_from bytes (p + length (spelling i)) is q.1 e in
    and_from _ _ (touch i is (ap (ends_well i) (sym s) ∙ (here bytes p i q.0).ends) n.1)
    (apart_from bytes (p + length (spelling i)) is q.1 e n.1)

marked_split : (bytes : List ℕ) → bytes ≡ mark (begins byte_order_mark bytes) ++ drop (first_place bytes) bytes
unfolding first_place
marked_split bytes = elim (cases_Bool (begins byte_order_mark bytes)) [
  | inl t ↦ rw t (begins_split byte_order_mark bytes t)
  | inr f ↦ rw f refl
]

-- the law back: a document is what its nest spells, after a byte order mark where there is one, and the nest fits
pub document_spelled : (bytes : List ℕ) (nest : Forest) → IsDocument bytes nest → bytes ≡ document_of (begins byte_order_mark bytes) nest
unfolding document_of walk_to_end walk
document_spelled bytes nest d =
    let q = and_parts (walk_from bytes (first_place bytes) (flat nest)) _ d.walked in
    marked_split bytes
    ∙ ap (λ (l : List ℕ). mark (begins byte_order_mark bytes) ++ l)
    (spelled_from bytes (first_place bytes) (flat nest) q.0 (eqb-true _ _ q.1))

document_apart : (bytes : List ℕ) (nest : Forest) → IsDocument bytes nest → texts_apart (flat nest) ≡ true
unfolding walk_to_end walk
document_apart bytes nest d =
    let q = and_parts (walk_from bytes (first_place bytes) (flat nest)) _ d.walked in
    apart_from bytes (first_place bytes) (flat nest) q.0 (eqb-true _ _ q.1) (walk_to_end_meets bytes (flat nest) d.walked)

pub fits_from_accepted : (k : ℕ) (bytes : List ℕ) (nest : Forest) → Accepted k bytes nest → Fits k nest
fits_from_accepted k bytes nest a =
    let p = first_place bytes in
    record {
      nests = a.document.nests;
      meets_all = walk_to_end_meets bytes (flat nest) a.document.walked;
      apart = document_apart bytes nest a.document;
      entities = sym (none_over unknown_item entities_any p (flat nest)) ∙ ap is_nil a.entities;
      encoding = sym (none_over encoding_item encoding_any p (flat nest)) ∙ ap is_nil a.encoding;
      widths = widths_anywhere nest p 0 a.widths;
      twice = λ m. no_names_anywhere repeats repeats_placeless [] p 0 nest (a.twice m);
      names = λ m. no_names_anywhere offences offences_placeless [] p 0 nest (a.names m);
    }
