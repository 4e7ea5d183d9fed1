-- Plain bytes, and what reads past them.
use Rattle.std.proofs.Common.{◌≡◌, ℕ, ◌<◌, Bool, true, false, inl, inr, List, [], ◌∷◌, length, get_or, Option, Some, None, refl, sym, ap, ◌∙◌, arith}
use Rattle.std.specs.Prelude.{◌&&◌, ◌==◌, not, nat_le, codes}
use Rattle.std.specs.List.{list_all}
use Rattle.std.proofs.Math.Numerals.{one-add}
use Rattle.std.specs.Str.{IsUtf8, chars}
use Rattle.std.proofs.lemmas.Str.{chars-nil}
use Rattle.std.proofs.lemmas.List.{nil_from_length}
use Rattle.xml_chars.proofs.Points.{first_of, wide_first, ascii_char}
use Rattle.std.proofs.lemmas.Bool.{cases_Bool, cases_lt, false≢true, and_parts, and_from, not-true, not_from_false, ne_eqb, eq-eqb}
use Rattle.xml_model.specs.Chars.{is_char, begins}
use Rattle.xml_model.specs.Items.{Quote, single, double, quote_char, written_piece}
use Rattle.xml_chars.specs.Readers.{Reader, many, skip, after_run, word}
use Rattle.xml_chars.specs.Reading.{read_reference, ascii_head}
use Rattle.xml_chars.proofs.Readers.{IsReader, many_more, many_stuck, many_done}
use Rattle.xml_items.specs.Plain.{is_plain_char, is_plain_text, is_plain_value}
use Rattle.xml_items.specs.Reading.{ends_text, is_literal, by_itself, piece_form, read_piece, in_text, read_pieces, ends_value, in_value, read_value}
use Rattle.xml_items.proofs.PieceLaws.{FitPiece, piece_reads, piece_pos, literal_form, in_value_is}
use Rattle.xml_items.proofs.TextLaws.{none, literal_goes}

pub record PlainText (b : ℕ) : Type 0 where
  pub plain : is_plain_char b ≡ true
  pub no_open : (b == 60) ≡ false
  pub no_and : (b == 38) ≡ false
  pub no_bracket : (b == 93) ≡ false

pub plain_text : (b : ℕ) → is_plain_text b ≡ true → PlainText b
plain_text b h =
    let c = and_parts (is_plain_char b && not (b == 60) && not (b == 38)) (not (b == 93)) h in
    let a = and_parts (is_plain_char b && not (b == 60)) (not (b == 38)) c.0 in
    let o = and_parts (is_plain_char b) (not (b == 60)) a.0 in
    record { plain = o.0; no_open = not-true _ o.1; no_and = not-true _ a.1; no_bracket = not-true _ c.1 }

pub record PlainValue (b : ℕ) : Type 0 where
  pub plain : is_plain_char b ≡ true
  pub no_open : (b == 60) ≡ false
  pub no_and : (b == 38) ≡ false
  pub no_quote : (q : Quote) → (b == quote_char q) ≡ false

pub plain_value : (b : ℕ) → is_plain_value b ≡ true → PlainValue b
plain_value b h =
    let s = and_parts (is_plain_char b && not (b == 60) && not (b == 38) && not (b == 34)) (not (b == 39)) h in
    let d = and_parts (is_plain_char b && not (b == 60) && not (b == 38)) (not (b == 34)) s.0 in
    let a = and_parts (is_plain_char b && not (b == 60)) (not (b == 38)) d.0 in
    let o = and_parts (is_plain_char b) (not (b == 60)) a.0 in
    record { plain = o.0; no_open = not-true _ o.1; no_and = not-true _ a.1; no_quote = by_quote (not-true _ s.1) (not-true _ d.1) }
  where
    by_quote : (b == 39) ≡ false → (b == 34) ≡ false → (q : Quote) → (b == quote_char q) ≡ false
    by_quote s d single = s
    by_quote s d double = d

-- a run of which each character is one of many
pub run_many : {X : Type 0} (t : List ℕ → Bool) (f : Reader X) (s : X → List ℕ) (F : X → List ℕ → Type 0) → ((x : X) → 0 < length (s x)) → IsReader f s F
    → (p : ℕ → Bool) → ((c : ℕ) (text : List ℕ) → p c ≡ true → (t (c ∷ text) ≡ true) × (skip f (c ∷ text) ≡ Some text)) → (text : List ℕ) → skip (many t f) text ≡ skip (many t f) (after_run p text)
run_many t f s F pos r p each [] = refl
run_many t f s F pos r p each (c ∷ text) = elim (cases_Bool (p c)) [
  | inl y ↦
      let q = each c text y in
      let e : after_run p (c ∷ text) ≡ after_run p text = rw (y, one-add) refl in
      (many_more t f s F pos r (c ∷ text) text q.0 q.1).0 ∙ run_many t f s F pos r p each text ∙ ap (skip (many t f)) (sym e)
  | inr n ↦ rw n refl
]

-- ---- one piece

pub literal_piece : (stops : ℕ → Bool) (c : ℕ) (text : List ℕ) → is_literal stops c ≡ true → skip (read_piece stops) (c ∷ text) ≡ Some text
unfolding read_piece
literal_piece stops c text h = rw (literal_form stops c text h, h) refl

pub plain_is : (c : ℕ) → is_plain_char c ≡ true → is_char c ≡ true
plain_is c h = (and_parts (is_char c) (not (nat_le 0xF000 c && nat_le c 0xFFFF)) h).0

text_literal : (c : ℕ) → is_plain_text c ≡ true → is_literal none c ≡ true
text_literal c h =
    let k = plain_text c h in
    and_from _ _ (and_from _ _ (and_from _ _ (plain_is c k.plain) (not_from_false _ k.no_open)) (not_from_false _ k.no_and)) refl

value_literal : (q : Quote) (c : ℕ) → is_plain_value c ≡ true → is_literal (ends_value q) c ≡ true
value_literal q c h =
    let k = plain_value c h in
    and_from _ _ (and_from _ _ (and_from _ _ (plain_is c k.plain) (not_from_false _ k.no_open)) (not_from_false _ k.no_and)) (not_from_false _ (k.no_quote q))

no_mark : (c : ℕ) (text : List ℕ) → (c == 93) ≡ false → begins (codes "]]>") (c ∷ text) ≡ false
no_mark c text h = rw (ne_eqb 93 c (λ e. false≢true (sym h ∙ eq-eqb c 93 (sym e)))) refl

pub text_run : (text : List ℕ) → skip read_pieces text ≡ skip read_pieces (after_run is_plain_text text)
unfolding read_pieces
text_run text = run_many in_text (read_piece none) written_piece (FitPiece none) piece_pos (piece_reads none) is_plain_text
    (λ c text h. let k = plain_text c h in (literal_goes c text k.no_open ∙ not_from_false _ (no_mark c text k.no_bracket), literal_piece none c text (text_literal c h))) text

pub value_run : (q : Quote) (text : List ℕ) → skip (read_value q) text ≡ skip (read_value q) (after_run is_plain_value text)
unfolding read_value
value_run q text = run_many (in_value q) (read_piece (ends_value q)) written_piece (FitPiece (ends_value q)) piece_pos (piece_reads (ends_value q)) is_plain_value
    (λ c text h. let k = plain_value c h in (in_value_is q c text ∙ not_from_false _ (k.no_quote q), literal_piece (ends_value q) c text (value_literal q c h))) text

-- ---- a piece by its first character

pub piece_by_reference : (stops : ℕ → Bool) (text : List ℕ) → ascii_head text ≡ 38 → skip (read_piece stops) text ≡ skip read_reference text
unfolding read_piece piece_form
piece_by_reference stops text h = rw h refl

pub piece_none : (stops : ℕ → Bool) (text : List ℕ) → text ≡ [] → skip (read_piece stops) text ≡ None
unfolding read_piece piece_form ascii_head
piece_none stops text e = rw e refl

pub piece_yes : (stops : ℕ → Bool) (text rest : List ℕ) (c : ℕ) → text ≡ c ∷ rest → is_literal stops c ≡ true → skip (read_piece stops) text ≡ Some rest
piece_yes stops text rest c e h = ap (skip (read_piece stops)) e ∙ literal_piece stops c rest h

other_form : (text : List ℕ) → (ascii_head text ≡ 38 → ⊥) → piece_form text ≡ by_itself
unfolding piece_form
other_form text h = rw (ne_eqb (ascii_head text) 38 h) refl

pub piece_no : (stops : ℕ → Bool) (text rest : List ℕ) (c : ℕ) → text ≡ c ∷ rest → (ascii_head text ≡ 38 → ⊥) → is_literal stops c ≡ false → skip (read_piece stops) text ≡ None
unfolding read_piece
piece_no stops text rest c e n h =
    let form : piece_form (c ∷ rest) ≡ by_itself = ap piece_form (sym e) ∙ other_form text n in
    ap (skip (read_piece stops)) e ∙ rw (form, h) refl

-- ---- the loops

pub text_more : (text rest : List ℕ) → in_text text ≡ true → skip (read_piece none) text ≡ Some rest → skip read_pieces text ≡ skip read_pieces (after_run is_plain_text rest)
unfolding read_pieces
text_more text rest go e = (many_more in_text (read_piece none) written_piece (FitPiece none) piece_pos (piece_reads none) text rest go e).0 ∙ text_run rest

pub text_stuck : (text : List ℕ) → in_text text ≡ true → skip (read_piece none) text ≡ None → skip read_pieces text ≡ None
unfolding read_pieces
text_stuck text go e = many_stuck in_text (read_piece none) text go e

pub text_done : (text : List ℕ) → in_text text ≡ false → skip read_pieces text ≡ Some text
unfolding read_pieces
text_done text h = many_done in_text (read_piece none) text h

pub text_ended : (text : List ℕ) → ends_text text ≡ true → skip read_pieces text ≡ Some text
unfolding in_text
text_ended text h = text_done text (ap (λ (b : Bool). not b && not (begins (codes "]]>") text)) h)

pub goes_by_head : (q : Quote) (b : ℕ) (text : List ℕ) → quote_char q ≡ b → (ascii_head text ≡ b → ⊥) → in_value q text ≡ true
unfolding in_value
goes_by_head q b text e n = not_from_false _ (ne_eqb (ascii_head text) (quote_char q) (λ s. n (s ∙ e)))

pub stops_by_head : (q : Quote) (b : ℕ) (text : List ℕ) → quote_char q ≡ b → ascii_head text ≡ b → in_value q text ≡ false
unfolding in_value
stops_by_head q b text e h = ap not (eq-eqb (ascii_head text) (quote_char q) (h ∙ sym e))

pub value_more : (q : Quote) (text rest : List ℕ) → in_value q text ≡ true → skip (read_piece (ends_value q)) text ≡ Some rest → skip (read_value q) text ≡ skip (read_value q) (after_run is_plain_value rest)
unfolding read_value
value_more q text rest go e = (many_more (in_value q) (read_piece (ends_value q)) written_piece (FitPiece (ends_value q)) piece_pos (piece_reads (ends_value q)) text rest go e).0 ∙ value_run q rest

pub value_stuck : (q : Quote) (text : List ℕ) → in_value q text ≡ true → skip (read_piece (ends_value q)) text ≡ None → skip (read_value q) text ≡ None
unfolding read_value
value_stuck q text go e = many_stuck (in_value q) (read_piece (ends_value q)) text go e

pub value_done : (q : Quote) (text : List ℕ) → in_value q text ≡ false → skip (read_value q) text ≡ Some text
unfolding read_value
value_done q text h = many_done (in_value q) (read_piece (ends_value q)) text h

-- ---- all characters

pub chars_run : (text : List ℕ) → list_all is_char text ≡ list_all is_char (after_run is_plain_char text)
chars_run [] = refl
chars_run (c ∷ text) = elim (cases_Bool (is_plain_char c)) [
  | inl y ↦ let e : after_run is_plain_char (c ∷ text) ≡ after_run is_plain_char text = rw (y, one-add) refl in ap (λ (b : Bool). b && list_all is_char text) (plain_is c y) ∙ chars_run text ∙ ap (list_all is_char) (sym e)
  | inr n ↦ rw n refl
]

pub chars_more : (text rest : List ℕ) (c : ℕ) → text ≡ c ∷ rest → is_char c ≡ true → list_all is_char text ≡ list_all is_char (after_run is_plain_char rest)
chars_more text rest c e h = ap (list_all is_char) e ∙ ap (λ (b : Bool). b && list_all is_char rest) h ∙ chars_run rest

pub chars_no : (text rest : List ℕ) (c : ℕ) → text ≡ c ∷ rest → is_char c ≡ false → list_all is_char text ≡ false
chars_no text rest c e h = ap (list_all is_char) e ∙ ap (λ (b : Bool). b && list_all is_char rest) h

-- ---- the end of a text

pub ends_empty : (bs : List ℕ) → length bs ≡ 0 → ends_text (chars bs) ≡ true
ends_empty bs e = ap (λ (l : List ℕ). ends_text (chars l)) (nil_from_length bs e) ∙ ap ends_text chars-nil

pub ends_first : (bs : List ℕ) → IsUtf8 bs → 0 < length bs → (get_or bs 0 0 == 60) ≡ ends_text (chars bs)
ends_first bs u lt =
    let f = first_of bs u lt in
    elim (cases_lt (get_or bs 0 0) 128) [
      | inl low ↦ ap (λ (x : ℕ). x == 60) (sym (ascii_char bs f low lt)) ∙ sym (ap ends_text f.points)
      | inr high ↦ ne_eqb (get_or bs 0 0) 60 (λ e. omega arith) ∙ sym (ap ends_text f.points ∙ ne_eqb f.char 60 (λ e. omega (arith, wide_first bs f high)))
    ]

pub word_some : (w text rest : List ℕ) → word w text ≡ Some (tt, rest) → begins w text ≡ true
word_some w text rest e = elim (cases_Bool (begins w text)) [
  | inl t ↦ t
  | inr f ↦ absurd (let n : ◌≡◌ {A = Option (Unit {0} × List ℕ)} None (Some (tt, rest)) = rw f at e in cc)
]
