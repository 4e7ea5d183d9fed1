-- What the readers of pieces, values and attributes read, and that they read it.
use Rattle.std.proofs.Common.{◌≡◌, ℕ, ◌<◌, Bool, true, false, inl, inr, List, [], ◌∷◌, ◌++◌, length, refl, sym, ap, subst, ◌∙◌, arith, lit<}
use Rattle.std.specs.Prelude.{◌&&◌, ◌==◌, not}
use Rattle.std.specs.List.{list_all, flat_map}
use Rattle.std.proofs.lemmas.Bool.{cases_lt, lt-ltb, le-ltb, false≢true, and_parts, and_from, ne_eqb, not-true}
use Rattle.xml_model.specs.Chars.{is_char}
use Rattle.xml_model.specs.Items.{Piece, literal, entity, decimal, hexadecimal, Quote, single, double, quote_char, written_piece, written_pieces, meets_piece}
use Rattle.xml_chars.specs.Reading.{ascii_head}
use Rattle.xml_chars.proofs.Readers.{IsReader, reads_as, mapped_reads, one_of_reads, word_reads, choose_by_reads, many_reads, FitMany}
use Rattle.xml_chars.proofs.NameLaws.{reference_reads, FitReference}
use Rattle.xml_items.specs.Reading.{is_literal, PieceForm, by_reference, by_itself, piece_form, read_piece_form, read_piece, quote_form, read_quote, ends_value, in_value, read_value}

-- ---- the first character

pub head_of : (c : ℕ) (text : List ℕ) (b : ℕ) → b < 128 → (ascii_head (c ∷ text) == b) ≡ (c == b)
unfolding ascii_head
head_of c text b low = elim (cases_lt c 128) [
  | inl lt ↦ rw (lt-ltb c 128 lt) refl
  | inr ge ↦ rw (le-ltb c 128 ge) (ne_eqb 128 b (λ e. omega arith) ∙ sym (ne_eqb c b (λ e. omega arith)))
]

-- ---- pieces

abbrev pub FitPieceForm : (ℕ → Bool) → PieceForm → Piece → List ℕ → Type 0
FitPieceForm stops by_reference p rest = FitReference p rest
FitPieceForm stops by_itself (literal c) rest = is_literal stops c ≡ true
FitPieceForm stops by_itself _ rest = ⊥

literal_back : (stops : ℕ → Bool) (y : Piece) (rest : List ℕ) → FitPieceForm stops by_itself y rest → (x : ℕ) × (literal x ≡ y) × (is_literal stops x ≡ true)
literal_back stops (literal c) rest h = (c, refl, h)
literal_back stops (entity n) rest h = absurd h
literal_back stops (decimal n) rest h = absurd h
literal_back stops (hexadecimal n) rest h = absurd h

piece_form_reads : (stops : ℕ → Bool) (k : PieceForm) → IsReader (read_piece_form stops k) written_piece (FitPieceForm stops k)
piece_form_reads stops by_reference = reference_reads
piece_form_reads stops by_itself = mapped_reads literal written_piece (FitPieceForm stops by_itself) (one_of_reads (is_literal stops)) (λ x. refl) (λ x rest h. h) (literal_back stops)

reference_meets : (stops : ℕ → Bool) (p : Piece) → FitReference p [] → meets_piece stops p ≡ true
reference_meets stops (literal c) h = absurd (false≢true h)
reference_meets stops (entity n) h = h
reference_meets stops (decimal n) h = h
reference_meets stops (hexadecimal n) h = h

abbrev pub FitPiece : (ℕ → Bool) → Piece → List ℕ → Type 0
FitPiece stops p rest = meets_piece stops p ≡ true

piece_to : (stops : ℕ → Bool) (k : PieceForm) (p : Piece) (rest : List ℕ) → FitPieceForm stops k p rest → FitPiece stops p rest
piece_to stops by_reference p rest h = reference_meets stops p h
piece_to stops by_itself (literal c) rest h = h
piece_to stops by_itself (entity n) rest h = absurd h
piece_to stops by_itself (decimal n) rest h = absurd h
piece_to stops by_itself (hexadecimal n) rest h = absurd h

ampersand_form : (text : List ℕ) → piece_form (38 ∷ text) ≡ by_reference
unfolding piece_form ascii_head
ampersand_form text = refl

pub literal_form : (stops : ℕ → Bool) (c : ℕ) (rest : List ℕ) → is_literal stops c ≡ true → piece_form (c ∷ rest) ≡ by_itself
unfolding piece_form
literal_form stops c rest h =
    let a = and_parts (is_char c && not (c == 60) && not (c == 38)) (not (stops c)) h in
    let b = and_parts (is_char c && not (c == 60)) (not (c == 38)) a.0 in
    let f : (c == 38) ≡ false = not-true (c == 38) b.1 in
    rw (head_of c rest 38 (lit< tt), f) refl

piece_from : (stops : ℕ → Bool) (p : Piece) (rest : List ℕ) → FitPiece stops p rest → FitPieceForm stops (piece_form (written_piece p ++ rest)) p rest
piece_from stops (literal c) rest h = subst (λ (k : PieceForm). FitPieceForm stops k (literal c) rest) (sym (literal_form stops c rest h)) h
piece_from stops (entity n) rest h = subst (λ (k : PieceForm). FitPieceForm stops k (entity n) rest) (sym (ampersand_form ((n ++ 59 ∷ []) ++ rest))) h
piece_from stops (decimal n) rest h = subst (λ (k : PieceForm). FitPieceForm stops k (decimal n) rest) (sym (ampersand_form (35 ∷ (n ++ 59 ∷ []) ++ rest))) h
piece_from stops (hexadecimal n) rest h = subst (λ (k : PieceForm). FitPieceForm stops k (hexadecimal n) rest) (sym (ampersand_form (35 ∷ 120 ∷ (n ++ 59 ∷ []) ++ rest))) h

pub piece_reads : (stops : ℕ → Bool) → IsReader (read_piece stops) written_piece (FitPiece stops)
unfolding read_piece
piece_reads stops = reads_as (FitPiece stops) (choose_by_reads piece_form (piece_form_reads stops)) (λ p rest h. piece_to stops (piece_form (written_piece p ++ rest)) p rest h) (piece_from stops)

pub piece_pos : (p : Piece) → 0 < length (written_piece p)
piece_pos (literal c) = omega arith
piece_pos (entity n) = omega arith
piece_pos (decimal n) = omega arith
piece_pos (hexadecimal n) = omega arith

-- ---- values

abbrev pub written_quote : Quote → List ℕ
written_quote q = quote_char q ∷ []

abbrev FitQuoteForm : Quote → Quote → List ℕ → Type 0
FitQuoteForm k q rest = k ≡ q

quote_of : (q : Quote) (rest : List ℕ) → quote_form (written_quote q ++ rest) ≡ q
unfolding quote_form ascii_head
quote_of single rest = refl
quote_of double rest = refl

pub quote_reads : IsReader read_quote written_quote (λ q rest. Unit {0})
unfolding read_quote
quote_reads = reads_as (λ q rest. Unit {0})
    (choose_by_reads {F = FitQuoteForm} quote_form (λ k. mapped_reads (λ _. k) written_quote (FitQuoteForm k) (word_reads (quote_char k ∷ [])) (λ x. refl) (λ x rest h. refl) (λ y rest h. (tt, h, tt))))
    (λ q rest h. tt) (λ q rest h. quote_of q rest)

abbrev pub FitValue : Quote → List Piece → List ℕ → Type 0
FitValue q v rest = (list_all (meets_piece (ends_value q)) v ≡ true) × (in_value q rest ≡ false)

pub in_value_is : (q : Quote) (c : ℕ) (rest : List ℕ) → in_value q (c ∷ rest) ≡ not (c == quote_char q)
unfolding in_value
in_value_is single c rest = ap not (head_of c rest 39 (lit< tt))
in_value_is double c rest = ap not (head_of c rest 34 (lit< tt))

quote_38 : (q : Quote) → not (38 == quote_char q) ≡ true
quote_38 single = refl
quote_38 double = refl

goes_on : (q : Quote) (p : Piece) (rest : List ℕ) → meets_piece (ends_value q) p ≡ true → in_value q (written_piece p ++ rest) ≡ true
goes_on q (literal c) rest h = in_value_is q c rest ∙ (and_parts (is_char c && not (c == 60) && not (c == 38)) (not (ends_value q c)) h).1
goes_on q (entity n) rest h = in_value_is q 38 ((n ++ 59 ∷ []) ++ rest) ∙ quote_38 q
goes_on q (decimal n) rest h = in_value_is q 38 (35 ∷ (n ++ 59 ∷ []) ++ rest) ∙ quote_38 q
goes_on q (hexadecimal n) rest h = in_value_is q 38 (35 ∷ 120 ∷ (n ++ 59 ∷ []) ++ rest) ∙ quote_38 q

value_to : (q : Quote) (v : List Piece) (rest : List ℕ) → FitMany (in_value q) written_piece (FitPiece (ends_value q)) v rest → FitValue q v rest
value_to q [] rest h = (refl, h)
value_to q (p ∷ v) rest h = let so = value_to q v rest h.2 in (and_from (meets_piece (ends_value q) p) _ h.1 so.0, so.1)

value_from : (q : Quote) (v : List Piece) (rest : List ℕ) → FitValue q v rest → FitMany (in_value q) written_piece (FitPiece (ends_value q)) v rest
value_from q [] rest h = h.1
value_from q (p ∷ v) rest h = let m = and_parts (meets_piece (ends_value q) p) (list_all (meets_piece (ends_value q)) v) h.0 in (goes_on q p (flat_map written_piece v ++ rest) m.0, m.0, value_from q v rest (m.1, h.1))

pub value_reads : (q : Quote) → IsReader (read_value q) written_pieces (FitValue q)
unfolding read_value
value_reads q = reads_as (FitValue q) (many_reads (in_value q) (read_piece (ends_value q)) written_piece (FitPiece (ends_value q)) piece_pos (piece_reads (ends_value q))) (value_to q) (value_from q)

pub value_ends : (q : Quote) (rest : List ℕ) → in_value q (quote_char q ∷ rest) ≡ false
value_ends single rest = in_value_is single 39 rest
value_ends double rest = in_value_is double 34 rest
