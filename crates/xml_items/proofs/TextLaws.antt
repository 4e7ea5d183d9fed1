-- What the reader of texts reads, and that it reads it.
use Rattle.std.proofs.Common.{◌≡◌, ℕ, Bool, true, false, List, [], ◌∷◌, ◌++◌, refl, sym, ap, ◌∙◌}
use Rattle.std.specs.Prelude.{codes, ◌&&◌, ◌==◌, not}
use Rattle.std.specs.List.{list_all, flat_map}
use Rattle.std.specs.Char.{is_digit}
use Rattle.std.proofs.lemmas.List.{append-nil}
use Rattle.std.proofs.lemmas.Bool.{false≢true, and_parts, and_from, ne_eqb, eq-eqb, eqb-true, not-true, not_from_true, not_from_false}
use Rattle.xml_model.specs.Chars.{in_ranges, is_char, is_name_start, is_name_char, is_name, begins, lacks}
use Rattle.xml_model.specs.Items.{Piece, literal, entity, decimal, hexadecimal, Leaf, cdata, declaration, doctype, Item, start_tag, empty_tag, end_tag, leaf, written, written_piece, written_pieces, meets_piece, meets_leaf, is_nil, is_number, number_of}
use Rattle.xml_chars.proofs.Readers.{IsReader, both_reads, mapped_reads, kept_reads, look_at_reads, many_reads, FitMany}
use Rattle.xml_chars.proofs.NameLaws.{name_chars}
use Rattle.xml_items.specs.Reading.{read_piece, ends_text, in_text, read_pieces, read_text}
use Rattle.xml_items.proofs.PieceLaws.{piece_reads, piece_pos, FitPiece}
use Rattle.xml_chars.proofs.ByteLemmas.{all_append, all_by}

abbrev pub none : ℕ → Bool
none c = false

-- ---- the mark ]]> begins at no character of a reference

abbrev no_bracket : ℕ → Bool
no_bracket c = not (c == 93)

name_93 : is_name_char 93 ≡ false
unfolding is_name_char is_name_start in_ranges
name_93 = refl

name_no_bracket : (c : ℕ) → is_name_char c ≡ true → no_bracket c ≡ true
name_no_bracket c h = not_from_false _ (ne_eqb c 93 (λ e. false≢true (sym name_93 ∙ ap is_name_char (sym e) ∙ h)))

digit_no_bracket : (base : ℕ) → is_digit 93 base ≡ false → (c : ℕ) → is_digit c base ≡ true → no_bracket c ≡ true
digit_no_bracket base none c h = not_from_false _ (ne_eqb c 93 (λ e. false≢true (sym none ∙ ap (λ (x : ℕ). is_digit x base) (sym e) ∙ h)))

digits_all : (base : ℕ) (digits : List ℕ) → is_number base digits ≡ true → list_all (λ c. is_digit c base) digits ≡ true
digits_all base [] h = refl
digits_all base (d ∷ digits) h = (and_parts (list_all (λ c. is_digit c base) (d ∷ digits)) (is_char (number_of base (d ∷ digits))) h).0

lacks_skip : (w v : List ℕ) → list_all no_bracket w ≡ true → lacks (codes "]]>") (w ++ v) ≡ lacks (codes "]]>") v
lacks_skip [] v h = refl
lacks_skip (c ∷ w) v h =
    let q = and_parts (no_bracket c) (list_all no_bracket w) h in
    let f : (93 == c) ≡ false = ne_eqb 93 c (λ e. false≢true (sym (not_from_true _ (eq-eqb c 93 (sym e))) ∙ q.0)) in
    rw f (lacks_skip w v q.1)

-- what follows a text plays no part
same_text : (c : ℕ) (w rest : List ℕ) → ends_text rest ≡ true → begins (codes "]]>") (c ∷ w) ≡ begins (codes "]]>") (c ∷ (w ++ rest))
same_text c w [] h = ap (λ (l : List ℕ). begins (codes "]]>") (c ∷ l)) (sym (append-nil w))
same_text c [] (d ∷ rest) h = rw (eqb-true d 60 h) refl
same_text c (e ∷ []) (d ∷ rest) h = rw (eqb-true d 60 h) refl
same_text c (e ∷ f ∷ w) (d ∷ rest) h = refl

-- ---- pieces

stop_is : (rest : List ℕ) → ends_text rest ≡ true → in_text rest ≡ false
unfolding in_text
stop_is rest h = rw h refl

pub literal_goes : (c : ℕ) (w : List ℕ) → (c == 60) ≡ false → in_text (c ∷ w) ≡ not (begins (codes "]]>") (c ∷ w))
unfolding in_text
literal_goes c w h = rw h refl

ampersand_goes : (w : List ℕ) → in_text (38 ∷ w) ≡ true
unfolding in_text
ampersand_goes w = refl

no_60 : (c : ℕ) → meets_piece none (literal c) ≡ true → (c == 60) ≡ false
no_60 c h =
    let a = and_parts (is_char c && not (c == 60) && not (c == 38)) (not false) h in
    let b = and_parts (is_char c && not (c == 60)) (not (c == 38)) a.0 in
    not-true _ (and_parts (is_char c) (not (c == 60)) b.0).1

entity_clear : (n : List ℕ) → is_name n ≡ true → list_all no_bracket (written_piece (entity n)) ≡ true
entity_clear n h = all_append no_bracket n (59 ∷ []) (all_by is_name_char no_bracket name_no_bracket n (name_chars n h)) refl

decimal_clear : (d : List ℕ) → is_number 10 d ≡ true → list_all no_bracket (written_piece (decimal d)) ≡ true
decimal_clear d h = all_append no_bracket d (59 ∷ []) (all_by (λ c. is_digit c 10) no_bracket (digit_no_bracket 10 refl) d (digits_all 10 d h)) refl

hexadecimal_clear : (d : List ℕ) → is_number 16 d ≡ true → list_all no_bracket (written_piece (hexadecimal d)) ≡ true
hexadecimal_clear d h = all_append no_bracket d (59 ∷ []) (all_by (λ c. is_digit c 16) no_bracket (digit_no_bracket 16 refl) d (digits_all 16 d h)) refl

pieces_lack : (ps : List Piece) (rest : List ℕ) → ends_text rest ≡ true → FitMany in_text written_piece (FitPiece none) ps rest → lacks (codes "]]>") (written_pieces ps) ≡ true
pieces_lack [] rest e h = refl
pieces_lack (literal c ∷ ps) rest e h =
    let w = flat_map written_piece ps in
    let no : begins (codes "]]>") (c ∷ (w ++ rest)) ≡ false = not-true _ (sym (literal_goes c (w ++ rest) (no_60 c h.1)) ∙ h.0) in
    and_from (not (begins (codes "]]>") (c ∷ w))) _ (not_from_false _ (same_text c w rest e ∙ no)) (pieces_lack ps rest e h.2)
pieces_lack (entity n ∷ ps) rest e h = lacks_skip (written_piece (entity n)) (written_pieces ps) (entity_clear n h.1) ∙ pieces_lack ps rest e h.2
pieces_lack (decimal n ∷ ps) rest e h = lacks_skip (written_piece (decimal n)) (written_pieces ps) (decimal_clear n h.1) ∙ pieces_lack ps rest e h.2
pieces_lack (hexadecimal n ∷ ps) rest e h = lacks_skip (written_piece (hexadecimal n)) (written_pieces ps) (hexadecimal_clear n h.1) ∙ pieces_lack ps rest e h.2

pieces_meet : (ps : List Piece) (rest : List ℕ) → FitMany in_text written_piece (FitPiece none) ps rest → list_all (meets_piece none) ps ≡ true
pieces_meet [] rest h = refl
pieces_meet (p ∷ ps) rest h = and_from (meets_piece none p) _ h.1 (pieces_meet ps rest h.2)

pieces_fit : (ps : List Piece) (rest : List ℕ) → ends_text rest ≡ true → list_all (meets_piece none) ps ≡ true → lacks (codes "]]>") (written_pieces ps) ≡ true → FitMany in_text written_piece (FitPiece none) ps rest
pieces_fit [] rest e m l = stop_is rest e
pieces_fit (literal c ∷ ps) rest e m l =
    let q = and_parts (meets_piece none (literal c)) (list_all (meets_piece none) ps) m in
    let w = flat_map written_piece ps in
    let k = and_parts (not (begins (codes "]]>") (c ∷ w))) (lacks (codes "]]>") w) l in
    (literal_goes c (w ++ rest) (no_60 c q.0) ∙ ap not (sym (same_text c w rest e)) ∙ k.0, q.0, pieces_fit ps rest e q.1 k.1)
pieces_fit (entity n ∷ ps) rest e m l =
    let q = and_parts (meets_piece none (entity n)) (list_all (meets_piece none) ps) m in
    (ampersand_goes _, q.0, pieces_fit ps rest e q.1 (sym (lacks_skip (written_piece (entity n)) (written_pieces ps) (entity_clear n q.0)) ∙ l))
pieces_fit (decimal n ∷ ps) rest e m l =
    let q = and_parts (meets_piece none (decimal n)) (list_all (meets_piece none) ps) m in
    (ampersand_goes _, q.0, pieces_fit ps rest e q.1 (sym (lacks_skip (written_piece (decimal n)) (written_pieces ps) (decimal_clear n q.0)) ∙ l))
pieces_fit (hexadecimal n ∷ ps) rest e m l =
    let q = and_parts (meets_piece none (hexadecimal n)) (list_all (meets_piece none) ps) m in
    (ampersand_goes _, q.0, pieces_fit ps rest e q.1 (sym (lacks_skip (written_piece (hexadecimal n)) (written_pieces ps) (hexadecimal_clear n q.0)) ∙ l))

-- ---- texts

abbrev pub FitPieces : List Piece → List ℕ → Type 0
FitPieces ps rest = FitMany in_text written_piece (FitPiece none) ps rest

pub pieces_reads : IsReader read_pieces written_pieces FitPieces
unfolding read_pieces
pieces_reads = many_reads in_text (read_piece none) written_piece (FitPiece none) piece_pos (piece_reads none)

abbrev pub FitText : Item → List ℕ → Type 0
FitText (leaf (Leaf.text ps)) rest = (meets_leaf (Leaf.text ps) ≡ true) × (ends_text rest ≡ true)
FitText _ rest = ⊥

text_back : (i : Item) (rest : List ℕ) → FitText i rest → (p : List Piece × Unit {0}) × (leaf (Leaf.text p.0) ≡ i) × ((FitPieces p.0 rest × (not (is_nil (written_pieces p.0)) ≡ true)) × (ends_text rest ≡ true))
text_back (leaf (Leaf.text ps)) rest h =
    let l = and_parts (not (is_nil (written_pieces ps)) && list_all (meets_piece none) ps) (lacks (codes "]]>") (written_pieces ps)) h.0 in
    let q = and_parts (not (is_nil (written_pieces ps))) (list_all (meets_piece none) ps) l.0 in
    ((ps, tt), refl, ((pieces_fit ps rest h.1 q.1 l.1, q.0), h.1))
text_back (leaf (cdata cs)) rest h = absurd h
text_back (leaf (Leaf.comment cs)) rest h = absurd h
text_back (leaf (Leaf.instruction x)) rest h = absurd h
text_back (leaf (declaration d)) rest h = absurd h
text_back (leaf (doctype d)) rest h = absurd h
text_back (start_tag t) rest h = absurd h
text_back (empty_tag t) rest h = absurd h
text_back (end_tag n s) rest h = absurd h

pub text_reads : IsReader read_text written FitText
unfolding read_text
text_reads = mapped_reads (λ p. leaf (Leaf.text p.0)) written FitText
    (both_reads (kept_reads (λ ps. not (is_nil (written_pieces ps))) read_pieces written_pieces FitPieces pieces_reads) (λ _ _ _. look_at_reads ends_text))
    (λ p. sym (append-nil (written_pieces p.0)))
    (λ p rest h. (and_from _ _ (and_from _ _ h.0.1 (pieces_meet p.0 rest h.0.0)) (pieces_lack p.0 rest h.1 h.0.0), h.1))
    text_back
