-- What the readers of names, white space and references read, and that they read it.
use Rattle.std.proofs.Common.{◌≡◌, ℕ, Bool, true, false, cond, List, [], ◌∷◌, ◌++◌, get_or, refl, sym, ap, subst, ◌∙◌, append_assoc}
use Rattle.std.specs.Prelude.{codes, ◌&&◌, ◌==◌}
use Rattle.std.specs.List.{list_all}
use Rattle.std.specs.Char.{is_digit}
use Rattle.std.proofs.lemmas.Bool.{false≢true, and_parts, and_from, ne_eqb}
use Rattle.xml_model.specs.Chars.{in_ranges, is_char, is_space, is_blank, is_name_start, is_name_char, is_name}
use Rattle.xml_model.specs.Items.{Piece, literal, entity, decimal, hexadecimal, written_piece, number_of, is_number}
use Rattle.xml_chars.specs.Readers.{run}
use Rattle.xml_chars.specs.Reading.{begins_name, read_name, read_space, read_digits, read_reference, read_form, reference_form, ReferenceForm, named, in_decimal, in_hexadecimal}
use Rattle.xml_chars.specs.Places.{is_reference, meets_reference}
use Rattle.xml_chars.proofs.Readers.{IsReader, reads_as, both_reads, mapped_reads, kept_reads, run_reads, word_reads, choose_by_reads, StopsBy, FitRun}
use Rattle.xml_chars.proofs.Runs.{start_is_name}

abbrev pub FitName : List ℕ → List ℕ → Type 0
FitName n rest = (is_name n ≡ true) × StopsBy is_name_char rest

pub name_chars : (n : List ℕ) → is_name n ≡ true → list_all is_name_char n ≡ true
unfolding is_name
name_chars [] h = refl
name_chars (c ∷ n) h = let q = and_parts (is_name_start c) (list_all is_name_char n) h in and_from (is_name_char c) (list_all is_name_char n) (start_is_name c q.0) q.1

name_to : (n rest : List ℕ) → FitRun is_name_char n rest × (begins_name n ≡ true) → FitName n rest
unfolding is_name
name_to [] rest h = absurd (false≢true h.1)
name_to (c ∷ n) rest h = (and_from (is_name_start c) (list_all is_name_char n) h.1 (and_parts (is_name_char c) (list_all is_name_char n) h.0.0).1, h.0.1)

name_from : (n rest : List ℕ) → FitName n rest → FitRun is_name_char n rest × (begins_name n ≡ true)
unfolding is_name
name_from [] rest h = absurd (false≢true h.0)
name_from (c ∷ n) rest h = ((name_chars (c ∷ n) h.0, h.1), (and_parts (is_name_start c) (list_all is_name_char n) h.0).0)

pub name_reads : IsReader read_name (λ n. n) FitName
unfolding read_name
name_reads = reads_as FitName (kept_reads begins_name (run is_name_char) (λ n. n) (FitRun is_name_char) (run_reads is_name_char)) name_to name_from

abbrev pub FitSpace : List ℕ → List ℕ → Type 0
FitSpace space rest = (is_blank space ≡ true) × StopsBy is_space rest

pub space_reads : IsReader read_space (λ s. s) FitSpace
unfolding read_space is_blank
space_reads = run_reads is_space

-- ---- numbers

abbrev pub FitDigits : ℕ → List ℕ → List ℕ → Type 0
FitDigits base digits rest = (is_number base digits ≡ true) × StopsBy (λ c. is_digit c base) rest

digits_from : (base : ℕ) (digits rest : List ℕ) → FitDigits base digits rest → FitRun (λ c. is_digit c base) digits rest × (is_number base digits ≡ true)
digits_from base [] rest h = absurd (false≢true h.0)
digits_from base (d ∷ digits) rest h = (((and_parts (list_all (λ c. is_digit c base) (d ∷ digits)) (is_char (number_of base (d ∷ digits))) h.0).0, h.1), h.0)

pub digits_reads : (base : ℕ) → IsReader (read_digits base) (λ d. d) (FitDigits base)
unfolding read_digits
digits_reads base = reads_as (FitDigits base) (kept_reads (is_number base) (run (λ c. is_digit c base)) (λ d. d) (FitRun (λ c. is_digit c base)) (run_reads (λ c. is_digit c base))) (λ x rest h. (h.1, h.0.1)) (digits_from base)

-- ---- references

abbrev FitForm : ReferenceForm → Piece → List ℕ → Type 0
FitForm named (entity n) rest = is_name n ≡ true
FitForm in_decimal (decimal digits) rest = is_number 10 digits ≡ true
FitForm in_hexadecimal (hexadecimal digits) rest = is_number 16 digits ≡ true
FitForm _ _ rest = ⊥

pub stop_59 : is_name_char 59 ≡ false
unfolding is_name_char is_name_start in_ranges
stop_59 = refl

named_back : (y : Piece) (rest : List ℕ) → FitForm named y rest → (x : Unit {0} × (List ℕ × Unit {0})) × (entity x.1.0 ≡ y) × (Unit {0} × (FitName x.1.0 (59 ∷ rest) × Unit {0}))
named_back (entity n) rest h = ((tt, (n, tt)), refl, (tt, ((h, stop_59), tt)))
named_back (literal c) rest h = absurd h
named_back (decimal d) rest h = absurd h
named_back (hexadecimal d) rest h = absurd h

decimal_back : (y : Piece) (rest : List ℕ) → FitForm in_decimal y rest → (x : Unit {0} × (List ℕ × Unit {0})) × (decimal x.1.0 ≡ y) × (Unit {0} × (FitDigits 10 x.1.0 (59 ∷ rest) × Unit {0}))
decimal_back (decimal d) rest h = ((tt, (d, tt)), refl, (tt, ((h, refl), tt)))
decimal_back (literal c) rest h = absurd h
decimal_back (entity n) rest h = absurd h
decimal_back (hexadecimal d) rest h = absurd h

hexadecimal_back : (y : Piece) (rest : List ℕ) → FitForm in_hexadecimal y rest → (x : Unit {0} × (List ℕ × Unit {0})) × (hexadecimal x.1.0 ≡ y) × (Unit {0} × (FitDigits 16 x.1.0 (59 ∷ rest) × Unit {0}))
hexadecimal_back (hexadecimal d) rest h = ((tt, (d, tt)), refl, (tt, ((h, refl), tt)))
hexadecimal_back (literal c) rest h = absurd h
hexadecimal_back (entity n) rest h = absurd h
hexadecimal_back (decimal d) rest h = absurd h

form_reads : (k : ReferenceForm) → IsReader (read_form k) written_piece (FitForm k)
form_reads named =
    mapped_reads (λ p. entity p.1.0) written_piece (FitForm named)
    (both_reads (word_reads (codes "&")) (λ _ _ _. both_reads name_reads (λ _ _ _. word_reads (codes ";")))) (λ x. refl) (λ x rest h. h.1.0.0) named_back
form_reads in_decimal =
    mapped_reads (λ p. decimal p.1.0) written_piece (FitForm in_decimal)
    (both_reads (word_reads (codes "&#")) (λ _ _ _. both_reads (digits_reads 10) (λ _ _ _. word_reads (codes ";")))) (λ x. refl) (λ x rest h. h.1.0.0) decimal_back
form_reads in_hexadecimal =
    mapped_reads (λ p. hexadecimal p.1.0) written_piece (FitForm in_hexadecimal)
    (both_reads (word_reads (codes "&#x")) (λ _ _ _. both_reads (digits_reads 16) (λ _ _ _. word_reads (codes ";")))) (λ x. refl) (λ x rest h. h.1.0.0) hexadecimal_back

abbrev pub FitReference : Piece → List ℕ → Type 0
FitReference p rest = (is_reference p && meets_reference p) ≡ true

form_to : (k : ReferenceForm) (p : Piece) (rest : List ℕ) → FitForm k p rest → FitReference p rest
form_to named (entity n) rest h = h
form_to named (literal c) rest h = absurd h
form_to named (decimal d) rest h = absurd h
form_to named (hexadecimal d) rest h = absurd h
form_to in_decimal (decimal d) rest h = h
form_to in_decimal (literal c) rest h = absurd h
form_to in_decimal (entity n) rest h = absurd h
form_to in_decimal (hexadecimal d) rest h = absurd h
form_to in_hexadecimal (hexadecimal d) rest h = h
form_to in_hexadecimal (literal c) rest h = absurd h
form_to in_hexadecimal (entity n) rest h = absurd h
form_to in_hexadecimal (decimal d) rest h = absurd h

start_35 : is_name_start 35 ≡ false
unfolding is_name_start in_ranges
start_35 = refl

name_35 : (n rest : List ℕ) → is_name n ≡ true → (get_or (n ++ rest) 0 0 == 35) ≡ false
unfolding is_name
name_35 [] rest h = absurd (false≢true h)
name_35 (c ∷ n) rest h = ne_eqb c 35 (λ e. false≢true (sym start_35 ∙ ap is_name_start (sym e) ∙ (and_parts (is_name_start c) (list_all is_name_char n) h).0))

digits_120 : (n rest : List ℕ) → is_number 10 n ≡ true → (get_or (n ++ rest) 0 0 == 120) ≡ false
digits_120 [] rest h = absurd (false≢true h)
digits_120 (c ∷ n) rest h = ne_eqb c 120 (λ e.
    let d : is_digit c 10 ≡ true = (and_parts (is_digit c 10) (list_all (λ c. is_digit c 10) n) (and_parts (list_all (λ c. is_digit c 10) (c ∷ n)) (is_char (number_of 10 (c ∷ n))) h).0).0 in
    false≢true (ap (λ (x : ℕ). is_digit x 10) (sym e) ∙ d))

form_from : (p : Piece) (rest : List ℕ) → FitReference p rest → FitForm (reference_form (written_piece p ++ rest)) p rest
unfolding reference_form
form_from (literal c) rest h = absurd (false≢true h)
form_from (entity n) rest h =
    let no : (get_or ((n ++ 59 ∷ []) ++ rest) 0 0 == 35) ≡ false = ap (λ (l : List ℕ). get_or l 0 0 == 35) (append_assoc n (59 ∷ []) rest) ∙ name_35 n (59 ∷ rest) h in
    subst (λ (b : Bool). FitForm (cond b (cond (get_or ((n ++ 59 ∷ []) ++ rest) 1 0 == 120) in_hexadecimal in_decimal) named) (entity n) rest) (sym no) h
form_from (decimal d) rest h =
    let no : (get_or ((d ++ 59 ∷ []) ++ rest) 0 0 == 120) ≡ false = ap (λ (l : List ℕ). get_or l 0 0 == 120) (append_assoc d (59 ∷ []) rest) ∙ digits_120 d (59 ∷ rest) h in
    subst (λ (b : Bool). FitForm (cond b in_hexadecimal in_decimal) (decimal d) rest) (sym no) h
form_from (hexadecimal d) rest h = h

pub reference_reads : IsReader read_reference written_piece FitReference
unfolding read_reference
reference_reads = reads_as FitReference (choose_by_reads reference_form form_reads) (λ p rest h. form_to (reference_form (written_piece p ++ rest)) p rest h) form_from
