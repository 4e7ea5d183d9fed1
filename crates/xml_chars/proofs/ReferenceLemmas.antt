-- A reference by its first characters.
use Rattle.std.proofs.Common.{◌≡◌, ℕ, Bool, true, false, inl, inr, cond, List, [], ◌∷◌, drop, get_or, length, Option, Some, None, refl, sym, ◌∙◌}
use Rattle.std.specs.Prelude.{option_map, option_and_then, codes, nat_eq, ◌==◌}
use Rattle.std.proofs.lemmas.Bool.{cases_Bool, false≢true, eqb-true, ne_eqb}
use Rattle.xml_model.specs.Chars.{begins}
use Rattle.xml_model.specs.Items.{Piece, number_of, decimal, hexadecimal}
use Rattle.xml_chars.specs.Readers.{mapped, word}
use Rattle.xml_chars.specs.Reading.{read_number, read_reference, read_form, reference_form, named, in_decimal, in_hexadecimal}
use Rattle.xml_chars.specs.Shown.{Shown, character, shown}
use Rattle.xml_chars.proofs.Readers.{word_reads}

abbrev pub seen_number : ℕ → Option ((List ℕ × Unit {0}) × List ℕ) → Option (Shown × List ℕ)
seen_number base o = option_map (λ (p : ℕ × List ℕ). (character p.0, p.1)) (option_map (λ (p : (List ℕ × Unit {0}) × List ℕ). (number_of base p.0.0, p.1)) o)

hex_by : (o : Option ((List ℕ × Unit {0}) × List ℕ))
    → option_map (λ (p : Piece × List ℕ). (shown p.0, p.1)) (option_map (λ (p : (Unit {0} × (List ℕ × Unit {0})) × List ℕ). (hexadecimal p.0.1.0, p.1)) (option_and_then {U = (Unit {0} × (List ℕ × Unit {0})) × List ℕ} (λ (q : (List ℕ × Unit {0}) × List ℕ). Some ((tt, q.0), q.1)) o)) ≡ seen_number 16 o
hex_by None = refl
hex_by (Some p) = refl

decimal_by : (o : Option ((List ℕ × Unit {0}) × List ℕ))
    → option_map (λ (p : Piece × List ℕ). (shown p.0, p.1)) (option_map (λ (p : (Unit {0} × (List ℕ × Unit {0})) × List ℕ). (decimal p.0.1.0, p.1)) (option_and_then {U = (Unit {0} × (List ℕ × Unit {0})) × List ℕ} (λ (q : (List ℕ × Unit {0}) × List ℕ). Some ((tt, q.0), q.1)) o)) ≡ seen_number 10 o
decimal_by None = refl
decimal_by (Some p) = refl

pub hex_reference : (text rest : List ℕ) → word (codes "&#x") text ≡ Some (tt, rest) → mapped shown read_reference text ≡ seen_number 16 (read_number 16 rest)
unfolding read_reference reference_form
hex_reference text rest e = rw ((word_reads (codes "&#x")).takes text tt rest e).0 (hex_by (read_number 16 rest))

not_x : (text : List ℕ) → begins (codes "x") text ≡ false → (get_or text 0 0 == 120) ≡ false
not_x [] h = refl
not_x (c ∷ text) h = ne_eqb c 120 (λ e. false≢true (sym h ∙ rw e refl))

pub word_none : (w text : List ℕ) → word w text ≡ None → begins w text ≡ false
word_none w text e = elim (cases_Bool (begins w text)) [
  | inl t ↦ absurd (let n : ◌≡◌ {A = Option (Unit {0} × List ℕ)} (Some (tt, drop (length w) text)) None = rw t at e in cc)
  | inr f ↦ f
]

pub decimal_reference : (text rest : List ℕ) → word (codes "&#x") text ≡ None → word (codes "&#") text ≡ Some (tt, rest) → mapped shown read_reference text ≡ seen_number 10 (read_number 10 rest)
unfolding read_reference reference_form
decimal_reference text rest none e =
    let is : text ≡ 38 ∷ 35 ∷ rest = ((word_reads (codes "&#")).takes text tt rest e).0 in
    let f : begins (codes "x") rest ≡ false = rw is at (word_none (codes "&#x") text none) in
    rw (is, not_x rest f) (decimal_by (read_number 10 rest))

-- what begins with no &# is read by its name
pub named_reference : (text : List ℕ) → word (codes "&#") text ≡ None → mapped shown read_reference text ≡ mapped shown (read_form named) text
unfolding read_reference reference_form
named_reference [] e = refl
named_reference (c ∷ []) e = refl
named_reference (c ∷ d ∷ text) e = elim (cases_Bool (d == 35)) [
  | inr f ↦ rw f refl
  | inl t ↦
      let no : begins (codes "&#") (c ∷ d ∷ text) ≡ false = word_none (codes "&#") (c ∷ d ∷ text) e in
      let is : d ≡ 35 = eqb-true d 35 t in
      let f : nat_eq 38 c ≡ false = elim (cases_Bool (nat_eq 38 c)) [ inl y ↦ absurd (false≢true (sym no ∙ rw (is, y) refl)) | inr n ↦ n ] in
      rw (t, f) (by_x (get_or text 0 0 == 120) f)
]
  where
    by_x : (b : Bool) → nat_eq 38 c ≡ false → mapped shown (read_form (cond b in_hexadecimal in_decimal)) (c ∷ d ∷ text) ≡ None
    by_x true f = rw f refl
    by_x false f = rw f refl
