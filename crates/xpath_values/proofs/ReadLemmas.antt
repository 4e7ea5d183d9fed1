-- A reader of a text's characters finds the text's number.
use Rattle.std.proofs.Common.{◌≡◌, ℕ, Bool, true, false, cond, ◌&&◌, ◌==◌, List, [], ◌∷◌, Ok, Err, refl, sym, ◌∙◌, ap, subst}
use Rattle.std.proofs.Common.{◌||◌, ◌≤◌, Result, nat_lt}
use Rattle.std.specs.Prelude.{fold, codes, IfOk, ℤ}
use Rattle.std.specs.List.{list_all, list_any}
use Rattle.std.proofs.lemmas.Bool.{eqb-true, ltb-false, true≢false, false≢true}
use Rattle.xml_model.specs.Chars.{is_space, in_ranges}
use Rattle.xpath_tokens.specs.Tokens.{is_decimal_digit, are_digits}
use Rattle.xpath_tokens.specs.Numbers.{greatest}
use Rattle.xpath_tokens.specs.declared.numbers.NumberFault.{NumberFault}
use Rattle.xpath_tokens.specs.declared.numbers.NumberFault.TheVariants as spelling
use Rattle.xpath_tokens.specs.Scanning.{scan_next, scan_start, scan_value}
use Rattle.xpath_tokens.specs.declared.numbers.NumberScan.{NumberScan}
use Rattle.xpath_tokens.proofs.SpelledNumbers.{scanned}
use Rattle.xpath_values.specs.declared.Number.{Number}
use Rattle.xpath_values.specs.declared.Number.TheVariants.{Nan, Millionths}
use Rattle.xpath_values.specs.declared.reading.Phase.{Phase}
use Rattle.xpath_values.specs.declared.reading.Phase.TheVariants.{Before, Signed, Whole, Lone, Places, After, Bad}
use Rattle.xpath_values.specs.declared.reading.NumberReader.{NumberReader}
use Rattle.xpath_values.specs.Answers.{Answer, with}
use Rattle.xpath_values.specs.Numbers.{is_number, is_after_digit, negative, number_held, number_of_text, signed, unsigned, without_spaces, without_last_spaces}
use Rattle.xpath_values.specs.Products.{with_sign}
use Rattle.xpath_values.specs.Reading.{moved, read_next, read_start, read_value, spelled_value}

abbrev state : Phase → Bool → NumberScan → NumberReader
state p b s = record { phase = p; negative = b; scan = s }

abbrev from : NumberReader → List ℕ → Answer Number
from r cs = read_value (fold read_next r cs)

-- what a spelling is worth, where it passes a test
abbrev worth : Bool → NumberScan → Bool → List ℕ → Answer Number
worth b s passes w = cond passes (spelled_value b (fold scan_next s w)) (Ok Nan)

-- what white space at the end leaves of a text, by whether its first character and all others are white space
abbrev trimmed : ℕ → List ℕ → Bool → Bool → List ℕ
trimmed c cs y z = cond (y && z) [] (c ∷ without_last_spaces cs)

bad_from : (b : Bool) (s : NumberScan) (cs : List ℕ) → from (state Bad b s) cs ≡ Ok Nan
bad_from b s [] = refl
bad_from b s (c ∷ cs) = bad_from b s cs

after_from : (b : Bool) (s : NumberScan) (cs : List ℕ) → from (state After b s) cs ≡ cond (list_all is_space cs) (spelled_value b s) (Ok Nan)
after_from b s [] = refl
after_from b s (c ∷ cs) = this (after_from b s cs) (is_space c)
  where
    this : from (state After b s) cs ≡ cond (list_all is_space cs) (spelled_value b s) (Ok Nan) → (y : Bool)
        → from (moved (cond y After Bad) (state After b s) c) cs ≡ cond (y && list_all is_space cs) (spelled_value b s) (Ok Nan)
    this i true = i
    this i false = bad_from b s cs

-- a character that passes a test is none of those that do not
pub outside : (p : ℕ → Bool) (xs : List ℕ) → list_any p xs ≡ false → (c : ℕ) → p c ≡ true → list_any (λ s. s == c) xs ≡ false
outside p [] h c k = refl
outside p (x ∷ xs) h c k = this (λ l. outside p xs l c k) (p x) (x == c) refl refl h
  where
    this : (list_any p xs ≡ false → list_any (λ s. s == c) xs ≡ false) → (b d : Bool) → p x ≡ b → (x == c) ≡ d
        → (b || list_any p xs) ≡ false → (d || list_any (λ s. s == c) xs) ≡ false
    this i true d e g l = absurd (true≢false l)
    this i false true e g l = absurd (true≢false (sym k ∙ ap p (sym (eqb-true x c g)) ∙ e))
    this i false false e g l = i l

-- the characters of numbers are no white space, and the digits are no point
digit_no_space : (c : ℕ) → is_decimal_digit c ≡ true → is_space c ≡ true → ⊥
unfolding is_space in_ranges
digit_no_space c e f = true≢false (sym e ∙ outside is_space (codes "0123456789") refl c f)

digit_no_point : (c : ℕ) → is_decimal_digit c ≡ true → (c == 46) ≡ true → ⊥
digit_no_point c e f = false≢true (subst (λ y. is_decimal_digit y ≡ true) (eqb-true c 46 f) e)

point_no_space : (c : ℕ) → (c == 46) ≡ true → is_space c ≡ true → ⊥
unfolding is_space in_ranges
point_no_space c e f = false≢true (subst (λ y. is_space y ≡ true) (eqb-true c 46 e) f)

places_from : (b : Bool) (s : NumberScan) (cs : List ℕ)
    → from (state Places b s) cs ≡ worth b s (list_all is_decimal_digit (without_last_spaces cs)) (without_last_spaces cs)
places_from b s [] = refl
places_from b s (c ∷ cs) = this (places_from b (scan_next s c) cs) (is_decimal_digit c) (is_space c) (list_all is_space cs) refl refl refl
  where
    none : (x : Bool) → is_decimal_digit c ≡ x → worth b s (x && list_all is_decimal_digit (without_last_spaces cs)) (c ∷ without_last_spaces cs)
        ≡ worth b s (list_all is_decimal_digit (c ∷ without_last_spaces cs)) (c ∷ without_last_spaces cs)
    none x e = ap (λ v. worth b s (v && list_all is_decimal_digit (without_last_spaces cs)) (c ∷ without_last_spaces cs)) (sym e)

    this : from (state Places b (scan_next s c)) cs ≡ worth b (scan_next s c) (list_all is_decimal_digit (without_last_spaces cs)) (without_last_spaces cs)
        → (x y z : Bool) → is_decimal_digit c ≡ x → is_space c ≡ y → list_all is_space cs ≡ z
        → from (moved (cond x Places (cond y After Bad)) (state Places b s) c) cs
        ≡ worth b s (list_all is_decimal_digit (trimmed c cs y z)) (trimmed c cs y z)
    this i true true z e f g = absurd (digit_no_space c e f)
    this i true false z e f g = i ∙ none true e
    this i false true true e f g = after_from b s cs ∙ ap (λ v. cond v (spelled_value b s) (Ok Nan)) g
    this i false true false e f g = after_from b s cs ∙ ap (λ v. cond v (spelled_value b s) (Ok Nan)) g ∙ none false e
    this i false false z e f g = bad_from b s cs ∙ none false e

lone_from : (b : Bool) (s : NumberScan) (cs : List ℕ)
    → from (state Lone b s) cs ≡ worth b s (are_digits (without_last_spaces cs)) (without_last_spaces cs)
lone_from b s [] = refl
lone_from b s (c ∷ cs) = this (is_decimal_digit c) (is_space c) (list_all is_space cs) refl refl refl
  where
    turn : (x : Bool) → is_decimal_digit c ≡ x → worth b s (x && list_all is_decimal_digit (without_last_spaces cs)) (c ∷ without_last_spaces cs)
        ≡ worth b s (are_digits (c ∷ without_last_spaces cs)) (c ∷ without_last_spaces cs)
    turn x e = ap (λ v. worth b s (v && list_all is_decimal_digit (without_last_spaces cs)) (c ∷ without_last_spaces cs)) (sym e)

    this : (x y z : Bool) → is_decimal_digit c ≡ x → is_space c ≡ y → list_all is_space cs ≡ z
        → from (moved (cond x Places Bad) (state Lone b s) c) cs ≡ worth b s (are_digits (trimmed c cs y z)) (trimmed c cs y z)
    this true true z e f g = absurd (digit_no_space c e f)
    this true false z e f g = places_from b (scan_next s c) cs ∙ turn true e
    this false true true e f g = bad_from b s cs
    this false true false e f g = bad_from b s cs ∙ turn false e
    this false false z e f g = bad_from b s cs ∙ turn false e

whole_from : (b : Bool) (s : NumberScan) (cs : List ℕ)
    → from (state Whole b s) cs ≡ worth b s (is_after_digit (without_last_spaces cs)) (without_last_spaces cs)
whole_from b s [] = refl
whole_from b s (c ∷ cs) = this (whole_from b (scan_next s c) cs) (is_decimal_digit c) (c == 46) (is_space c) (list_all is_space cs) refl refl refl refl
  where
    turn : (x p : Bool) → is_decimal_digit c ≡ x → (c == 46) ≡ p
        → worth b s (cond p (list_all is_decimal_digit (without_last_spaces cs)) (x && is_after_digit (without_last_spaces cs)))
        (c ∷ without_last_spaces cs)
        ≡ worth b s (is_after_digit (c ∷ without_last_spaces cs)) (c ∷ without_last_spaces cs)
    turn x p e h =
        ap (λ v. worth b s (cond p (list_all is_decimal_digit (without_last_spaces cs)) (v && is_after_digit (without_last_spaces cs)))
        (c ∷ without_last_spaces cs)) (sym e)
        ∙ ap (λ v. worth b s (cond v (list_all is_decimal_digit (without_last_spaces cs)) (is_decimal_digit c && is_after_digit
        (without_last_spaces cs))) (c ∷ without_last_spaces cs)) (sym h)

    this : from (state Whole b (scan_next s c)) cs ≡ worth b (scan_next s c) (is_after_digit (without_last_spaces cs)) (without_last_spaces cs)
        → (x p y z : Bool) → is_decimal_digit c ≡ x → (c == 46) ≡ p → is_space c ≡ y → list_all is_space cs ≡ z
        → from (moved (cond x Whole (cond p Places (cond y After Bad))) (state Whole b s) c) cs
        ≡ worth b s (is_after_digit (trimmed c cs y z)) (trimmed c cs y z)
    this i true true y z e h f g = absurd (digit_no_point c e h)
    this i true false true z e h f g = absurd (digit_no_space c e f)
    this i true false false z e h f g = i ∙ turn true false e h
    this i false true true z e h f g = absurd (point_no_space c h f)
    this i false true false z e h f g = places_from b (scan_next s c) cs ∙ turn false true e h
    this i false false true true e h f g = after_from b s cs ∙ ap (λ v. cond v (spelled_value b s) (Ok Nan)) g
    this i false false true false e h f g = after_from b s cs ∙ ap (λ v. cond v (spelled_value b s) (Ok Nan)) g ∙ turn false false e h
    this i false false false z e h f g = bad_from b s cs ∙ turn false false e h

begun_from : (b : Bool) (s : NumberScan) (cs : List ℕ)
    → from (state Signed b s) cs ≡ worth b s (is_number (without_last_spaces cs)) (without_last_spaces cs)
begun_from b s [] = refl
begun_from b s (c ∷ cs) = this (is_decimal_digit c) (c == 46) (is_space c) (list_all is_space cs) refl refl refl refl
  where
    turn : (x p : Bool) → is_decimal_digit c ≡ x → (c == 46) ≡ p
        → worth b s (cond p (are_digits (without_last_spaces cs)) (x && is_after_digit (without_last_spaces cs))) (c ∷ without_last_spaces cs)
        ≡ worth b s (is_number (c ∷ without_last_spaces cs)) (c ∷ without_last_spaces cs)
    turn x p e h =
        ap (λ v. worth b s (cond p (are_digits (without_last_spaces cs)) (v && is_after_digit (without_last_spaces cs)))
        (c ∷ without_last_spaces cs)) (sym e)
        ∙ ap (λ v. worth b s (cond v (are_digits (without_last_spaces cs)) (is_decimal_digit c && is_after_digit (without_last_spaces cs)))
        (c ∷ without_last_spaces cs)) (sym h)

    this : (x p y z : Bool) → is_decimal_digit c ≡ x → (c == 46) ≡ p → is_space c ≡ y → list_all is_space cs ≡ z
        → from (moved (cond x Whole (cond p Lone Bad)) (state Signed b s) c) cs ≡ worth b s (is_number (trimmed c cs y z)) (trimmed c cs y z)
    this true true y z e h f g = absurd (digit_no_point c e h)
    this true false true z e h f g = absurd (digit_no_space c e f)
    this true false false z e h f g = whole_from b (scan_next s c) cs ∙ turn true false e h
    this false true true z e h f g = absurd (point_no_space c h f)
    this false true false z e h f g = lone_from b (scan_next s c) cs ∙ turn false true e h
    this false false true true e h f g = bad_from b s cs
    this false false true false e h f g = bad_from b s cs ∙ turn false false e h
    this false false false z e h f g = bad_from b s cs ∙ turn false false e h

-- a spelling without a sign, and with a minus
plain_worth : (w : List ℕ) → worth false scan_start (is_number w) w ≡ unsigned w
plain_worth w = ap (λ v. cond (is_number w) (number_held v) (Ok Nan)) (scanned w)

minus_worth : (w : List ℕ) → worth true scan_start (is_number w) w ≡ with (unsigned w) negative
minus_worth w = this (is_number w) ∙ ap (λ v. with (cond (is_number w) (number_held v) (Ok Nan)) negative) (scanned w)
  where
    this : (x : Bool) → worth true scan_start x w ≡ with (cond x (number_held (scan_value (fold scan_next scan_start w))) (Ok Nan)) negative
    this true = refl
    this false = refl

before_from : (cs : List ℕ) → from read_start cs ≡ signed (without_last_spaces (without_spaces cs))
before_from [] = refl
before_from (c ∷ cs) = this (before_from cs) (is_space c) (c == 45) (list_all is_space cs) refl refl refl
  where
    this : from read_start cs ≡ signed (without_last_spaces (without_spaces cs)) → (y m z : Bool) → is_space c ≡ y → (c == 45) ≡ m
        → list_all is_space cs ≡ z
        → from (moved (cond y Before (cond m Signed (cond (is_decimal_digit c) Whole (cond (c == 46) Lone Bad)))) read_start c) cs
        ≡ signed (without_last_spaces (cond y (without_spaces cs) (c ∷ cs)))
    this i true m z f h g = i
    this i false true z f h g =
        begun_from true scan_start cs ∙ minus_worth (without_last_spaces cs)
        ∙ ap (λ v. cond v (with (unsigned (without_last_spaces cs)) negative) (unsigned (c ∷ (without_last_spaces cs)))) (sym h)
        ∙ ap (λ v. signed (cond (v && list_all is_space cs) [] (c ∷ (without_last_spaces cs)))) (sym f)
    this i false false z f h g =
        begun_from false scan_start (c ∷ cs) ∙ plain_worth (without_last_spaces (c ∷ cs))
        ∙ ap (λ v. unsigned (cond (v && list_all is_space cs) [] (c ∷ (without_last_spaces cs)))) f
        ∙ ap (λ v. cond v (with (unsigned (without_last_spaces cs)) negative) (unsigned (c ∷ (without_last_spaces cs)))) (sym h)
        ∙ ap (λ v. signed (cond (v && list_all is_space cs) [] (c ∷ (without_last_spaces cs)))) (sym f)

-- what is read of a text to its end is its number
pub read_number : (t : List ℕ) → read_value (fold read_next read_start t) ≡ number_of_text t
read_number t = before_from t

-- a number that was scanned is in range
pub scanned_fits : (s : NumberScan) (r : Result ℕ NumberFault) → r ≡ scan_value s → IfOk r (λ n. n ≤ greatest)
scanned_fits s r e = subst (λ k. IfOk k (λ n. n ≤ greatest)) (sym e) (this s.finer (nat_lt greatest s.value) refl)
  where
    this : (b d : Bool) → nat_lt greatest s.value ≡ d → IfOk (cond b (Err spelling.Fraction) (cond d (Err spelling.Range) (Ok s.value)))
        (λ n. n ≤ greatest)
    this true d h = tt
    this false true h = tt
    this false false h = ltb-false greatest s.value h

-- with a minus or without
pub spelled_ok : (b : Bool) (s : NumberScan) (n : ℕ) (z : ℤ) → Ok n ≡ scan_value s → z ≡ with_sign b n → Ok (Millionths z) ≡ spelled_value b s
spelled_ok true s n z e f = ap (λ k. Ok (Millionths k)) f ∙ ap (λ v. with (number_held v) negative) e
spelled_ok false s n z e f = ap (λ k. Ok (Millionths k)) f ∙ ap number_held e
