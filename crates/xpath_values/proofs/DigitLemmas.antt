-- The number of a text that is digits alone, perhaps after a minus.
use Rattle.std.proofs.Common.{◌≡◌, ℕ, zero, suc, Bool, true, false, cond, not, ◌&&◌, ◌||◌, ◌==◌, List, [], ◌∷◌, length, ◌+◌, ◌*◌, ◌-◌, ◌^◌, ◌<◌, ◌≤◌, Ok, Err, drop, refl, sym, ap, ap₂, subst, ◌∙◌, arith}
use Rattle.std.specs.Prelude.{codes, nat_lt, ℤ, pos, neg_ℤ}
use Rattle.std.specs.List.{list_all, list_any}
use Rattle.std.specs.Str.{IsAscii, chars}
use Rattle.std.proofs.lemmas.Bool.{and_parts, and_from, le-ltb, ltb-false, true≢false}
use Rattle.std.proofs.lemmas.Str.{chars-IsAscii}
use Rattle.std.proofs.lemmas.Str.Ascii.{IsAscii-nil, IsAscii-cons}
use Rattle.std.proofs.Math.Nat.{one-le-pow, pow-le-pow_right, pow-succ'}
use Rattle.xml_model.specs.Chars.{is_space, in_ranges}
use Rattle.vtd_text.specs.Raw.{are_plain}
use Rattle.xpath_tokens.specs.Numbers.{added, greatest, is_finer, millionths, number_value, places, spelled, whole_digits}
use Rattle.xpath_tokens.specs.Tokens.{are_digits, is_decimal_digit}
use Rattle.xpath_tokens.specs.declared.numbers.NumberFault.TheVariants.{Fraction, Range}
use Rattle.xpath_values.specs.declared.Number.{Number}
use Rattle.xpath_values.specs.declared.Number.TheVariants.{Nan, Millionths}
use Rattle.xpath_values.specs.Answers.{Answer, with}
use Rattle.xpath_values.specs.Digits.{HasWhole, signed_digits}
use Rattle.xpath_values.specs.Numbers.{is_after_digit, is_number, negative, number_held, number_of_text, signed, unsigned, without_last_spaces, without_spaces}
use Rattle.xpath_values.specs.Products.{with_sign}
use Rattle.xpath_values.proofs.ReadLemmas.{outside}

-- a digit is no other character
other : (p : ℕ → Bool) → list_any p (codes "0123456789") ≡ false → (c : ℕ) → is_decimal_digit c ≡ true → p c ≡ false
other p h c d = by (p c) refl
  where
    by : (b : Bool) → p c ≡ b → p c ≡ false
    by false e = e
    by true e = absurd (true≢false (sym d ∙ outside p (codes "0123456789") h c e))

no_space : (c : ℕ) → is_decimal_digit c ≡ true → is_space c ≡ false
unfolding is_space in_ranges
no_space c d = other is_space refl c d

no_point : (c : ℕ) → is_decimal_digit c ≡ true → (c == 46) ≡ false
no_point c d = other (λ x. x == 46) refl c d

no_minus : (c : ℕ) → is_decimal_digit c ≡ true → (c == 45) ≡ false
no_minus c d = other (λ x. x == 45) refl c d

is_plain_digit : (c : ℕ) → is_decimal_digit c ≡ true → not (c == 9 || c == 10 || c == 13 || c == 38) ≡ true
is_plain_digit c d = ap not (other (λ x. x == 9 || x == 10 || x == 13 || x == 38) refl c d)

digit_low : (c : ℕ) → is_decimal_digit c ≡ true → c < 128
digit_low c d = omega (arith, ltb-false 57 c (other (λ x. nat_lt 57 x) refl c d))

-- no white space is at the ends of digits
kept_first : (c : ℕ) (cs : List ℕ) → is_decimal_digit c ≡ true → without_spaces (c ∷ cs) ≡ c ∷ cs
kept_first c cs d = ap (λ (b : Bool). cond b (without_spaces cs) (c ∷ cs)) (no_space c d)

kept_last : (ds : List ℕ) → list_all is_decimal_digit ds ≡ true → without_last_spaces ds ≡ ds
kept_last [] h = refl
kept_last (c ∷ cs) h =
    let p = and_parts (is_decimal_digit c) (list_all is_decimal_digit cs) h in
    ap (λ (b : Bool). cond (b && list_all is_space cs) [] (c ∷ without_last_spaces cs)) (no_space c p.0) ∙ ap (λ (l : List ℕ). c ∷ l) (kept_last cs p.1)

-- digits are a number, with no places
digits_after : (ds : List ℕ) → list_all is_decimal_digit ds ≡ true → is_after_digit ds ≡ true
digits_after [] h = refl
digits_after (c ∷ cs) h =
    let p = and_parts (is_decimal_digit c) (list_all is_decimal_digit cs) h in
    ap (λ (b : Bool). cond b (list_all is_decimal_digit cs) (is_decimal_digit c && is_after_digit cs)) (no_point c p.0)
    ∙ and_from (is_decimal_digit c) (is_after_digit cs) p.0 (digits_after cs p.1)

digits_number : (c : ℕ) (cs : List ℕ) → list_all is_decimal_digit (c ∷ cs) ≡ true → is_number (c ∷ cs) ≡ true
digits_number c cs h =
    let p = and_parts (is_decimal_digit c) (list_all is_decimal_digit cs) h in
    ap (λ (b : Bool). cond b (are_digits cs) (is_decimal_digit c && is_after_digit cs)) (no_point c p.0)
    ∙ and_from (is_decimal_digit c) (is_after_digit cs) p.0 (digits_after cs p.1)

no_places : (ds : List ℕ) → list_all is_decimal_digit ds ≡ true → places ds ≡ []
no_places [] h = refl
no_places (c ∷ cs) h =
    let p = and_parts (is_decimal_digit c) (list_all is_decimal_digit cs) h in
    ap (λ (b : Bool). cond b cs (places cs)) (no_point c p.0) ∙ no_places cs p.1

all_whole : (ds : List ℕ) → list_all is_decimal_digit ds ≡ true → whole_digits ds ≡ ds
all_whole [] h = refl
all_whole (c ∷ cs) h =
    let p = and_parts (is_decimal_digit c) (list_all is_decimal_digit cs) h in
    ap (λ (b : Bool). cond b [] (c ∷ whole_digits cs)) (no_point c p.0) ∙ ap (λ (l : List ℕ). c ∷ l) (all_whole cs p.1)

-- the number of digits
whole_value : (ds : List ℕ) (n : ℕ) → HasWhole ds n → number_value ds ≡ Ok (1000000 * n)
whole_value ds n h =
    let none : places ds ≡ [] = no_places ds h.digits in
    let finer : is_finer ds ≡ false = ap (λ (l : List ℕ). list_any (λ d. not (d == 48)) (drop 6 l)) none in
    let value : millionths ds ≡ 1000000 * n =
    ap₂ (λ (a b : List ℕ). 1000000 * spelled 0 a + added 100000 b) (all_whole ds h.digits) none ∙ omega (arith, h.value) in
    let low : nat_lt greatest (1000000 * n) ≡ false = le-ltb greatest (1000000 * n) (omega (arith, h.small)) in
    ap (λ (b : Bool). cond b (Err Fraction) (cond (nat_lt greatest (millionths ds)) (Err Range) (Ok (millionths ds)))) finer
    ∙ ap (λ (m : ℕ). cond (nat_lt greatest m) (Err Range) (Ok m)) value
    ∙ ap (λ (b : Bool). cond b (Err Range) (Ok (1000000 * n))) low

unsigned_value : (ds : List ℕ) (n : ℕ) → 0 < length ds → HasWhole ds n → unsigned ds ≡ Ok (Millionths (pos (1000000 * n)))
unsigned_value [] n l h = absurd (omega (arith, l))
unsigned_value (c ∷ cs) n l h =
    ap (λ (b : Bool). cond b (number_held (number_value (c ∷ cs))) (Ok Nan)) (digits_number c cs h.digits) ∙ ap number_held (whole_value (c ∷ cs) n h)

plain_value : (c : ℕ) (cs : List ℕ) (n : ℕ) → HasWhole (c ∷ cs) n → number_of_text (c ∷ cs) ≡ Ok (Millionths (pos (1000000 * n)))
plain_value c cs n h =
    let first : is_decimal_digit c ≡ true = (and_parts (is_decimal_digit c) (list_all is_decimal_digit cs) h.digits).0 in
    ap (λ (t : List ℕ). signed (without_last_spaces t)) (kept_first c cs first) ∙ ap signed (kept_last (c ∷ cs) h.digits)
    ∙ ap (λ (b : Bool). cond b (with (unsigned cs) negative) (unsigned (c ∷ cs))) (no_minus c first) ∙ unsigned_value (c ∷ cs) n (omega arith) h

minus_stays : (ds : List ℕ) → without_last_spaces (without_spaces (45 ∷ ds)) ≡ 45 ∷ without_last_spaces ds
unfolding is_space in_ranges
minus_stays ds = refl

minus_value : (ds : List ℕ) (n : ℕ) → 0 < length ds → HasWhole ds n → number_of_text (45 ∷ ds) ≡ Ok (Millionths (neg_ℤ (pos (1000000 * n))))
minus_value ds n l h =
    ap signed (minus_stays ds) ∙ ap (λ (t : List ℕ). signed (45 ∷ t)) (kept_last ds h.digits) ∙ ap (λ (a : Answer Number). with a negative) (unsigned_value ds n l h)

signed_value : (b : Bool) (ds : List ℕ) (n : ℕ) → 0 < length ds → HasWhole ds n → number_of_text (signed_digits b ds) ≡ Ok (Millionths (with_sign b (1000000 * n)))
signed_value true ds n l h = minus_value ds n l h
signed_value false [] n l h = absurd (omega (arith, l))
signed_value false (c ∷ cs) n l h = plain_value c cs n h

-- the bytes are the characters, and plain
low_digits : (ds : List ℕ) → list_all is_decimal_digit ds ≡ true → IsAscii ds
low_digits [] h = IsAscii-nil
low_digits (c ∷ cs) h =
    let p = and_parts (is_decimal_digit c) (list_all is_decimal_digit cs) h in
    IsAscii-cons c cs (digit_low c p.0) (low_digits cs p.1)

low_text : (b : Bool) (ds : List ℕ) → list_all is_decimal_digit ds ≡ true → IsAscii (signed_digits b ds)
low_text true ds h = IsAscii-cons 45 ds (omega arith) (low_digits ds h)
low_text false ds h = low_digits ds h

plain_digits : (ds : List ℕ) → list_all is_decimal_digit ds ≡ true → are_plain ds ≡ true
plain_digits [] h = refl
plain_digits (c ∷ cs) h =
    let p = and_parts (is_decimal_digit c) (list_all is_decimal_digit cs) h in
    and_from (not (c == 9 || c == 10 || c == 13 || c == 38)) (are_plain cs) (is_plain_digit c p.0) (plain_digits cs p.1)

plain_text : (b : Bool) (ds : List ℕ) → list_all is_decimal_digit ds ≡ true → are_plain (signed_digits b ds) ≡ true
plain_text true ds h = plain_digits ds h
plain_text false ds h = plain_digits ds h

pub found_plain : (text : List ℕ) (b : Bool) (ds : List ℕ) (n : ℕ) → text ≡ signed_digits b ds → HasWhole ds n → are_plain (chars text) ≡ true
found_plain text b ds n e h =
    ap (λ (l : List ℕ). are_plain (chars l)) e ∙ ap are_plain (chars-IsAscii (signed_digits b ds) (low_text b ds h.digits)) ∙ plain_text b ds h.digits

pub found_value : (text : List ℕ) (b : Bool) (ds : List ℕ) (n : ℕ) (z : ℤ) → text ≡ signed_digits b ds → 0 < length ds → HasWhole ds n → z ≡ with_sign b (1000000 * n) → number_of_text (chars text) ≡ Ok (Millionths z)
found_value text b ds n z e l h f =
    ap (λ (t : List ℕ). number_of_text (chars t)) e ∙ ap number_of_text (chars-IsAscii (signed_digits b ds) (low_text b ds h.digits)) ∙ signed_value b ds n l h
    ∙ ap (λ (x : ℤ). Ok (Millionths x)) (sym f)

-- ---- one digit after another

-- what is known after the first digits
pub record IsRead (t : List ℕ) (number : ℕ) (left : List ℕ) : Type 0 where
  pub few : length left ≤ 15
  pub small : number < 10 ^ (15 - length left)
  pub value : spelled number left ≡ spelled 0 t
  pub digits : list_all is_decimal_digit left ≡ true → list_all is_decimal_digit t ≡ true

pub read_none : (t : List ℕ) → length t ≤ 15 → IsRead t 0 t
read_none t l = record { few = l; small = one-le-pow (15 - length t) 10 (omega arith); value = refl; digits = λ h. h }

pub digit_range : (c : ℕ) → is_decimal_digit c ≡ true → (48 ≤ c) × (c ≤ 57)
digit_range c d =
    (ltb-false c 48 (other (λ x. nat_lt x 48) refl c d), ltb-false 57 c (other (λ x. nat_lt 57 x) refl c d))

pub read_one : (t : List ℕ) (number c : ℕ) (left : List ℕ) → IsRead t number (c ∷ left) → is_decimal_digit c ≡ true → IsRead t (10 * number + (c - 48)) left
read_one t number c left r d =
    let range = digit_range c d in
    let e : 15 - length left ≡ suc (15 - length (c ∷ left)) = omega (arith, r.few) in
    let p : 10 ^ (15 - length left) ≡ 10 * 10 ^ (15 - length (c ∷ left)) = ap (λ (k : ℕ). 10 ^ k) e ∙ pow-succ' 10 (15 - length (c ∷ left)) in
    record {
      few = omega (arith, r.few);
      small = omega (arith, r.small, range.0, range.1, p);
      value = r.value;
      digits = λ h. r.digits (and_from (is_decimal_digit c) (list_all is_decimal_digit left) d h);
    }

pub read_next : (t : List ℕ) (number c : ℕ) (left rest : List ℕ) → IsRead t number left → left ≡ c ∷ rest → is_decimal_digit c ≡ true → IsRead t (10 * number + (c - 48)) rest
read_next t number c left rest r e d = read_one t number c rest (subst (λ (l : List ℕ). IsRead t number l) e r) d

-- a number that has few digits so far is small
pub read_small : (t : List ℕ) (number : ℕ) (left : List ℕ) → IsRead t number left → number < 1000000000000000
read_small t number left r = omega (arith, r.small, pow-le-pow_right {n = 10} (omega arith) {i = 15 - length left} {j = 15} (omega arith))

pub read_all : (t : List ℕ) (number : ℕ) → IsRead t number [] → HasWhole t number
read_all t number r = record { digits = r.digits refl; value = r.value; small = r.small }
