-- The number of a reference, with a cap above the last code point.
use Rattle.std.proofs.Common.{◌≡◌, ℕ, zero, suc, ◌+◌, ◌*◌, ◌<◌, ◌≤◌, Bool, true, false, ◌⊎◌, inl, inr, List, [], ◌∷◌, take, drop, Some, None, refl, sym, ap, ◌∙◌, arith}
use Rattle.std.specs.Prelude.{min, fold}
use Rattle.std.specs.Char.{is_digit, digit_value}
use Rattle.std.specs.List.{prefix_len, list_all}
use Rattle.std.specs.Str.{chars, IsAscii}
use Rattle.std.proofs.lemmas.Bool.{cases_lt, le-ltb, ltb-true, and_parts, and_from, false≢true, false_from_ne_true, and_right}
use Rattle.std.proofs.lemmas.Nat.{mul-le}
use Rattle.std.proofs.lemmas.Option.{same_Some}
use Rattle.std.proofs.lemmas.Str.{chars-IsAscii}
use Rattle.std.specs.Char.{OutOfScalarRange}
use Rattle.xml_model.specs.Chars.{is_char, in_ranges}
use Rattle.xml_model.specs.Items.{number_of, is_number}
use Rattle.xml_chars.specs.Numbers.{capped_from}
use Rattle.xml_chars.specs.Readers.{run, mapped}
use Rattle.xml_chars.specs.Reading.{read_digits}
use Rattle.xml_chars.proofs.Ranges.{in_range, in_none}

-- ---- digits are ASCII

pub digit_low : (base : ℕ) → base ≤ 36 → (c : ℕ) → is_digit c base ≡ true → c < 128
digit_low base le c h = elim (cases_lt c 128) [
  | inl lt ↦ lt
  | inr ge ↦
      let e : digit_value c ≡ 36 = rw (le-ltb c 48 (omega arith), le-ltb c 58 (omega arith), le-ltb c 65 (omega arith), le-ltb c 91 (omega arith), le-ltb c 97 (omega arith), le-ltb c 123 (omega arith)) refl in
      absurd (omega (arith, ltb-true (digit_value c) base h))
]

pub all_ascii : (p : ℕ → Bool) → ((c : ℕ) → p c ≡ true → c < 128) → (bs : List ℕ) → list_all p bs ≡ true → IsAscii bs
all_ascii p low [] h i = omega arith
all_ascii p low (b ∷ bs) h zero = low b (and_parts (p b) (list_all p bs) h).0
all_ascii p low (b ∷ bs) h (suc i) = all_ascii p low bs (and_parts (p b) (list_all p bs) h).1 i

pub ascii_chars : (p : ℕ → Bool) → ((c : ℕ) → p c ≡ true → c < 128) → (bs : List ℕ) → list_all p bs ≡ true → chars bs ≡ bs
ascii_chars p low bs h = chars-IsAscii bs (all_ascii p low bs h)

-- ---- the cap

grows : (n base : ℕ) → 2 ≤ base → n ≤ n * base
grows n base h = omega (arith, mul-le n 1 n base (omega arith) (omega arith))

step_capped : (base n k v : ℕ) → 2 ≤ base → k ≡ min n 0x11_0000 → min (k * base + v) 0x11_0000 ≡ min (n * base + v) 0x11_0000
step_capped base n k v h e = elim (cases_lt n 0x11_0000) [
  | inl lt ↦ let same : k ≡ n = omega arith in ap (λ (x : ℕ). min (x * base + v) 0x11_0000) same
  | inr ge ↦
      let top : k ≡ 0x11_0000 = omega arith in
      let one : 0x11_0000 ≤ k * base + v = omega (arith, grows k base h) in
      let two : 0x11_0000 ≤ n * base + v = omega (arith, grows n base h) in
      omega arith
]

pub capped : (base : ℕ) → 2 ≤ base → (digits : List ℕ) (n k : ℕ) → k ≡ min n 0x11_0000 → capped_from base k digits ≡ min (fold (λ n d. n * base + digit_value d) n digits) 0x11_0000
capped base h [] n k e = e
capped base h (d ∷ digits) n k e = capped base h digits (n * base + digit_value d) (min (k * base + digit_value d) 0x11_0000) (step_capped base n k (digit_value d) h e)

pub number_capped : (base : ℕ) → 2 ≤ base → (digits : List ℕ) → capped_from base 0 digits ≡ min (number_of base digits) 0x11_0000
number_capped base h digits = capped base h digits 0 0 (omega arith)

pub char_top : (c : ℕ) → is_char c ≡ true → c ≤ 0x10_FFFF
unfolding is_char
char_top c h = elim (in_range 0x9 0xA c _ h) [
  | inl q ↦ omega arith
  | inr h ↦ elim (in_range 0xD 0xD c _ h) [
    | inl q ↦ omega arith
    | inr h ↦ elim (in_range 0x20 0xD7FF c _ h) [
      | inl q ↦ omega arith
      | inr h ↦ elim (in_range 0xE000 0xFFFD c _ h) [
        | inl q ↦ omega arith
        | inr h ↦ elim (in_range 0x1_0000 0x10_FFFF c _ h) [ inl q ↦ q.1 | inr h ↦ absurd (in_none c h) ]
      ]
    ]
  ]
]

pub char_scalar : (c : ℕ) → is_char c ≡ true → (c < 0xD800) ⊎ (0xE000 ≤ c)
unfolding is_char
char_scalar c h = elim (in_range 0x9 0xA c _ h) [
  | inl q ↦ inl (omega arith)
  | inr h ↦ elim (in_range 0xD 0xD c _ h) [
    | inl q ↦ inl (omega arith)
    | inr h ↦ elim (in_range 0x20 0xD7FF c _ h) [
      | inl q ↦ inl (omega arith)
      | inr h ↦ elim (in_range 0xE000 0xFFFD c _ h) [
        | inl q ↦ inr q.0
        | inr h ↦ elim (in_range 0x1_0000 0x10_FFFF c _ h) [ inl q ↦ inr (omega arith) | inr h ↦ absurd (in_none c h) ]
      ]
    ]
  ]
]

pub char_not : (c : ℕ) → OutOfScalarRange c → is_char c ≡ false
char_not c out = false_from_ne_true _ (λ t. elim (char_scalar c t) [
  | inl low ↦ elim out [ inl q ↦ omega (arith, q.0) | inr q ↦ omega arith ]
  | inr high ↦ elim out [ inl q ↦ omega (arith, q.1) | inr q ↦ omega (arith, char_top c t) ]
])

char_zero : is_char 0 ≡ false
unfolding is_char in_ranges
char_zero = refl

-- a Char by its number, capped
pub capped_yes : (n k : ℕ) → k ≡ min n 0x11_0000 → is_char k ≡ true → n ≡ k
capped_yes n k e h = omega (arith, char_top k h)

pub capped_no : (n k : ℕ) → k ≡ min n 0x11_0000 → is_char k ≡ false → is_char n ≡ false
capped_no n k e h = false_from_ne_true _ (λ t. let same : k ≡ n = omega (arith, char_top n t) in false≢true (sym h ∙ ap is_char same ∙ t))

number_yes : (base : ℕ) (digits : List ℕ) → list_all (λ c. is_digit c base) digits ≡ true → is_char (number_of base digits) ≡ true → is_number base digits ≡ true
number_yes base [] h e = absurd (false≢true (sym char_zero ∙ e))
number_yes base (d ∷ digits) h e = and_from _ _ h e

number_no : (base : ℕ) (digits : List ℕ) → is_char (number_of base digits) ≡ false → is_number base digits ≡ false
number_no base [] e = refl
number_no base (d ∷ digits) e = and_right _ _ e

pub digits_yes : (base : ℕ) → 2 ≤ base → (text digits rest : List ℕ) (k : ℕ) → run (λ c. is_digit c base) text ≡ Some (digits, rest) → list_all (λ c. is_digit c base) digits ≡ true → k ≡ capped_from base 0 digits → is_char k ≡ true
    → mapped (number_of base) (read_digits base) text ≡ Some (k, rest)
unfolding read_digits
digits_yes base low text digits rest k e all is h =
    let n = prefix_len (λ c. is_digit c base) text in
    let same = same_Some (take n text, drop n text) (digits, rest) e in
    let prefix : take n text ≡ digits = ap (λ (z : List ℕ × List ℕ). z.0) same in
    let back : drop n text ≡ rest = ap (λ (z : List ℕ × List ℕ). z.1) same in
    let m : k ≡ min (number_of base digits) 0x11_0000 = is ∙ number_capped base low digits in
    let value : number_of base digits ≡ k = capped_yes (number_of base digits) k m h in
    let yes : is_number base (take n text) ≡ true = ap (is_number base) prefix ∙ number_yes base digits all (ap is_char value ∙ h) in
    let number : number_of base (take n text) ≡ k = ap (number_of base) prefix ∙ value in
    rw yes (rw (number, back) refl)

pub digits_no : (base : ℕ) → 2 ≤ base → (text digits rest : List ℕ) (k : ℕ) → run (λ c. is_digit c base) text ≡ Some (digits, rest) → k ≡ capped_from base 0 digits → is_char k ≡ false
    → mapped (number_of base) (read_digits base) text ≡ None
unfolding read_digits
digits_no base low text digits rest k e is h =
    let n = prefix_len (λ c. is_digit c base) text in
    let same = same_Some (take n text, drop n text) (digits, rest) e in
    let prefix : take n text ≡ digits = ap (λ (z : List ℕ × List ℕ). z.0) same in
    let m : k ≡ min (number_of base digits) 0x11_0000 = is ∙ number_capped base low digits in
    let no : is_number base (take n text) ≡ false = ap (is_number base) prefix ∙ number_no base digits (capped_no (number_of base digits) k m h) in
    rw no refl
