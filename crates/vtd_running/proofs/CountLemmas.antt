-- The number of orders that a text asks for.
use Rattle.std.proofs.Common.{◌≡◌, ℕ, ◌<◌, ◌≤◌, ◌^◌, Bool, true, List, [], ◌∷◌, length, get_or, arith}
use Rattle.std.proofs.Common.{Some, None, Result, Ok, Err, sym, ap, ◌∙◌, ◌++◌, inl, inr, if◌then◌else◌}
use Rattle.std.proofs.lemmas.Bool.{cases_Bool}
use Rattle.std.proofs.lemmas.Bool.Decides.{nat_tests}
use Rattle.std.specs.Str.{all_ascii_digits}
use Rattle.std.specs.Str.Parse.{digits_value, ParsesUnsigned}
use Rattle.std.specs.Result.{OkIff, result_ok}
use Rattle.std.proofs.lemmas.Option.{same_Some, none-some}
use Rattle.std.proofs.lemmas.Str.Parse.{IsNumeralModel, numerals_by_value, tells_all_ascii_digits, parse_plain}
use lib.Utf8.{encode}
use Rattle.vtd_running.specs.Form.{count_of, is_count}

pub own : IsNumeralModel (λ ds. all_ascii_digits ds ≡ true) (digits_value 10)
own = numerals_by_value _ tells_all_ascii_digits

-- what makes a text a number of orders
pub record IsCount (text : List ℕ) : Type 0 where
  pub digits : all_ascii_digits text ≡ true
  pub some : 1 ≤ length text
  pub short : length text ≤ 7
  pub above : 1 ≤ digits_value 10 text
  pub below : digits_value 10 text ≤ 1_000_000

counted : (text : List ℕ) → is_count text ≡ true → IsCount text
counted text h = record {
  digits = grind (arith, nat_tests);
  some = grind (arith, nat_tests);
  short = grind (arith, nat_tests);
  above = grind (arith, nat_tests);
  below = grind (arith, nat_tests);
}

counts : (text : List ℕ) → IsCount text → is_count text ≡ true
counts text h = let digits = h.digits in
    let some = h.some in
    let short = h.short in
    let above = h.above in
    let below = h.below in
    grind (arith, nat_tests)

pub count_none : (text : List ℕ) → (IsCount text → ⊥) → count_of text ≡ None
count_none text h = elim (cases_Bool (is_count text)) [
  | inl e ↦ absurd (h (counted text e))
  | inr e ↦ ap (λ (b : Bool). if b then Some (digits_value 10 text) else None) e
]

pub count_some : (text : List ℕ) → IsCount text → count_of text ≡ Some (digits_value 10 text)
count_some text h = ap (λ (b : Bool). if b then Some (digits_value 10 text) else None) (counts text h)

-- ---- by what `parse` reads

not_plus : (text : List ℕ) → ((rest : List ℕ) → text ≡ encode 43 ++ rest → ⊥) → get_or text 0 0 ≡ 43 → ⊥
unfolding encode
not_plus [] h e = omega (arith, e)
not_plus (x ∷ xs) h e = h xs (ap (λ (c : ℕ). c ∷ xs) e)

-- the digits of a text, and their number
pub record IsNumber (text : List ℕ) (n : ℕ) : Type 0 where
  pub digits : all_ascii_digits text ≡ true
  pub some : 1 ≤ length text
  pub value : n ≡ digits_value 10 text

pub number_read : {E : Type 0} (text : List ℕ) (r : Result ℕ E) (n : ℕ) → ParsesUnsigned 32 10 text r → ((rest : List ℕ) → text ≡ encode 43 ++ rest → ⊥)
    → Some n ≡ result_ok r → IsNumber text n
number_read {E} text (Ok x) n h p e =
    let o : OkIff {E = E} (Ok x) ((all_ascii_digits text ≡ true) × (0 < length text) × (digits_value 10 text < 2 ^ 32)) (digits_value 10 text) =
    parse_plain own {E = E} 32 text (Ok x) h (λ f. not_plus text p f) in
    record { digits = o.0.0; some = omega (arith, o.0.1); value = same_Some n x e ∙ o.1 }
number_read text (Err x) n h p e = absurd (none-some n (sym e))

pub no_number : {E : Type 0} (text : List ℕ) (r : Result ℕ E) → ParsesUnsigned 32 10 text r → ((rest : List ℕ) → text ≡ encode 43 ++ rest → ⊥)
    → None ≡ result_ok r → count_of text ≡ None
no_number text (Ok x) h p e = absurd (none-some x e)
no_number {E} text (Err x) h p e =
    let o : OkIff {E = E} (Err x) ((all_ascii_digits text ≡ true) × (0 < length text) × (digits_value 10 text < 2 ^ 32)) (digits_value 10 text) =
    parse_plain own {E = E} 32 text (Err x) h (λ f. not_plus text p f) in
    count_none text (λ k. o (k.digits, omega (arith, k.some), omega (arith, k.below)))

pub number_kept : (text : List ℕ) (n : ℕ) → IsNumber text n → length text ≤ 7 → 1 ≤ n → n ≤ 1_000_000 → Some n ≡ count_of text
number_kept text n h l a b =
    let v = h.value in
    ap (λ (x : ℕ). Some x) v
    ∙ sym (count_some text (record { digits = h.digits; some = h.some; short = l; above = omega arith; below = omega arith }))

pub number_dropped : (text : List ℕ) (n : ℕ) → IsNumber text n → (1 ≤ n → n ≤ 1_000_000 → ⊥) → None ≡ count_of text
number_dropped text n h d =
    let v = h.value in
    sym (count_none text (λ k. let a = k.above in
    let b = k.below in
    d (omega arith) (omega arith)))
