-- The number of a text is in range.
use Rattle.std.proofs.Common.{◌≡◌, ℕ, zero, suc, ◌≤◌, Bool, true, false, cond, List, [], ◌∷◌, Ok, Err, refl}
use Rattle.std.specs.Prelude.{ℤ, pos, negsuc, neg_ℤ, nat_abs, nat_lt, Result, IfOk, ◌==◌}
use Rattle.std.proofs.lemmas.Bool.{ltb-false}
use Rattle.xpath_tokens.specs.declared.numbers.NumberFault.{NumberFault}
use Rattle.xpath_tokens.specs.declared.numbers.NumberFault.TheVariants as spelling
use Rattle.xpath_tokens.specs.Numbers.{greatest, is_finer, millionths, number_value}
use Rattle.xpath_values.specs.declared.Number.{Number}
use Rattle.xpath_values.specs.declared.Number.TheVariants.{Nan, Millionths}
use Rattle.xpath_values.specs.Answers.{Answer, with}
use Rattle.xpath_values.specs.Numbers.{IsNumber, is_number, negative, number_held, number_of_text, signed, unsigned, without_last_spaces, without_spaces}

value_fits : (t : List ℕ) → IfOk (number_value t) (λ n. n ≤ greatest)
value_fits t = this (is_finer t) (nat_lt greatest (millionths t)) refl
  where
    this : (b d : Bool) → nat_lt greatest (millionths t) ≡ d → IfOk (cond b (Err spelling.Fraction) (cond d (Err spelling.Range) (Ok (millionths t))))
        (λ n. n ≤ greatest)
    this true d h = tt
    this false true h = tt
    this false false h = ltb-false greatest (millionths t) h

held_fits : (r : Result ℕ NumberFault) → IfOk r (λ n. n ≤ greatest) → IfOk (number_held r) IsNumber
held_fits (Ok n) h = h
held_fits (Err spelling.Fraction) h = tt
held_fits (Err spelling.Range) h = tt

unsigned_fits : (t : List ℕ) → IfOk (unsigned t) IsNumber
unsigned_fits t = this (is_number t)
  where
    this : (b : Bool) → IfOk (cond b (number_held (number_value t)) (Ok Nan)) IsNumber
    this true = held_fits (number_value t) (value_fits t)
    this false = tt

opposite_fits : (z : ℤ) → nat_abs z ≤ greatest → nat_abs (neg_ℤ z) ≤ greatest
opposite_fits (pos zero) h = h
opposite_fits (pos (suc n)) h = h
opposite_fits (negsuc n) h = h

negative_fits : (x : Number) → IsNumber x → IsNumber (negative x)
negative_fits Nan h = tt
negative_fits (Millionths z) h = opposite_fits z h

with_minus_fits : (r : Answer Number) → IfOk r IsNumber → IfOk (with r negative) IsNumber
with_minus_fits (Ok x) h = negative_fits x h
with_minus_fits (Err e) h = tt

signed_fits : (t : List ℕ) → IfOk (signed t) IsNumber
signed_fits [] = tt
signed_fits (c ∷ cs) = this (c == 45)
  where
    this : (b : Bool) → IfOk (cond b (with (unsigned cs) negative) (unsigned (c ∷ cs))) IsNumber
    this true = with_minus_fits (unsigned cs) (unsigned_fits cs)
    this false = unsigned_fits (c ∷ cs)

pub number_fits : (t : List ℕ) → IfOk (number_of_text t) IsNumber
number_fits t = signed_fits (without_last_spaces (without_spaces t))
