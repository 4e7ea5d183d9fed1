-- Quotients of millionths: what is whole and in range.
use Rattle.std.proofs.Common.{◌≡◌, ℕ, zero, suc, ◌*◌, ◌/◌, ◌%◌, ◌≤◌, false, cond, refl, sym, ◌∙◌, ap, subst, arith}
use Rattle.std.proofs.Common.{Ok, Err}
use Rattle.std.specs.Prelude.{ℤ, pos, negsuc, neg_ℤ, ◌*ℤ◌, nat_abs}
use Rattle.std.specs.Int.RustNames.{int_div, int_rem}
use Rattle.std.proofs.lemmas.Bool.{ne_eqb}
use Rattle.std.proofs.lemmas.Int.{fits_signed_from_abs}
use native.Mathlib.Nat.{div-le_self, mod-le}
use mir.Syntax.{w128}
use mir.Val.{SFits}
use Rattle.xpath_tokens.specs.Numbers.{greatest}
use Rattle.xpath_values.specs.declared.Number.{Number}
use Rattle.xpath_values.specs.declared.Number.TheVariants.{Nan}
use Rattle.xpath_values.specs.declared.ValueFault.TheVariants as fault
use Rattle.xpath_values.specs.Answers.{Answer}
use Rattle.xpath_values.specs.Numbers.{one, is_zero, in_range, exactly, quotient}

abs_negative : (n : ℕ) → nat_abs (neg_ℤ (pos n)) ≡ n
abs_negative zero = refl
abs_negative (suc n) = refl

negative_le : (n m : ℕ) → n ≤ m → nat_abs (neg_ℤ (pos n)) ≤ m
negative_le n m h = let P : ℕ → Type 0 = λ k. k ≤ m in subst P (sym (abs_negative n)) h

quotient_le : (z y : ℤ) → nat_abs (int_div z y) ≤ nat_abs z
quotient_le (pos a) (pos b) = div-le_self a b
quotient_le (pos a) (negsuc b) = negative_le (a / suc b) a (div-le_self a (suc b))
quotient_le (negsuc a) (pos b) = negative_le (suc a / b) (suc a) (div-le_self (suc a) b)
quotient_le (negsuc a) (negsuc b) = div-le_self (suc a) (suc b)

pub remainder_le : (z y : ℤ) → nat_abs (int_rem z y) ≤ nat_abs z
remainder_le (pos a) y = mod-le a (nat_abs y)
remainder_le (negsuc a) y = negative_le (suc a % nat_abs y) (suc a) (mod-le (suc a) (nat_abs y))

pub quotient_fits : (z y : ℤ) → nat_abs z ≤ one * greatest → SFits w128 (int_div z y)
quotient_fits z y h = let k = quotient_le z y in fits_signed_from_abs w128 (int_div z y) (omega arith)

pub remainder_fits : (z y : ℤ) → nat_abs z ≤ one * greatest → SFits w128 (int_rem z y)
remainder_fits z y h = let k = remainder_le z y in fits_signed_from_abs w128 (int_rem z y) (omega arith)

pub exactly_ok : (z y : ℤ) (v : Answer Number) → int_rem z y ≡ pos 0 → v ≡ in_range (int_div z y) → v ≡ exactly z y
exactly_ok z y v m e = e ∙ sym (ap (λ k. cond (is_zero k) (in_range (int_div z y)) (Err fault.Fraction)) m)

not_zero : (y : ℤ) → (y ≡ pos 0 → ⊥) → is_zero y ≡ false
not_zero (pos zero) h = absurd (h refl)
not_zero (pos (suc n)) h = ne_eqb (suc n) 0 (λ z. omega (arith, z))
not_zero (negsuc n) h = ne_eqb (suc n) 0 (λ z. omega (arith, z))

pub quotient_ok : (x y z : ℤ) (v : Answer Number) → (y ≡ pos 0 → ⊥) → z ≡ pos one *ℤ x → v ≡ exactly z y → v ≡ quotient x y
quotient_ok x y z v h d e =
    e ∙ ap (λ k. exactly k y) d
    ∙ sym (ap (λ b. cond b (cond (is_zero x) (Ok Nan) (Err fault.Infinite)) (exactly (pos one *ℤ x) y)) (not_zero y h))
