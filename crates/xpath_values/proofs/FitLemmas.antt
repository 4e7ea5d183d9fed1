-- What arithmetic gives is in range.
use Rattle.std.proofs.Common.{◌≡◌, ◌≤◌, Bool, true, false, cond, Ok, Err, refl, sym, subst, arith}
use Rattle.std.specs.Prelude.{ℤ, pos, ◌+ℤ◌, ◌-ℤ◌, ◌*ℤ◌, nat_abs, nat_le, IfOk}
use Rattle.std.specs.Int.RustNames.{int_div, int_rem}
use Rattle.std.proofs.lemmas.Bool.{leb-true}
use Rattle.xpath_tokens.specs.Numbers.{greatest}
use Rattle.xpath_tokens.specs.declared.Operator.{Operator}
use Rattle.xpath_tokens.specs.declared.Operator.TheVariants.{Add, Subtract, Multiply, Divide, Modulo}
use Rattle.xpath_values.specs.declared.Number.{Number}
use Rattle.xpath_values.specs.declared.Number.TheVariants.{Nan, Millionths}
use Rattle.xpath_values.specs.declared.ValueFault.TheVariants as fault
use Rattle.xpath_values.specs.Answers.{Answer}
use Rattle.xpath_values.specs.Numbers.{IsNumber, one, is_zero, in_range, exactly, quotient, remainder, operate, arithmetic}
use Rattle.xpath_values.proofs.QuotientLemmas.{remainder_le}

abbrev Fits : Answer Number → Type 0
Fits r = IfOk r IsNumber

in_range_fits : (z : ℤ) → Fits (in_range z)
in_range_fits z = this (nat_le (nat_abs z) greatest) refl
  where
    this : (b : Bool) → nat_le (nat_abs z) greatest ≡ b → Fits (cond b (Ok (Millionths z)) (Err fault.Range))
    this true e = leb-true (nat_abs z) greatest e
    this false e = tt

exactly_number : (z y : ℤ) → Fits (exactly z y)
exactly_number z y = this (is_zero (int_rem z y))
  where
    this : (b : Bool) → Fits (cond b (in_range (int_div z y)) (Err fault.Fraction))
    this true = in_range_fits (int_div z y)
    this false = tt

quotient_number : (x y : ℤ) → Fits (quotient x y)
quotient_number x y = this (is_zero y) (is_zero x)
  where
    this : (b d : Bool) → Fits (cond b (cond d (Ok Nan) (Err fault.Infinite)) (exactly (pos one *ℤ x) y))
    this true true = tt
    this true false = tt
    this false d = exactly_number (pos one *ℤ x) y

remainder_number : (x y : ℤ) → nat_abs x ≤ greatest → Fits (remainder x y)
remainder_number x y h = this (is_zero y)
  where
    this : (b : Bool) → Fits (cond b (Ok Nan) (Ok (Millionths (int_rem x y))))
    this true = tt
    this false = let k = remainder_le x y in let g : nat_abs (int_rem x y) ≤ greatest = omega arith in g

operate_fits : (how : Operator) (x y : ℤ) → nat_abs x ≤ greatest → Fits (operate how x y)
operate_fits Add x y h = in_range_fits (x +ℤ y)
operate_fits Subtract x y h = in_range_fits (x -ℤ y)
operate_fits Multiply x y h = exactly_number (x *ℤ y) (pos one)
operate_fits Divide x y h = quotient_number x y
operate_fits Modulo x y h = remainder_number x y h

combined : (how : Operator) (x y : Number) → IsNumber x → Fits (arithmetic how x y)
combined how (Millionths x) (Millionths y) h = operate_fits how x y h
combined how (Millionths x) Nan h = tt
combined how Nan (Millionths y) h = tt
combined how Nan Nan h = tt

pub arithmetic_fits : (how : Operator) (x y : Number) (r : Answer Number) → IsNumber x → IsNumber y → r ≡ arithmetic how x y → IfOk r IsNumber
arithmetic_fits how x y r h k e = subst Fits (sym e) (combined how x y h)
