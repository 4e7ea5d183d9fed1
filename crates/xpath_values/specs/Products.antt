-- A product as it is formed: by magnitudes, then the sign.
use Rattle.std.specs.Prelude.{ℕ, ℤ, pos, neg_ℤ, ◌/◌, ◌%◌, ◌==◌, Bool, true, false, cond, not, nat_le}
use Rattle.std.specs.Prelude.{Ok, Err}
use Rattle.xpath_tokens.specs.Numbers.{greatest}
use Rattle.xpath_values.specs.declared.ValueFault.TheVariants as fault
use Rattle.xpath_values.specs.Answers.{Answer}
use Rattle.xpath_values.specs.Numbers.{one}

-- n over a million, where it is whole and in range
abbrev pub magnitude : ℕ → Answer ℕ
magnitude n =
    cond (n % one == 0) (cond (nat_le (n / one) greatest) (Ok (n / one)) (Err fault.Range)) (Err fault.Fraction)

-- a magnitude with a sign
abbrev pub with_sign : Bool → ℕ → ℤ
with_sign true n = neg_ℤ (pos n)
with_sign false n = pos n

abbrev pub differ : Bool → Bool → Bool
differ true b = not b
differ false b = b
