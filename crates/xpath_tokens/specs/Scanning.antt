-- How a number's spelling is read from its first character on.
use Rattle.std.specs.Prelude.{ℕ, ◌+◌, ◌*◌, ◌-◌, ◌/◌, ◌==◌, cond, not, ◌&&◌, ◌||◌, nat_lt, false, Option, Some, None}
use Rattle.std.specs.Prelude.{Result, Ok, Err}
use Rattle.xpath_tokens.specs.declared.numbers.NumberFault.{NumberFault}
use Rattle.xpath_tokens.specs.declared.numbers.NumberFault.TheVariants.{Fraction, Range}
use Rattle.xpath_tokens.specs.declared.numbers.NumberScan.{NumberScan}
use Rattle.xpath_tokens.specs.Numbers.{greatest}

abbrev pub scan_start : NumberScan
scan_start = record { value = 0; unit = None; finer = false }

-- a value, or another where it is not above the greatest
abbrev pub grown : ℕ → ℕ → ℕ
grown v w = cond (nat_lt greatest v) v w

-- one more character, before the point and after it
abbrev pub scan_by : Option ℕ → NumberScan → ℕ → NumberScan
scan_by None s c =
    cond (c == 46)
    (record { value = s.value; unit = Some 100000; finer = s.finer })
    (record { value = grown s.value (10 * s.value + 1000000 * (c - 48)); unit = None; finer = s.finer })
scan_by (Some u) s c = record {
  value = grown s.value (s.value + u * (c - 48));
  unit = Some (u / 10);
  finer = s.finer || (u == 0 && not (c == 48));
}

abbrev pub scan_next : NumberScan → ℕ → NumberScan
scan_next s c = scan_by s.unit s c

-- what is known at the end
abbrev pub scan_value : NumberScan → Result ℕ NumberFault
scan_value s = cond s.finer (Err Fraction) (cond (nat_lt greatest s.value) (Err Range) (Ok s.value))
