-- What private functions promise: the number that digits write, where it is no more than one above the last code
-- point.
use Rattle.std.specs.Prelude.{ℕ, ◌+◌, ◌*◌, min, List, fold}
use Rattle.std.specs.Char.{digit_value}

abbrev pub capped_step : ℕ → ℕ → ℕ → ℕ
capped_step base n d = min (n * base + digit_value d) 0x11_0000

abbrev pub capped_from : ℕ → ℕ → List ℕ → ℕ
capped_from base n digits = fold (capped_step base) n digits
