-- A sum step by step.
use Rattle.std.specs.Prelude.{false, cond, ◌||◌, Ok}
use Rattle.xpath_values.specs.declared.Number.{Number}
use Rattle.xpath_values.specs.declared.Number.TheVariants.{Nan}
use Rattle.xpath_values.specs.declared.sums.Sum.{Sum}
use Rattle.xpath_values.specs.Answers.{Answer}
use Rattle.xpath_values.specs.Numbers.{counted, is_nan, plus}

-- before the first number
abbrev pub sum_start : Sum
sum_start = record { nan = false; total = Ok (counted 0) }

-- with one more number
abbrev pub sum_next : Sum → Number → Sum
sum_next s x = record { nan = s.nan || is_nan x; total = plus s.total x }

-- after the last
abbrev pub sum_value : Sum → Answer Number
sum_value s = cond s.nan (Ok Nan) s.total
