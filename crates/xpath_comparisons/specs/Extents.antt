-- What a comparison by order needs to know of numbers: the least and the greatest of those that are not NaN.
use Rattle.std.specs.Prelude.{Bool, cond, List, fold}
use Rattle.std.specs.Int.RustNames.{int_le}
use Rattle.xpath_tokens.specs.declared.Comparison.{Comparison}
use Rattle.xpath_tokens.specs.declared.Comparison.TheVariants.{Less, AtMost}
use Rattle.xpath_values.specs.declared.Number.{Number}
use Rattle.xpath_values.specs.declared.Number.TheVariants.{Nan, Millionths}
use Rattle.xpath_values.specs.Numbers.{compare_numbers}
use Rattle.xpath_comparisons.specs.declared.extents.Extent.{Extent}

-- the lesser of two numbers; of NaN and another one the other
abbrev pub lesser : Number → Number → Number
lesser Nan y = y
lesser (Millionths a) Nan = Millionths a
lesser (Millionths a) (Millionths b) = cond (int_le a b) (Millionths a) (Millionths b)

abbrev pub greater : Number → Number → Number
greater Nan y = y
greater (Millionths a) Nan = Millionths a
greater (Millionths a) (Millionths b) = cond (int_le a b) (Millionths b) (Millionths a)

-- of no numbers
abbrev pub no_extent : Extent
no_extent = record { least = Nan; greatest = Nan }

-- with one more number
abbrev pub extended : Extent → Number → Extent
extended e x = record { least = lesser e.least x; greatest = greater e.greatest x }

abbrev pub extent_of : List Number → Extent
extent_of xs = fold extended no_extent xs

-- whether some number of the one compares so with some of the other, for a comparison by order
abbrev pub compare_extents : Comparison → Extent → Extent → Bool
compare_extents Less a b = compare_numbers Less a.least b.greatest
compare_extents AtMost a b = compare_numbers AtMost a.least b.greatest
compare_extents how a b = compare_numbers how a.greatest b.least
