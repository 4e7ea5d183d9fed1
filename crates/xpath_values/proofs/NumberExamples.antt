-- Numbers that compute: arithmetic, whole numbers, and numbers to text and back.
use Rattle.std.proofs.Common.{◌≡◌, Ok, Err, refl}
use Rattle.std.specs.Prelude.{pos, negsuc, codes}
use Rattle.std.specs.Fmt.{digits}
use Rattle.xml_model.specs.Chars.{is_space, in_ranges}
use Rattle.xpath_tokens.specs.declared.Operator.TheVariants.{Add, Multiply, Divide, Modulo}
use Rattle.xpath_values.specs.declared.Number.TheVariants.{Nan, Millionths}
use Rattle.xpath_values.specs.declared.ValueFault.TheVariants as fault
use Rattle.xpath_values.specs.Numbers.{arithmetic, floor, ceiling, round, number_of_text, text_of_number}

-- 0.1 + 0.2
tenths : arithmetic Add (Millionths (pos 100000)) (Millionths (pos 200000)) ≡ Ok (Millionths (pos 300000))
tenths = refl

-- 9007199254740991 + 1
beyond : arithmetic Add (Millionths (pos 9007199254740991000000)) (Millionths (pos 1000000)) ≡ Err fault.Range
beyond = refl

-- 5 div 2, 1 div 3, 0 div 0, 1 div 0
halves : arithmetic Divide (Millionths (pos 5000000)) (Millionths (pos 2000000)) ≡ Ok (Millionths (pos 2500000))
halves = refl

third : arithmetic Divide (Millionths (pos 1000000)) (Millionths (pos 3000000)) ≡ Err fault.Fraction
third = refl

nothing_by_nothing : arithmetic Divide (Millionths (pos 0)) (Millionths (pos 0)) ≡ Ok Nan
nothing_by_nothing = refl

by_nothing : arithmetic Divide (Millionths (pos 1000000)) (Millionths (pos 0)) ≡ Err fault.Infinite
by_nothing = refl

-- 0.001 * 0.001, 0.0001 * 0.001
finest : arithmetic Multiply (Millionths (pos 1000)) (Millionths (pos 1000)) ≡ Ok (Millionths (pos 1))
finest = refl

finer : arithmetic Multiply (Millionths (pos 100)) (Millionths (pos 1000)) ≡ Err fault.Fraction
finer = refl

-- -1.7 mod 0.5, -5 mod 2
left_of_tenths : arithmetic Modulo (Millionths (negsuc 1699999)) (Millionths (pos 500000)) ≡ Ok (Millionths (negsuc 199999))
left_of_tenths = refl

left_of_five : arithmetic Modulo (Millionths (negsuc 4999999)) (Millionths (pos 2000000)) ≡ Ok (Millionths (negsuc 999999))
left_of_five = refl

-- floor(-2.5), ceiling(-2.5), round(-2.5), round(2.5)
floor_below : floor (Millionths (negsuc 2499999)) ≡ Millionths (negsuc 2999999)
floor_below = refl

ceiling_above : ceiling (Millionths (negsuc 2499999)) ≡ Millionths (negsuc 1999999)
ceiling_above = refl

round_up : round (Millionths (negsuc 2499999)) ≡ Millionths (negsuc 1999999)
round_up = refl

round_to_three : round (Millionths (pos 2500000)) ≡ Millionths (pos 3000000)
round_to_three = refl

-- numbers of texts
half_below : number_of_text (codes " -.5 ") ≡ Ok (Millionths (negsuc 499999))
unfolding is_space in_ranges
half_below = refl

too_fine : number_of_text (codes "0.0000001") ≡ Err fault.Fraction
unfolding is_space in_ranges
too_fine = refl

point_last : number_of_text (codes "1.") ≡ Ok (Millionths (pos 1000000))
unfolding is_space in_ranges
point_last = refl

point_alone : number_of_text (codes ".") ≡ Ok Nan
unfolding is_space in_ranges
point_alone = refl

two_signs : number_of_text (codes "--1") ≡ Ok Nan
unfolding is_space in_ranges
two_signs = refl

plus_sign : number_of_text (codes "+1") ≡ Ok Nan
unfolding is_space in_ranges
plus_sign = refl

no_sign_of_nothing : number_of_text (codes "-0") ≡ Ok (Millionths (pos 0))
unfolding is_space in_ranges
no_sign_of_nothing = refl

-- texts of numbers
two_and_a_half : text_of_number (Millionths (pos 2500000)) ≡ codes "2.5"
unfolding digits
two_and_a_half = refl

one_millionth_below : text_of_number (Millionths (negsuc 0)) ≡ codes "-0.000001"
unfolding digits
one_millionth_below = refl

whole_text : text_of_number (Millionths (negsuc 2999999)) ≡ codes "-3"
unfolding digits
whole_text = refl
