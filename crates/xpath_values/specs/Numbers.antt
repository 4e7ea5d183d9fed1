-- Numbers: XPath 1.0, sections 3.4, 3.5, 4.2, 4.3 and 4.4, over whole numbers of millionths in place of floating point.
-- That a number is held in millionths is known here alone.
use Rattle.std.specs.Prelude.{ℕ, suc, ℤ, pos, negsuc, ◌+ℤ◌, ◌-ℤ◌, ◌*ℤ◌, neg_ℤ, nat_abs, ◌+◌, ◌*◌, ◌/◌, ◌%◌, ◌≤◌}
use Rattle.std.specs.Prelude.{Bool, true, false, cond, not, ◌&&◌, ◌==◌, nat_le, List, [], ◌∷◌, ◌++◌, codes, map}
use Rattle.std.specs.Prelude.{Result, Ok, Err}
use Rattle.std.specs.List.{list_all, list_any}
use Rattle.std.specs.Int.{int_rem_euclid}
use Rattle.std.specs.Int.RustNames.{int_lt, int_le, int_div, int_rem}
use Rattle.std.specs.Fmt.{decimal}
use Rattle.xml_model.specs.Chars.{is_space}
use Rattle.xpath_tokens.specs.declared.Comparison.{Comparison}
use Rattle.xpath_tokens.specs.declared.Comparison.TheVariants.{Equal, Unequal, Less, Greater, AtMost, AtLeast}
use Rattle.xpath_tokens.specs.declared.Operator.{Operator}
use Rattle.xpath_tokens.specs.declared.Operator.TheVariants.{Add, Subtract, Multiply, Divide, Modulo}
use Rattle.xpath_tokens.specs.declared.numbers.NumberFault.{NumberFault}
use Rattle.xpath_tokens.specs.declared.numbers.NumberFault.TheVariants as spelling
use Rattle.xpath_tokens.specs.Numbers.{greatest, number_value}
use Rattle.xpath_tokens.specs.Tokens.{is_decimal_digit, are_digits}
use Rattle.xpath_values.specs.declared.Number.{Number}
use Rattle.xpath_values.specs.declared.Number.TheVariants.{Nan, Millionths}
use Rattle.xpath_values.specs.declared.ValueFault.TheVariants as fault
use Rattle.xpath_values.specs.Answers.{Answer, with}

-- how many millionths make 1
abbrev pub one : ℕ
one = 1000000

-- NaN, or a number whose absolute value is at most the greatest
abbrev pub IsNumber : Number → Type 0
IsNumber Nan = Unit {0}
IsNumber (Millionths z) = nat_abs z ≤ greatest

-- a whole number of millionths, where it is in range
abbrev pub in_range : ℤ → Answer Number
in_range z = cond (nat_le (nat_abs z) greatest) (Ok (Millionths z)) (Err fault.Range)

-- the number that counts something
abbrev pub counted : ℕ → Number
counted n = Millionths (pos (one * n))

abbrev pub is_nan : Number → Bool
is_nan Nan = true
is_nan (Millionths z) = false

-- Arithmetic: XPath 1.0, section 3.5.

abbrev pub is_zero : ℤ → Bool
is_zero z = nat_abs z == 0

-- z over y, for y not 0: Fraction where it is not whole, and else Range where it is out of range
abbrev pub exactly : ℤ → ℤ → Answer Number
exactly z y = cond (is_zero (int_rem z y)) (in_range (int_div z y)) (Err fault.Fraction)

-- x * y: the product of two counts of millionths has that many millionths of millionths
abbrev pub product : ℤ → ℤ → Answer Number
product x y = exactly (x *ℤ y) (pos one)

-- x div y: infinite, or not a number, where y is 0
abbrev pub quotient : ℤ → ℤ → Answer Number
quotient x y =
    cond (is_zero y) (cond (is_zero x) (Ok Nan) (Err fault.Infinite)) (exactly (pos one *ℤ x) y)

-- x mod y: what is left of x after taking y as often as the quotient cut towards zero says, with the sign of x
abbrev pub remainder : ℤ → ℤ → Answer Number
remainder x y = cond (is_zero y) (Ok Nan) (Ok (Millionths (int_rem x y)))

abbrev pub operate : Operator → ℤ → ℤ → Answer Number
operate Add x y = in_range (x +ℤ y)
operate Subtract x y = in_range (x -ℤ y)
operate Multiply x y = product x y
operate Divide x y = quotient x y
operate Modulo x y = remainder x y

-- with NaN it is NaN
abbrev pub arithmetic : Operator → Number → Number → Answer Number
arithmetic how (Millionths x) (Millionths y) = operate how x y
arithmetic how x y = Ok Nan

-- -x
abbrev pub negative : Number → Number
negative Nan = Nan
negative (Millionths z) = Millionths (neg_ℤ z)

-- Whole numbers: XPath 1.0, section 4.4.

-- the greatest whole number that is not above
abbrev pub whole_below : ℤ → ℤ
whole_below z = z -ℤ int_rem_euclid z (pos one)

-- the least whole number that is not below
abbrev pub whole_above : ℤ → ℤ
whole_above z = neg_ℤ (whole_below (neg_ℤ z))

-- the nearest whole number, of two the greater: the greatest that is not above a half more
abbrev pub nearest : ℤ → ℤ
nearest z = whole_below (z +ℤ pos 500000)

abbrev pub by_millionths : (ℤ → ℤ) → Number → Number
by_millionths f Nan = Nan
by_millionths f (Millionths z) = Millionths (f z)

abbrev pub floor : Number → Number
floor x = by_millionths whole_below x

abbrev pub ceiling : Number → Number
ceiling x = by_millionths whole_above x

abbrev pub round : Number → Number
round x = by_millionths nearest x

-- Sums: XPath 1.0, section 4.4.

-- a number added to what is there so far
abbrev pub plus : Answer Number → Number → Answer Number
plus (Ok total) x = arithmetic Add total x
plus (Err e) x = Err e

-- numbers added from the left
abbrev pub add_all : Answer Number → List Number → Answer Number
add_all total [] = total
add_all total (x ∷ xs) = add_all (plus total x) xs

-- NaN if one is NaN, else the numbers added from the left
abbrev pub sum_of : List Number → Answer Number
sum_of xs = cond (list_any is_nan xs) (Ok Nan) (add_all (Ok (counted 0)) xs)

-- Comparisons: XPath 1.0, section 3.4.

abbrev pub compare_millionths : Comparison → ℤ → ℤ → Bool
compare_millionths Equal x y = int_le x y && int_le y x
compare_millionths Unequal x y = not (int_le x y && int_le y x)
compare_millionths Less x y = int_lt x y
compare_millionths Greater x y = int_lt y x
compare_millionths AtMost x y = int_le x y
compare_millionths AtLeast x y = int_le y x

-- with NaN only != is true
abbrev pub compare_numbers : Comparison → Number → Number → Bool
compare_numbers how (Millionths x) (Millionths y) = compare_millionths how x y
compare_numbers Unequal x y = true
compare_numbers how x y = false

-- Numbers and positions: XPath 1.0, sections 2.4 and 4.2.

-- whether a position, from 1 on, is the number
abbrev pub is_position : Number → ℕ → Bool
is_position x p = compare_numbers Equal x (counted p)

-- whether a position is the number or after it
abbrev pub reaches : Number → ℕ → Bool
reaches x p = compare_numbers AtMost x (counted p)

-- whether a position is before the sum of two numbers, which may be out of range
abbrev pub is_before_sum : Number → Number → ℕ → Bool
is_before_sum (Millionths x) (Millionths y) p = int_lt (pos (one * p)) (x +ℤ y)
is_before_sum x y p = false

-- To truth: XPath 1.0, section 4.3.

-- not 0 and not NaN
abbrev pub truth_of_number : Number → Bool
truth_of_number Nan = false
truth_of_number (Millionths z) = not (is_zero z)

-- To text: XPath 1.0, section 4.2.

-- the digit of a number of millionths at a place after the point, where a 1 there adds the unit
abbrev pub digit_at : ℕ → ℕ → ℕ
digit_at r unit = 48 + r / unit % 10

-- the six places of less than a million millionths
abbrev pub six_places : ℕ → List ℕ
six_places r = map (digit_at r) (100000 ∷ 10000 ∷ 1000 ∷ 100 ∷ 10 ∷ 1 ∷ [])

-- without the zeros at the end
abbrev pub without_zeros : List ℕ → List ℕ
without_zeros [] = []
without_zeros (c ∷ cs) = cond (list_all (λ d. d == 48) (c ∷ cs)) [] (c ∷ without_zeros cs)

-- a point and the places, where there are some
abbrev pub after_point : List ℕ → List ℕ
after_point [] = []
after_point (c ∷ cs) = 46 ∷ c ∷ cs

abbrev pub unsigned_text : ℕ → List ℕ
unsigned_text n = decimal (n / one) ++ after_point (without_zeros (six_places (n % one)))

abbrev pub signed_text : ℤ → List ℕ
signed_text (pos n) = unsigned_text n
signed_text (negsuc n) = 45 ∷ unsigned_text (suc n)

abbrev pub text_of_number : Number → List ℕ
text_of_number Nan = codes "NaN"
text_of_number (Millionths z) = signed_text z

-- From text: XPath 1.0, section 4.4.

-- without the white space at the start
abbrev pub without_spaces : List ℕ → List ℕ
without_spaces [] = []
without_spaces (c ∷ cs) = cond (is_space c) (without_spaces cs) (c ∷ cs)

-- without the white space at the end
abbrev pub without_last_spaces : List ℕ → List ℕ
without_last_spaces [] = []
without_last_spaces (c ∷ cs) = cond (list_all is_space (c ∷ cs)) [] (c ∷ without_last_spaces cs)

-- what may be after a digit of a number: digits, and perhaps a point
abbrev pub is_after_digit : List ℕ → Bool
is_after_digit [] = true
is_after_digit (c ∷ cs) = cond (c == 46) (list_all is_decimal_digit cs) (is_decimal_digit c && is_after_digit cs)

-- digits with perhaps a point after them or within, or a point and digits: XPath 1.0, productions 30 and 31
abbrev pub is_number : List ℕ → Bool
is_number [] = false
is_number (c ∷ cs) = cond (c == 46) (are_digits cs) (is_decimal_digit c && is_after_digit cs)

abbrev pub fault_of : NumberFault → Answer Number
fault_of spelling.Fraction = Err fault.Fraction
fault_of spelling.Range = Err fault.Range

abbrev pub number_held : Result ℕ NumberFault → Answer Number
number_held (Ok n) = Ok (Millionths (pos n))
number_held (Err e) = fault_of e

-- the value of a number's spelling, and NaN for another text
abbrev pub unsigned : List ℕ → Answer Number
unsigned t = cond (is_number t) (number_held (number_value t)) (Ok Nan)

-- the same with perhaps a minus before it
abbrev pub signed : List ℕ → Answer Number
signed [] = Ok Nan
signed (c ∷ cs) = cond (c == 45) (with (unsigned cs) negative) (unsigned (c ∷ cs))

-- the number of a text, white space at its ends aside
abbrev pub number_of_text : List ℕ → Answer Number
number_of_text t = signed (without_last_spaces (without_spaces t))
