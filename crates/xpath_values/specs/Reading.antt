-- How the number of a text is read, from its first character on.
use Rattle.std.specs.Prelude.{ℕ, ◌==◌, Bool, true, false, cond, Ok}
use Rattle.xml_model.specs.Chars.{is_space}
use Rattle.xpath_tokens.specs.Tokens.{is_decimal_digit}
use Rattle.xpath_tokens.specs.Scanning.{scan_next, scan_start, scan_value}
use Rattle.xpath_tokens.specs.declared.numbers.NumberScan.{NumberScan}
use Rattle.xpath_values.specs.declared.Number.{Number}
use Rattle.xpath_values.specs.declared.Number.TheVariants.{Nan}
use Rattle.xpath_values.specs.declared.reading.Phase.{Phase}
use Rattle.xpath_values.specs.declared.reading.Phase.TheVariants.{Before, Signed, Whole, Lone, Places, After, Bad}
use Rattle.xpath_values.specs.declared.reading.NumberReader.{NumberReader}
use Rattle.xpath_values.specs.Answers.{Answer, with}
use Rattle.xpath_values.specs.Numbers.{negative, number_held}

-- where the spelling is to begin
abbrev pub begun : ℕ → Phase
begun c = cond (is_decimal_digit c) Whole (cond (c == 46) Lone Bad)

-- where it has ended
abbrev pub ended : ℕ → Phase
ended c = cond (is_space c) After Bad

abbrev pub next_phase : Phase → ℕ → Phase
next_phase Before c = cond (is_space c) Before (cond (c == 45) Signed (begun c))
next_phase Signed c = begun c
next_phase Whole c = cond (is_decimal_digit c) Whole (cond (c == 46) Places (ended c))
next_phase Lone c = cond (is_decimal_digit c) Places Bad
next_phase Places c = cond (is_decimal_digit c) Places (ended c)
next_phase After c = ended c
next_phase Bad c = Bad

-- what is known of the spelling, where a character took the reader to a phase
abbrev pub scanned_to : Phase → NumberScan → ℕ → NumberScan
scanned_to Whole s c = scan_next s c
scanned_to Lone s c = scan_next s c
scanned_to Places s c = scan_next s c
scanned_to _ s c = s

abbrev pub signed_to : Phase → Bool → Bool
signed_to Signed b = true
signed_to _ b = b

abbrev pub moved : Phase → NumberReader → ℕ → NumberReader
moved p r c = record { phase = p; negative = signed_to p r.negative; scan = scanned_to p r.scan c }

abbrev pub read_start : NumberReader
read_start = record { phase = Before; negative = false; scan = scan_start }

abbrev pub read_next : NumberReader → ℕ → NumberReader
read_next r c = moved (next_phase r.phase c) r c

abbrev pub with_minus : Bool → Answer Number → Answer Number
with_minus true a = with a negative
with_minus false a = a

abbrev pub spelled_value : Bool → NumberScan → Answer Number
spelled_value b s = with_minus b (number_held (scan_value s))

abbrev pub value_in : Phase → Bool → NumberScan → Answer Number
value_in Whole b s = spelled_value b s
value_in Places b s = spelled_value b s
value_in After b s = spelled_value b s
value_in _ b s = Ok Nan

abbrev pub read_value : NumberReader → Answer Number
read_value r = value_in r.phase r.negative r.scan
