-- How long the words of each kind are at the start of a text: what the working functions compute.
use Rattle.std.specs.Prelude.{◌≡◌, ℕ, suc, ◌+◌, max, Bool, cond, not, ◌&&◌, ◌==◌, nat_lt, List, [], ◌∷◌, length, drop}
use Rattle.std.specs.Prelude.{Option, Some, None, Result, Ok, Err}
use Rattle.xml_model.specs.Chars.{is_name_start, is_name_char}
use Rattle.xpath_tokens.specs.declared.Token.{Token}
use Rattle.xpath_tokens.specs.declared.Fault.{Fault}
use Rattle.xpath_tokens.specs.declared.Fault.TheVariants.{Syntax, NoMemory}
use Rattle.xpath_tokens.specs.Tokens.{is_single, is_pair, is_quote, is_decimal_digit}

-- how many characters at the start pass a test
abbrev pub run : (ℕ → Bool) → List ℕ → ℕ
run p [] = 0
run p (c ∷ cs) = cond (p c) (suc (run p cs)) 0

-- a character of a name without a colon
abbrev pub is_ncname_start : ℕ → Bool
is_ncname_start c = not (c == 58) && is_name_start c

abbrev pub is_ncname_char : ℕ → Bool
is_ncname_char c = not (c == 58) && is_name_char c

abbrev pub not_colon : ℕ → Bool
not_colon c = not (c == 58)

abbrev pub is_other : ℕ → ℕ → Bool
is_other q c = not (c == q)

abbrev pub ncname_length : List ℕ → ℕ
ncname_length [] = 0
ncname_length (c ∷ cs) = cond (is_ncname_start c) (suc (run is_ncname_char cs)) 0

abbrev pub symbol_length : List ℕ → ℕ
symbol_length [] = 0
symbol_length (c ∷ []) = cond (is_single c) 1 0
symbol_length (c ∷ d ∷ cs) = cond (is_pair c d) 2 (cond (is_single c) 1 0)

-- a name of n characters, with what a colon and another name of m characters after it add
abbrev pub plus_local : ℕ → ℕ → ℕ
plus_local n m = cond (m == 0) n (n + 1 + m)

abbrev pub local_length : ℕ → List ℕ → ℕ
local_length n [] = n
local_length n (c ∷ cs) = cond (c == 58) (plus_local n (ncname_length cs)) n

abbrev pub joined_length : ℕ → List ℕ → ℕ
joined_length n cs = cond (n == 0) 0 (local_length n cs)

abbrev pub qname_length : List ℕ → ℕ
qname_length cs = joined_length (ncname_length cs) (drop (ncname_length cs) cs)

abbrev pub colon_star : ℕ → List ℕ → ℕ
colon_star n (c ∷ d ∷ cs) = cond (c == 58 && d == 42) (n + 2) 0
colon_star n _ = 0

abbrev pub star_length : ℕ → List ℕ → ℕ
star_length n cs = cond (n == 0) 0 (colon_star n cs)

abbrev pub any_in_length : List ℕ → ℕ
any_in_length cs = star_length (ncname_length cs) (drop (ncname_length cs) cs)

-- n digits, with a point and the m digits after it
abbrev pub with_point : ℕ → ℕ → ℕ
with_point n m = cond (n == 0 && m == 0) 0 (n + 1 + m)

abbrev pub point_length : ℕ → List ℕ → ℕ
point_length n [] = n
point_length n (c ∷ cs) = cond (c == 46) (with_point n (run is_decimal_digit cs)) n

abbrev pub number_length : List ℕ → ℕ
number_length cs = point_length (run is_decimal_digit cs) (drop (run is_decimal_digit cs) cs)

-- a quote with n characters after it before the next one, of the m that are after it
abbrev pub closed_length : ℕ → ℕ → ℕ
closed_length n m = cond (nat_lt n m) (n + 2) 0

abbrev pub literal_length : List ℕ → ℕ
literal_length [] = 0
literal_length (q ∷ cs) = cond (is_quote q) (closed_length (run (is_other q) cs) (length cs)) 0

abbrev pub dollar_length : ℕ → ℕ
dollar_length n = cond (n == 0) 0 (n + 1)

abbrev pub variable_length : List ℕ → ℕ
variable_length [] = 0
variable_length (c ∷ cs) = cond (c == 36) (dollar_length (qname_length cs)) 0

abbrev pub word_length : List ℕ → ℕ
word_length cs =
    max (max (symbol_length cs) (max (qname_length cs) (any_in_length cs)))
    (max (literal_length cs) (max (number_length cs) (variable_length cs)))

-- a token that is found, or none, unless memory runs out
abbrev pub IsFound : Option Token → Result Token Fault → Type 0
IsFound o (Ok t) = o ≡ Some t
IsFound o (Err Syntax) = o ≡ None
IsFound o (Err NoMemory) = Unit {0}
