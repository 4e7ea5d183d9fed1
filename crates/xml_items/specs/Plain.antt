-- What private functions promise: characters that mean nothing but themselves where they are, and the bytes that only
-- such characters have in UTF-8.
use Rattle.std.specs.Prelude.{ℕ, Bool, ◌&&◌, ◌==◌, cond, not, nat_lt, nat_le}
use Rattle.xml_model.specs.Chars.{is_char}

-- Chars that no byte EF begins: U+F000 to U+FFFF, two of which are no Chars, are left out
abbrev pub is_plain_char : ℕ → Bool
is_plain_char c = is_char c && not (nat_le 0xF000 c && nat_le c 0xFFFF)

-- no < and no &, and no ] with which ]]> might begin
abbrev pub is_plain_text : ℕ → Bool
is_plain_text c = is_plain_char c && not (c == 60) && not (c == 38) && not (c == 93)

-- no < and no &, and no quote
abbrev pub is_plain_value : ℕ → Bool
is_plain_value c = is_plain_char c && not (c == 60) && not (c == 38) && not (c == 34) && not (c == 39)

-- a byte that only plain Chars have
abbrev pub is_plain_byte : ℕ → Bool
is_plain_byte b = cond (nat_lt b 128) (is_char b) (not (b == 0xEF))

-- a byte that only plain Chars have, and none of four
abbrev pub is_run_byte : ℕ → ℕ → ℕ → ℕ → ℕ → Bool
is_run_byte s t u v b = is_plain_byte b && not (b == s) && not (b == t) && not (b == u) && not (b == v)

-- the bytes of plain texts, values and Chars
abbrev pub is_text_byte : ℕ → Bool
is_text_byte b = is_run_byte 60 38 93 93 b

abbrev pub is_value_byte : ℕ → Bool
is_value_byte b = is_run_byte 60 38 34 39 b

abbrev pub is_char_byte : ℕ → Bool
is_char_byte b = is_run_byte 0xEF 0xEF 0xEF 0xEF b
