-- Classes of bytes (this project's own): what may be in a name, a text or a value is known there by its bytes.
use Rattle.std.specs.Prelude.{ℕ, Bool, ◌&&◌, ◌||◌, ◌==◌, not, nat_le, nat_lt}
use Rattle.xml_model.specs.Chars.{is_name_start, is_name_char}

-- an ASCII character with which a name may begin
abbrev pub is_plain_start : ℕ → Bool
is_plain_start b = nat_lt b 128 && is_name_start b

-- an ASCII character of a name
abbrev pub is_name_byte : ℕ → Bool
is_name_byte b = nat_lt b 128 && is_name_char b

-- no < and no &, no ] with which ]]> might begin, no byte that only other characters than Chars have, and not EF, with
-- which U+FFFE and U+FFFF begin
abbrev pub is_text_byte : ℕ → Bool
is_text_byte b =
    (nat_le 32 b || b == 10 || b == 9 || b == 13) && not (b == 60) && not (b == 38) && not (b == 93) && not (b == 0xEF)

-- no < and no &, no double quote, no white space but the blank, and not EF
abbrev pub is_value_byte : ℕ → Bool
is_value_byte b = nat_le 32 b && not (b == 60) && not (b == 38) && not (b == 34) && not (b == 0xEF)

-- no < and no &, no single quote, no white space but the blank, and not EF
abbrev pub is_single_value_byte : ℕ → Bool
is_single_value_byte b = nat_le 32 b && not (b == 60) && not (b == 38) && not (b == 39) && not (b == 0xEF)

-- no white space, and none of / = >
abbrev pub is_tag_byte : ℕ → Bool
is_tag_byte b = nat_lt 32 b && not (b == 47) && not (b == 61) && not (b == 62)

-- no such byte
abbrev pub is_other : ℕ → ℕ → Bool
is_other byte b = not (b == byte)
