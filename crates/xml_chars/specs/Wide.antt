-- What private functions promise: the name characters below 128, and those from 128 on.
use Rattle.std.specs.Prelude.{ℕ, Bool, ◌&&◌, nat_lt, [], ◌∷◌}
use Rattle.xml_model.specs.Chars.{in_ranges, is_name_start, is_name_char}

-- those with which a name may begin (XML 1.0, production 4)
unfoldable pub is_wide_start : ℕ → Bool
is_wide_start c =
    in_ranges ((0xC0, 0xD6) ∷ (0xD8, 0xF6) ∷ (0xF8, 0x2FF) ∷ (0x370, 0x37D) ∷ (0x37F, 0x1FFF) ∷ (0x200C, 0x200D) ∷
    (0x2070, 0x218F) ∷ (0x2C00, 0x2FEF) ∷ (0x3001, 0xD7FF) ∷ (0xF900, 0xFDCF) ∷ (0xFDF0, 0xFFFD) ∷
    (0x1_0000, 0xE_FFFF) ∷ []) c

-- those that may be further on in a name (XML 1.0, production 4a)
unfoldable pub is_wide_rest : ℕ → Bool
is_wide_rest c = in_ranges ((0xB7, 0xB7) ∷ (0x300, 0x36F) ∷ (0x203F, 0x2040) ∷ []) c

abbrev pub is_ascii_start : ℕ → Bool
is_ascii_start c = nat_lt c 128 && is_name_start c

abbrev pub is_ascii_name : ℕ → Bool
is_ascii_name c = nat_lt c 128 && is_name_char c
