-- From 128 on the ASCII ranges play no part.
use Rattle.std.proofs.Common.{◌≡◌, ℕ, ◌≤◌, ◌<◌, true, false, refl, arith, ◌∙◌}
use Rattle.std.specs.Prelude.{nat_le, nat_lt, List, [], ◌∷◌}
use Rattle.std.proofs.lemmas.Bool.{lt-leb, and_right, and_parts, ltb-true}
use Rattle.xml_model.specs.Chars.{in_ranges, is_name_start, is_name_char}
use Rattle.xml_chars.specs.Wide.{is_ascii_name, is_wide_start, is_wide_rest}

-- a range that ends below the character does not have it
below : (low high c : ℕ) (rs : List (ℕ × ℕ)) → high < c → in_ranges ((low, high) ∷ rs) c ≡ in_ranges rs c
unfolding in_ranges
below low high c rs h = rw (and_right (nat_le low c) (nat_le c high) (lt-leb c high h)) refl

pub wide_start : (c : ℕ) → 128 ≤ c → is_name_start c ≡ is_wide_start c
unfolding is_name_start is_wide_start
wide_start c h = below 58 58 c _ (omega arith) ∙ below 65 90 c _ (omega arith) ∙ below 95 95 c _ (omega arith) ∙ below 97 122 c _ (omega arith)

wide_rest : (c : ℕ) → 128 ≤ c → in_ranges ((45, 46) ∷ (48, 57) ∷ (0xB7, 0xB7) ∷ (0x300, 0x36F) ∷ (0x203F, 0x2040) ∷ []) c ≡ is_wide_rest c
unfolding is_wide_rest
wide_rest c h = below 45 46 c _ (omega arith) ∙ below 48 57 c _ (omega arith)

pub wide_name_by_start : (c : ℕ) → 128 ≤ c → is_wide_start c ≡ true → is_name_char c ≡ true
unfolding is_name_char
wide_name_by_start c h e = rw (wide_start c h ∙ e) refl

pub wide_name : (c : ℕ) → 128 ≤ c → is_wide_start c ≡ false → is_name_char c ≡ is_wide_rest c
unfolding is_name_char
wide_name c h e = rw (wide_start c h ∙ e) (wide_rest c h)

pub ascii_name_low : (c : ℕ) → is_ascii_name c ≡ true → c < 128
ascii_name_low c h = ltb-true c 128 (and_parts (nat_lt c 128) (is_name_char c) h).0
