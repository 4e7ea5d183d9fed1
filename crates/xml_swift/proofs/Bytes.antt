-- The bytes of the classes of lanes, and the characters that they have.
use Rattle.std.proofs.Common.{◌≡◌, ℕ, ◌<◌, ◌≤◌, ◌⊎◌, inl, inr, Bool, true, refl, arith}
use Rattle.std.specs.Prelude.{◌&&◌, ◌||◌, ◌==◌, not, nat_le}
use Rattle.std.proofs.lemmas.Bool.{agree_below_at, and_parts, and_from, or_left, le-leb, ne_eqb, not_from_false}
use Rattle.xml_model.specs.Chars.{is_char, in_ranges}
use Rattle.xml_items.specs.Plain.{is_plain_char, is_plain_text}
use Rattle.xml_items.proofs.ByteRuns.{ByBytes, text_bytes, char_bytes}
use Rattle.xml_lanes.specs.Classes.{is_text_byte, is_value_byte, is_single_value_byte}

-- no < and no &, no double quote, and no white space but the blank
abbrev pub is_common_value : ℕ → Bool
is_common_value c = is_plain_char c && nat_le 32 c && not (c == 60) && not (c == 38) && not (c == 34)

-- the same with the single quote in place of the double one
abbrev pub is_single_value : ℕ → Bool
is_single_value c = is_plain_char c && nat_le 32 c && not (c == 60) && not (c == 38) && not (c == 39)

other : (b s : ℕ) → (b ≡ s → ⊥) → not (b == s) ≡ true
other b s n = not_from_false _ (ne_eqb b s n)

no_mark : (b : ℕ) → (128 ≤ b) × (b < 239 ⊎ 239 < b) → not (b == 239) ≡ true
no_mark b o = other b 239 (λ e. elim (o.1) [ inl l ↦ omega arith | inr l ↦ omega arith ])

wide_text : (b : ℕ) → (128 ≤ b) × (b < 239 ⊎ 239 < b) → is_text_byte b ≡ true
wide_text b o =
    let h = o.0 in
    let low : (nat_le 32 b || b == 10 || b == 9 || b == 13) ≡ true = or_left (nat_le 32 b || b == 10 || b == 9) _ (or_left (nat_le 32 b || b == 10) _ (or_left (nat_le 32 b) _ (le-leb 32 b (omega arith)))) in
    and_from _ _ (and_from _ _ (and_from _ _ (and_from _ _ low (other b 60 (λ e. omega arith))) (other b 38 (λ e. omega arith))) (other b 93 (λ e. omega arith))) (no_mark b o)

pub text_classes : ByBytes is_plain_text is_text_byte
unfolding is_char in_ranges
text_classes = record {
  low = λ c lt. agree_below_at is_plain_text is_text_byte 128 c refl lt;
  wide = wide_text;
  mark = refl;
  goes = text_bytes.goes;
  stops = text_bytes.stops;
}

wide_value : (b : ℕ) → (128 ≤ b) × (b < 239 ⊎ 239 < b) → is_value_byte b ≡ true
wide_value b o =
    let h = o.0 in
    and_from _ _ (and_from _ _ (and_from _ _ (and_from _ _ (le-leb 32 b (omega arith)) (other b 60 (λ e. omega arith))) (other b 38 (λ e. omega arith))) (other b 34 (λ e. omega arith))) (no_mark b o)

plain_of : (c : ℕ) → is_common_value c ≡ true → is_plain_char c ≡ true
plain_of c t = (and_parts _ (nat_le 32 c) (and_parts _ (not (c == 60)) (and_parts _ (not (c == 38)) (and_parts _ (not (c == 34)) t).0).0).0).0

pub value_classes : ByBytes is_common_value is_value_byte
unfolding is_char in_ranges
value_classes = record {
  low = λ c lt. agree_below_at is_common_value is_value_byte 128 c refl lt;
  wide = wide_value;
  mark = refl;
  goes = λ c t m. char_bytes.goes c (plain_of c t) m;
  stops = λ c s h none. and_from _ _ (and_from _ _ (and_from _ _ (and_from _ _ (char_bytes.stops c s h none) (le-leb 32 c (omega arith))) (other c 60 (λ e. omega arith))) (other c 38 (λ e. omega arith))) (other c 34 (λ e. omega arith));
}

wide_single : (b : ℕ) → (128 ≤ b) × (b < 239 ⊎ 239 < b) → is_single_value_byte b ≡ true
wide_single b o =
    let h = o.0 in
    and_from _ _ (and_from _ _ (and_from _ _ (and_from _ _ (le-leb 32 b (omega arith)) (other b 60 (λ e. omega arith))) (other b 38 (λ e. omega arith))) (other b 39 (λ e. omega arith))) (no_mark b o)

plain_of_single : (c : ℕ) → is_single_value c ≡ true → is_plain_char c ≡ true
plain_of_single c t = (and_parts _ (nat_le 32 c) (and_parts _ (not (c == 60)) (and_parts _ (not (c == 38)) (and_parts _ (not (c == 39)) t).0).0).0).0

pub single_value_classes : ByBytes is_single_value is_single_value_byte
unfolding is_char in_ranges
single_value_classes = record {
  low = λ c lt. agree_below_at is_single_value is_single_value_byte 128 c refl lt;
  wide = wide_single;
  mark = refl;
  goes = λ c t m. char_bytes.goes c (plain_of_single c t) m;
  stops = λ c s h none. and_from _ _ (and_from _ _ (and_from _ _ (and_from _ _ (char_bytes.stops c s h none) (le-leb 32 c (omega arith))) (other c 60 (λ e. omega arith))) (other c 38 (λ e. omega arith))) (other c 39 (λ e. omega arith));
}
