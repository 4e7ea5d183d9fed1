-- Facts about classes of characters.
use Rattle.std.proofs.Common.{◌≡◌, ℕ, ◌<◌, ◌≤◌, true, ◌⊎◌, inl, inr, arith}
use Rattle.std.specs.Prelude.{nat_le, ◌&&◌, List, [], ◌∷◌}
use Rattle.std.proofs.lemmas.Bool.{and_parts, or_cases, leb-true, false≢true}
use Rattle.xml_model.specs.Chars.{in_ranges, is_space}

-- the ends of a range that has the character
pub in_range : (low high c : ℕ) (rs : List (ℕ × ℕ)) → in_ranges ((low, high) ∷ rs) c ≡ true → ((low ≤ c) × (c ≤ high)) ⊎ (in_ranges rs c ≡ true)
unfolding in_ranges
in_range low high c rs h = elim (or_cases (nat_le low c && nat_le c high) _ h) [
  | inl t ↦ let q = and_parts (nat_le low c) (nat_le c high) t in inl (leb-true low c q.0, leb-true c high q.1)
  | inr t ↦ inr t
]

pub in_none : (c : ℕ) → in_ranges [] c ≡ true → ⊥
unfolding in_ranges
in_none c h = false≢true h

pub space_low : (c : ℕ) → is_space c ≡ true → c < 128
unfolding is_space
space_low c h = elim (in_range 0x20 0x20 c _ h) [
  | inl q ↦ omega arith
  | inr h ↦ elim (in_range 0x9 0xA c _ h) [
    | inl q ↦ omega arith
    | inr h ↦ elim (in_range 0xD 0xD c _ h) [ inl q ↦ omega arith | inr h ↦ absurd (in_none c h) ]
  ]
]
