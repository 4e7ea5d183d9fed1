-- A text that is escaped byte by byte is the text that is written character by character.
use Rattle.std.proofs.Common.{◌≡◌, ℕ, suc, ◌<◌, ◌≤◌, inl, inr, List, [], ◌∷◌, ◌++◌, map, length, get_or, refl, sym, ap, ap₂}
use Rattle.std.proofs.Common.{◌∙◌, arith, append-nil, eqb-true}
use Rattle.std.specs.Prelude.{◌==◌}
use Rattle.std.specs.List.{flat_map}
use lib.Utf8.{encode, encodes}
use Rattle.std.proofs.lemmas.Bool.{cases_Bool, cases_lt}
use Rattle.std.proofs.lemmas.Grind.{flat_map-append}
use Rattle.std.proofs.lemmas.Str.{encode_ascii, encodes-append, inside_one}
use Rattle.xml_model.specs.Items.{written_piece, written_pieces}
use Rattle.xml_patches.specs.Edited.{in_text}
use Rattle.xml_patches.specs.Patched.{text_bytes}
use Rattle.vtd_modifier.specs.Escapes.{escaped_in_text}

-- a byte of a character beyond ASCII is as it was
high_byte : (b : ℕ) → 128 ≤ b → escaped_in_text b ≡ b ∷ []
high_byte b h = elim (cases_Bool (b == 38)) [
  | inl t ↦ absurd (let e : b ≡ 38 = eqb-true b 38 t in omega arith)
  | inr f ↦ (elim (cases_Bool (b == 60)) [
    | inl t ↦ absurd (let e : b ≡ 60 = eqb-true b 60 t in omega arith)
    | inr g ↦ (elim (cases_Bool (b == 62)) [
      | inl t ↦ absurd (let e : b ≡ 62 = eqb-true b 62 t in omega arith)
      | inr k ↦ (elim (cases_Bool (b == 13)) [
        | inl t ↦ absurd (let e : b ≡ 13 = eqb-true b 13 t in omega arith)
        | inr l ↦ rw (f, g, k, l) refl
      ])
    ])
  ])
]

-- so is the character
high_piece : (c : ℕ) → 128 ≤ c → written_piece (in_text c) ≡ c ∷ []
high_piece c h = elim (cases_Bool (c == 38)) [
  | inl t ↦ absurd (let e : c ≡ 38 = eqb-true c 38 t in omega arith)
  | inr f ↦ (elim (cases_Bool (c == 60)) [
    | inl t ↦ absurd (let e : c ≡ 60 = eqb-true c 60 t in omega arith)
    | inr g ↦ (elim (cases_Bool (c == 62)) [
      | inl t ↦ absurd (let e : c ≡ 62 = eqb-true c 62 t in omega arith)
      | inr k ↦ (elim (cases_Bool (c == 13)) [
        | inl t ↦ absurd (let e : c ≡ 13 = eqb-true c 13 t in omega arith)
        | inr l ↦ rw (f, g, k, l) refl
      ])
    ])
  ])
]

high_run : (bs : List ℕ) → ((k : ℕ) → k < length bs → 128 ≤ get_or bs k 0) → flat_map escaped_in_text bs ≡ bs
high_run [] h = refl
high_run (b ∷ bs) h =
    ap₂ (λ (xs ys : List ℕ). xs ++ ys) (high_byte b (h 0 (omega arith))) (high_run bs (λ k l. h (suc k) (omega (arith, l))))

high_bytes : (c : ℕ) → 128 ≤ c → (k : ℕ) → k < length (encode c) → 128 ≤ get_or (encode c) k 0
high_bytes c h k l = elim (cases_lt (get_or (encode c) k 0) 128) [
  | inl low ↦ absurd (let e = inside_one c [] (encode c) k (sym (append-nil (encode c))) l low in omega (arith, e))
  | inr high ↦ high
]

-- what an ASCII character becomes is ASCII, which is a byte each
low_char : (c : ℕ) → c < 128 → escaped_in_text c ≡ encodes (written_piece (in_text c))
unfolding encode
low_char c h = elim (cases_Bool (c == 38)) [
  | inl t ↦ rw t refl
  | inr f ↦ (elim (cases_Bool (c == 60)) [
    | inl t ↦ rw (f, t) refl
    | inr g ↦ (elim (cases_Bool (c == 62)) [
      | inl t ↦ rw (f, g, t) refl
      | inr k ↦ (elim (cases_Bool (c == 13)) [
        | inl t ↦ rw (f, g, k, t) refl
        | inr l ↦ rw (f, g, k, l) (sym (ap (λ (bs : List ℕ). bs ++ []) (encode_ascii c h)))
      ])
    ])
  ])
]

one_char : (c : ℕ) → flat_map escaped_in_text (encode c) ≡ encodes (written_piece (in_text c))
one_char c = elim (cases_lt c 128) [
  | inl low ↦
      ap (λ (bs : List ℕ). flat_map escaped_in_text bs) (encode_ascii c low) ∙ append-nil (escaped_in_text c) ∙ low_char c low
  | inr high ↦
      high_run (encode c) (high_bytes c high) ∙ sym (append-nil (encode c)) ∙ ap (λ (cs : List ℕ). encodes cs) (sym (high_piece c high))
]

-- the law: a text that is escaped
pub escaped_text : (cs : List ℕ) → flat_map escaped_in_text (encodes cs) ≡ text_bytes cs
escaped_text [] = refl
escaped_text (c ∷ cs) =
    flat_map-append escaped_in_text (encode c) (encodes cs) ∙ ap₂ (λ (xs ys : List ℕ). xs ++ ys) (one_char c) (escaped_text cs)
    ∙ sym (encodes-append (written_piece (in_text c)) (written_pieces (map in_text cs)))
