-- The length of a name's prefix, by its bytes: a colon is one byte, and no byte of another character.
use Rattle.std.proofs.Common.{◌≡◌, ℕ, ◌+◌, ◌<◌, ◌≤◌, Bool, true, false, cond, inl, inr, List, [], ◌∷◌, ◌++◌, length, take, drop, get_or, Option, Some, None, refl, sym, ap, ◌∙◌, arith, lit<}
use Rattle.std.specs.Prelude.{◌||◌, ◌==◌, not, unwrap_or}
use Rattle.std.specs.List.{list_all, prefix_len}
use lib.Utf8.{encode, encodes}
use Rattle.std.proofs.lemmas.List.{length-take-le, drop_all, drop_more}
use Rattle.std.proofs.lemmas.Bool.{cases_Bool, and_parts, not-true, eqb-true}
use Rattle.std.proofs.lemmas.Str.{encode_ascii}
use Rattle.memchr.specs.Find.{IsFirstByte, is_byte}
use Rattle.xml_model.specs.Chars.{size, has_colon, before_colon, prefix_of}
use Rattle.xml_chars.proofs.TextLemmas.{run_from_first}
use Rattle.xml_chars.proofs.ColonLemmas.{no_colon, colon_of}
use Rattle.xml_chars.proofs.ByteLemmas.{other, other_low, one_passes}

-- ---- of any bytes

pub prefix_found : (name : List ℕ) (r : Option ℕ) → IsFirstByte (is_byte 58) name r → unwrap_or r 0 ≡ length (prefix_of name)
unfolding prefix_of
prefix_found name None h =
    let run : prefix_len no_colon name ≡ length name = run_from_first (is_byte 58) name None h in
    let f : has_colon name ≡ false = (colon_of name).none (drop_all (prefix_len no_colon name) name (omega arith)) in
    rw f refl
prefix_found name (Some n) h =
    let run : prefix_len no_colon name ≡ n = run_from_first (is_byte 58) name (Some n) h in
    let lt : n < length name = h.0.high in
    let at : drop (prefix_len no_colon name) name ≡ get_or name n 0 ∷ drop (n + 1) name = ap (λ (k : ℕ). drop k name) run ∙ drop_more name n 0 lt in
    let q = (colon_of name).some (get_or name n 0) (drop (n + 1) name) at in
    let len : length (take (prefix_len no_colon name) name) ≡ n = ap (λ (k : ℕ). length (take k name)) run ∙ length-take-le n name (omega arith) in
    rw q.0 (sym len ∙ ap (λ (l : List ℕ). length l) q.1)

before_short : (cs : List ℕ) → length (before_colon cs) ≤ length cs
before_short [] = omega arith
before_short (c ∷ cs) = elim (cases_Bool (c == 58)) [
  | inl t ↦ rw t (omega arith)
  | inr f ↦ rw f (omega (arith, before_short cs))
]

pub prefix_short : (cs : List ℕ) → length (prefix_of cs) ≤ length cs
unfolding prefix_of
prefix_short cs = elim (cases_Bool (has_colon cs)) [
  | inl t ↦ rw t (before_short cs)
  | inr f ↦ rw f (omega arith)
]

-- ---- of the bytes of a name

no_colon_any : (w bs : List ℕ) → list_all (other 58) w ≡ true → has_colon (w ++ bs) ≡ has_colon bs
no_colon_any [] bs h = refl
no_colon_any (c ∷ w) bs h =
    let q = and_parts (other 58 c) (list_all (other 58) w) h in
    rw (not-true (c == 58) q.0) (no_colon_any w bs q.1)

no_colon_before : (w bs : List ℕ) → list_all (other 58) w ≡ true → before_colon (w ++ bs) ≡ w ++ before_colon bs
no_colon_before [] bs h = refl
no_colon_before (c ∷ w) bs h =
    let q = and_parts (other 58 c) (list_all (other 58) w) h in
    rw (not-true (c == 58) q.0) (ap (λ (l : List ℕ). c ∷ l) (no_colon_before w bs q.1))

char_no_colon : (c : ℕ) → (c == 58) ≡ false → list_all (other 58) (encode c) ≡ true
char_no_colon c f = one_passes (other 58) (other_low 58 (lit< tt)) c (ap not f)

colon_bytes : (cs : List ℕ) → has_colon (encodes cs) ≡ has_colon cs
colon_bytes [] = refl
colon_bytes (c ∷ cs) = elim (cases_Bool (c == 58)) [
  | inl t ↦
      let e : encode c ≡ c ∷ [] = encode_ascii c (omega (arith, eqb-true c 58 t)) in
      rw (e, t) refl
  | inr f ↦ no_colon_any (encode c) (encodes cs) (char_no_colon c f) ∙ colon_bytes cs ∙ sym (ap (λ (b : Bool). b || has_colon cs) f)
]

before_bytes : (cs : List ℕ) → before_colon (encodes cs) ≡ encodes (before_colon cs)
before_bytes [] = refl
before_bytes (c ∷ cs) = elim (cases_Bool (c == 58)) [
  | inl t ↦
      let e : encode c ≡ c ∷ [] = encode_ascii c (omega (arith, eqb-true c 58 t)) in
      rw (e, t) refl
  | inr f ↦ no_colon_before (encode c) (encodes cs) (char_no_colon c f) ∙ ap (λ (l : List ℕ). encode c ++ l) (before_bytes cs) ∙ sym (ap (λ (b : Bool). encodes (cond b [] (c ∷ before_colon cs))) f)
]

pub prefix_bytes : (cs : List ℕ) → length (prefix_of (encodes cs)) ≡ size (prefix_of cs)
unfolding prefix_of size
prefix_bytes cs = elim (cases_Bool (has_colon cs)) [
  | inl t ↦ rw (colon_bytes cs ∙ t, t) (ap (λ (l : List ℕ). length l) (before_bytes cs))
  | inr f ↦ rw (colon_bytes cs ∙ f, f) refl
]
