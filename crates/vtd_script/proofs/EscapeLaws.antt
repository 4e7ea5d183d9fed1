-- What is printed of a string is read as that string.
use Rattle.std.proofs.Common.{◌≡◌, ℕ, ◌==◌, List, [], ◌∷◌, ◌++◌, Option, Some, option_map, refl, sym, ap, ◌∙◌, inl, inr}
use Rattle.std.proofs.lemmas.Bool.{cases_Bool, eqb-true}
use Rattle.vtd_listing.specs.Escapes.{escaped, escaped_char}
use Rattle.vtd_lines.specs.Fields.{unescaped}
use Rattle.vtd_lines.proofs.FieldLemmas.{plain_char}

abbrev with_char : ℕ → Option (List ℕ) → Option (List ℕ)
with_char c rest = option_map (λ cs. c ∷ cs) rest

char_back : (c : ℕ) (rest : List ℕ) → unescaped (escaped_char c ++ rest) ≡ with_char c (unescaped rest)
char_back c rest = elim (cases_Bool (c == 9)) [
  | inl t ↦ rw t (ap (λ (n : ℕ). with_char n (unescaped rest)) (sym (eqb-true c 9 t)))
  | inr f ↦ (elim (cases_Bool (c == 10)) [
    | inl t ↦ rw (f, t) (ap (λ (n : ℕ). with_char n (unescaped rest)) (sym (eqb-true c 10 t)))
    | inr g ↦ (elim (cases_Bool (c == 13)) [
      | inl t ↦ rw (f, g, t) (ap (λ (n : ℕ). with_char n (unescaped rest)) (sym (eqb-true c 13 t)))
      | inr k ↦ (elim (cases_Bool (c == 92)) [
        | inl t ↦ rw (f, g, k, t) (ap (λ (n : ℕ). with_char n (unescaped rest)) (sym (eqb-true c 92 t)))
        | inr l ↦ rw (f, g, k, l) (plain_char c rest l)
      ])
    ])
  ])
]

pub escaped_back : (text : List ℕ) → unescaped (escaped text) ≡ Some text
escaped_back [] = refl
escaped_back (c ∷ text) = char_back c (escaped text) ∙ ap (with_char c) (escaped_back text)
