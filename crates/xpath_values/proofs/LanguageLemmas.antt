-- Languages, character by character.
use Rattle.std.proofs.Common.{◌≡◌, ℕ, Bool, true, false, List, [], ◌∷◌, ◌++◌, refl, sym, ◌∙◌, ap, arith}
use Rattle.std.specs.Prelude.{map, ◌==◌, ◌&&◌, ◌||◌, bytes_eq}
use Rattle.std.specs.Char.{to_ascii_lowercase, eq_ignore_ascii_case}
use Rattle.std.proofs.lemmas.Bool.Decides.{nat_tests}
use Rattle.xml_model.specs.Chars.{begins}
use Rattle.xpath_values.specs.Texts.{is_language}
use Rattle.xpath_values.specs.Translating.{agrees, goes_on}

hyphen : (c : ℕ) → (c == 45) ≡ (45 == to_ascii_lowercase c && true)
hyphen c = grind (arith, nat_tests)

same_sides : (a b : ℕ) → (a == b) ≡ (b == a)
same_sides a b = grind (arith, nat_tests)

shared : (a b x y : Bool) → a ≡ b → (a && (x || y)) ≡ ((a && x) || (b && y))
shared true b x y e = rw (← e) refl
shared false b x y e = rw (← e) refl

pub language_found : (value language : List ℕ) → agrees value language ≡ is_language value language
language_found [] [] = refl
language_found (c ∷ value) [] = hyphen c
language_found [] (d ∷ language) = refl
language_found (c ∷ value) (d ∷ language) =
    let l : ℕ → ℕ = to_ascii_lowercase in
    ap (λ b. (l c == l d) && b) (language_found value language)
    ∙ shared (l c == l d) (l d == l c) (bytes_eq (map l value) (map l language)) (begins (map l language ++ (45 ∷ [])) (map l value)) (same_sides (l c) (l d))

pub same_char : (value next language rest : List ℕ) (c d : ℕ) → value ≡ c ∷ next → language ≡ d ∷ rest → eq_ignore_ascii_case c d ≡ true
    → agrees next rest ≡ agrees value language
same_char value next language rest c d e f g = rw (e, f) (sym (ap (λ b. b && agrees next rest) g))

pub other_char : (value next language rest : List ℕ) (c d : ℕ) → value ≡ c ∷ next → language ≡ d ∷ rest → eq_ignore_ascii_case c d ≡ false
    → false ≡ agrees value language
other_char value next language rest c d e f g = rw (e, f) (sym (ap (λ b. b && agrees next rest) g))

pub no_char : (value language rest : List ℕ) (d : ℕ) → value ≡ [] → language ≡ d ∷ rest → false ≡ agrees value language
no_char value language rest d e f = rw (e, f) refl

pub name_ended : (value language : List ℕ) → language ≡ [] → goes_on value ≡ agrees value language
name_ended [] language e = rw e refl
name_ended (c ∷ value) language e = rw e refl
