-- A number's text as it is written.
use Rattle.std.proofs.Common.{◌≡◌, ℕ, suc, ◌*◌, ◌/◌, ◌%◌, ◌<◌, ◌≤◌, inl, inr, Bool, true, false, cond, List, [], ◌∷◌, ◌++◌, refl, sym, ◌∙◌, ap, arith}
use Rattle.std.proofs.Common.{append_assoc, append-nil}
use Rattle.std.specs.Prelude.{ℤ, pos, negsuc, nat_abs, map, ◌==◌, ◌&&◌, ◌^◌}
use Rattle.std.specs.List.{list_all}
use Rattle.std.specs.Int.{is_negative}
use Rattle.std.specs.Fmt.{decimal}
use Rattle.std.specs.Str.{IsAscii, chars}
use Rattle.std.proofs.lemmas.Bool.{cases_Bool, eqb-true}
use Rattle.std.proofs.lemmas.Bool.Decides.{nat_tests}
use Rattle.std.proofs.lemmas.Fmt.{IsAscii-decimal_wide}
use Rattle.std.proofs.lemmas.Str.{IsAscii-append, chars-IsAscii}
use Rattle.std.proofs.lemmas.Str.Ascii.{IsAscii-nil, IsAscii-cons}
use Rattle.xpath_values.specs.Numbers.{digit_at, six_places, without_zeros, after_point, unsigned_text, signed_text, one}
use Rattle.xpath_values.proofs.ProductLemmas.{below_is}
use Rattle.xpath_values.specs.Spelled.{minus, place, places, point_and_places}

-- whether digits are all 0
abbrev zeros : List ℕ → Bool
zeros ds = list_all (λ d. d == 48) ds

all_zeros : (ds : List ℕ) → zeros ds ≡ true → without_zeros ds ≡ []
all_zeros [] e = refl
all_zeros (d ∷ ds) e = ap (λ b. cond b [] (d ∷ without_zeros ds)) e

-- a digit that is 0 with none after it
abbrev Joins : ℕ → ℕ → Type 0
Joins r unit = (digit_at r unit == 48 && r % unit == 0) ≡ (r % (10 * unit) == 0)

more_zeros : (r unit : ℕ) (units : List ℕ) → Joins r unit → zeros (map (digit_at r) units) ≡ (r % unit == 0)
    → zeros (map (digit_at r) (unit ∷ units)) ≡ (r % (10 * unit) == 0)
more_zeros r unit units j e = ap (λ b. digit_at r unit == 48 && b) e ∙ j

and_right : (a b : Bool) → (a && b) ≡ true → b ≡ true
and_right true b e = e
and_right false true e = refl
and_right false false e = e

-- the first place, and then the rest
placed : (r unit : ℕ) (units : List ℕ) → zeros (map (digit_at r) (unit ∷ units)) ≡ (r % (10 * unit) == 0)
    → without_zeros (map (digit_at r) (unit ∷ units)) ≡ place r unit ++ without_zeros (map (digit_at r) units)
placed r unit units e =
    ap (λ b. cond b [] (digit_at r unit ∷ without_zeros (map (digit_at r) units))) e ∙ this (r % (10 * unit) == 0) e
  where
    this : (b : Bool) → zeros (map (digit_at r) (unit ∷ units)) ≡ b
        → cond b [] (digit_at r unit ∷ without_zeros (map (digit_at r) units))
        ≡ cond b [] (digit_at r unit ∷ []) ++ without_zeros (map (digit_at r) units)
    this true t = sym (all_zeros (map (digit_at r) units) (and_right (digit_at r unit == 48) (zeros (map (digit_at r) units)) t))
    this false t = refl

joins_1 : (r : ℕ) → Joins r 1
joins_1 r = grind (arith, nat_tests)

joins_10 : (r : ℕ) → Joins r 10
joins_10 r = grind (arith, nat_tests)

joins_100 : (r : ℕ) → Joins r 100
joins_100 r = grind (arith, nat_tests)

joins_1000 : (r : ℕ) → Joins r 1000
joins_1000 r = grind (arith, nat_tests)

joins_10000 : (r : ℕ) → Joins r 10000
joins_10000 r = grind (arith, nat_tests)

joins_100000 : (r : ℕ) → Joins r 100000
joins_100000 r = grind (arith, nat_tests)

no_digits : (r : ℕ) → true ≡ (r % 1 == 0)
no_digits r = grind (arith, nat_tests)

pub all_places : (r : ℕ) → without_zeros (six_places r) ≡ places r
all_places r =
    let z0 : zeros (map (digit_at r) []) ≡ (r % 1 == 0) = no_digits r in
    let z1 = more_zeros r 1 [] (joins_1 r) z0 in
    let z2 = more_zeros r 10 (1 ∷ []) (joins_10 r) z1 in
    let z3 = more_zeros r 100 (10 ∷ 1 ∷ []) (joins_100 r) z2 in
    let z4 = more_zeros r 1000 (100 ∷ 10 ∷ 1 ∷ []) (joins_1000 r) z3 in
    let z5 = more_zeros r 10000 (1000 ∷ 100 ∷ 10 ∷ 1 ∷ []) (joins_10000 r) z4 in
    let z6 = more_zeros r 100000 (10000 ∷ 1000 ∷ 100 ∷ 10 ∷ 1 ∷ []) (joins_100000 r) z5 in
    let p1 : List ℕ = place r 100000 in
    let p2 : List ℕ = place r 10000 in
    let p3 : List ℕ = place r 1000 in
    let p4 : List ℕ = place r 100 in
    let p5 : List ℕ = place r 10 in
    let p6 : List ℕ = place r 1 in
    placed r 100000 (10000 ∷ 1000 ∷ 100 ∷ 10 ∷ 1 ∷ []) z6
    ∙ ap (λ (l : List ℕ). p1 ++ l) (placed r 10000 (1000 ∷ 100 ∷ 10 ∷ 1 ∷ []) z5
    ∙ ap (λ (l : List ℕ). p2 ++ l) (placed r 1000 (100 ∷ 10 ∷ 1 ∷ []) z4
    ∙ ap (λ (l : List ℕ). p3 ++ l) (placed r 100 (10 ∷ 1 ∷ []) z3
    ∙ ap (λ (l : List ℕ). p4 ++ l) (placed r 10 (1 ∷ []) z2
    ∙ ap (λ (l : List ℕ). p5 ++ l) (placed r 1 [] z1 ∙ append-nil p6)))))
    ∙ joined p1 p2 p3 p4 p5 p6
  where
    joined : (a b c d e f : List ℕ) → a ++ (b ++ (c ++ (d ++ (e ++ f)))) ≡ ((((a ++ b) ++ c) ++ d) ++ e) ++ f
    joined a b c d e f = sym (simp append_assoc)

pub pointed : (r : ℕ) → r < 1000000 → point_and_places r ≡ after_point (without_zeros (six_places r))
pointed r low = elim (cases_Bool (r == 0)) [
  | inl t ↦ let z : r ≡ 0 = eqb-true r 0 t in rw z refl
  | inr f ↦
      let g : (r % (10 * 100000) == 0) ≡ false = grind (arith, nat_tests) in
      rw (all_places r, f, g) refl
]

ascii_place : (r unit : ℕ) → IsAscii (place r unit)
ascii_place r unit = this (r % (10 * unit) == 0)
  where
    this : (b : Bool) → IsAscii (cond b [] (digit_at r unit ∷ []))
    this true = IsAscii-nil
    this false = IsAscii-cons (digit_at r unit) [] (let d : digit_at r unit < 128 = omega arith in d) IsAscii-nil

ascii_places : (r : ℕ) → IsAscii (places r)
ascii_places r =
    IsAscii-append _ _ (IsAscii-append _ _ (IsAscii-append _ _ (IsAscii-append _ _ (IsAscii-append _ _ (ascii_place r 100000)
    (ascii_place r 10000)) (ascii_place r 1000)) (ascii_place r 100)) (ascii_place r 10)) (ascii_place r 1)

ascii_point : (r : ℕ) → IsAscii (point_and_places r)
ascii_point r = this (r == 0)
  where
    this : (b : Bool) → IsAscii (cond b [] ((46 ∷ []) ++ places r))
    this true = IsAscii-nil
    this false = IsAscii-cons 46 (places r) (omega arith) (ascii_places r)

ascii_minus : (b : Bool) → IsAscii (minus b)
ascii_minus true = IsAscii-cons 45 [] (omega arith) IsAscii-nil
ascii_minus false = IsAscii-nil

-- what is written, step by step
pub spelling_made : (n m : ℕ) (held now : List ℕ) (b : Bool) → m ≡ n % one → held ≡ minus b ++ decimal (n / one)
    → now ≡ held ++ point_and_places m → now ≡ minus b ++ unsigned_text n
spelling_made n m held now b e g h =
    let low : n % one < 1000000 = omega arith in
    h ∙ ap (λ k. held ++ point_and_places k) e ∙ ap (λ (l : List ℕ). held ++ l) (pointed (n % one) low)
    ∙ ap (λ (l : List ℕ). l ++ after_point (without_zeros (six_places (n % one)))) g
    ∙ append_assoc (minus b) (decimal (n / one)) (after_point (without_zeros (six_places (n % one))))

with_sign : (z : ℤ) → minus (is_negative z) ++ unsigned_text (nat_abs z) ≡ signed_text z
with_sign (pos n) = ap (λ b. minus b ++ unsigned_text n) (below_is (pos n))
with_sign (negsuc n) = ap (λ b. minus b ++ unsigned_text (suc n)) (below_is (negsuc n))

-- the text of the bytes
pub spelling_read : (z : ℤ) (n : ℕ) (b : Bool) (bs : List ℕ) → n ≤ 2 ^ 127 → n ≡ nat_abs z → b ≡ is_negative z → bs ≡ minus b ++ unsigned_text n
    → chars bs ≡ signed_text z
spelling_read z n b bs low e f g =
    let small : n / one < 10 ^ 64 = omega arith in
    let r : n % one < 1000000 = omega arith in
    let tail : List ℕ = after_point (without_zeros (six_places (n % one))) in
    let t : IsAscii tail = rw (← pointed (n % one) r) (ascii_point (n % one)) in
    let a : IsAscii (minus b ++ unsigned_text n) =
    IsAscii-append (minus b) (unsigned_text n) (ascii_minus b) (IsAscii-append (decimal (n / one)) tail (IsAscii-decimal_wide (n / one) small) t) in
    ap chars g ∙ chars-IsAscii (minus b ++ unsigned_text n) a ∙ ap (λ k. minus b ++ unsigned_text k) e
    ∙ ap (λ k. minus k ++ unsigned_text (nat_abs z)) f ∙ with_sign z
