-- A product of millionths by magnitudes, one of them cut at its point.
use Rattle.std.proofs.Common.{◌≡◌, ℕ, zero, suc, ◌+◌, ◌*◌, ◌/◌, ◌%◌, ◌≤◌, Bool, true, false, cond, ◌==◌, refl, sym, ◌∙◌, ap, arith}
use Rattle.std.proofs.Common.{Ok, Err, ◌<◌}
use Rattle.std.proofs.lemmas.Bool.Decides.{nat_tests}
use Rattle.std.specs.Int.{is_negative}
use borrow.Author.Differences.{false_is_lt}
use Rattle.std.specs.Prelude.{ℤ, pos, negsuc, neg_ℤ, nat_abs, nat_le}
use Rattle.xpath_tokens.specs.Numbers.{greatest}
use Rattle.xpath_values.specs.declared.Number.{Number}
use Rattle.xpath_values.specs.declared.Number.TheVariants.{Millionths}
use Rattle.xpath_values.specs.declared.ValueFault.{ValueFault}
use Rattle.xpath_values.specs.declared.ValueFault.TheVariants as fault
use Rattle.xpath_values.specs.Answers.{Answer, with}
use Rattle.xpath_values.specs.Numbers.{one, exactly, product}
use Rattle.xpath_values.specs.Products.{magnitude, with_sign, differ}

-- a magnitude by what is left, and how often a million goes
abbrev cut_shape : ℕ → ℕ → Answer ℕ
cut_shape r q = cond (r == 0) (cond (nat_le q greatest) (Ok q) (Err fault.Range)) (Err fault.Fraction)

pub shape_ok : (r q : ℕ) → r ≡ 0 → q ≤ greatest → Ok q ≡ cut_shape r q
shape_ok r q e l = grind (arith, nat_tests)

pub shape_range : (r q : ℕ) → r ≡ 0 → greatest < q → Err fault.Range ≡ cut_shape r q
shape_range r q e l = grind (arith, nat_tests)

pub shape_fraction : (r q : ℕ) → (r ≡ 0 → ⊥) → Err fault.Fraction ≡ cut_shape r q
shape_fraction r q e = grind (arith, nat_tests)

cut : (q r a b : ℕ) → a ≡ one * q + r → a * b ≡ one * (q * b) + r * b
cut q r a b e = ap (λ n. n * b) e ∙ omega arith

-- what is left of a product, and how often a million goes into it
cut_left : (a b : ℕ) → a * b % one ≡ a % one * b % one
cut_left a b =
    let d : a ≡ one * (a / one) + a % one = omega arith in
    let e : a * b ≡ one * (a / one * b) + a % one * b = cut (a / one) (a % one) a b d in
    omega arith

cut_whole : (a b : ℕ) → a * b / one ≡ a / one * b + a % one * b / one
cut_whole a b =
    let d : a ≡ one * (a / one) + a % one = omega arith in
    let e : a * b ≡ one * (a / one * b) + a % one * b = cut (a / one) (a % one) a b d in
    omega arith

pub magnitude_cut : (a b : ℕ) → cut_shape (a % one * b % one) (a / one * b + a % one * b / one) ≡ magnitude (a * b)
magnitude_cut a b =
    ap (λ r. cut_shape r (a / one * b + a % one * b / one)) (sym (cut_left a b))
    ∙ ap (λ q. cut_shape (a * b % one) q) (sym (cut_whole a b))

-- a number over a million with a sign
abbrev shape : ℕ → ℕ → Number → Answer Number
shape r q x = cond (r == 0) (cond (nat_le q greatest) (Ok x) (Err fault.Range)) (Err fault.Fraction)

abs_negative : (n : ℕ) → nat_abs (neg_ℤ (pos n)) ≡ n
abs_negative zero = refl
abs_negative (suc n) = refl

exactly_negative : (n : ℕ) → exactly (neg_ℤ (pos n)) (pos one) ≡ shape (n % one) (n / one) (Millionths (neg_ℤ (pos (n / one))))
exactly_negative zero = refl
exactly_negative (suc n) =
    ap (λ r. shape r (nat_abs (neg_ℤ (pos (suc n / one)))) (Millionths (neg_ℤ (pos (suc n / one))))) (abs_negative (suc n % one))
    ∙ ap (λ q. shape (suc n % one) q (Millionths (neg_ℤ (pos (suc n / one))))) (abs_negative (suc n / one))

spread : (t u : Bool) (n : ℕ) (f : ℕ → Number)
    → cond t (cond u (Ok (f n)) (Err fault.Range)) (Err fault.Fraction)
    ≡ with (cond t (cond u (Ok n) (Err fault.Range)) (Err fault.Fraction)) f
spread true true n f = refl
spread true false n f = refl
spread false u n f = refl

abbrev pub is_below : ℤ → Bool
is_below (pos n) = false
is_below (negsuc n) = true

abbrev by_magnitudes : ℤ → ℤ → Answer Number
by_magnitudes x y = with (magnitude (nat_abs x * nat_abs y)) (λ n. Millionths (with_sign (differ (is_below x) (is_below y)) n))

spread_at : (b : Bool) (n : ℕ) → shape (n % one) (n / one) (Millionths (with_sign b (n / one))) ≡ with (magnitude n) (λ m. Millionths (with_sign b m))
spread_at b n = spread (n % one == 0) (nat_le (n / one) greatest) (n / one) (λ m. Millionths (with_sign b m))

product_by_magnitudes : (x y : ℤ) → product x y ≡ by_magnitudes x y
product_by_magnitudes (pos a) (pos b) = spread_at false (a * b)
product_by_magnitudes (pos a) (negsuc b) = exactly_negative (a * suc b) ∙ spread_at true (a * suc b)
product_by_magnitudes (negsuc a) (pos b) = exactly_negative (suc a * b) ∙ spread_at true (suc a * b)
product_by_magnitudes (negsuc a) (negsuc b) = spread_at false (suc a * suc b)

pub below_is : (x : ℤ) → is_negative x ≡ is_below x
below_is (pos n) = sym (false_is_lt (pos n) (pos 0) (omega arith))
below_is (negsuc n) = refl

-- what the signs and the magnitudes give
pub product_ok : (x y z : ℤ) (n a b : ℕ) (s t d : Bool) → a ≡ nat_abs x → b ≡ nat_abs y → s ≡ is_negative x → t ≡ is_negative y
    → d ≡ differ s t → Ok n ≡ magnitude (a * b) → z ≡ with_sign d n → Ok (Millionths z) ≡ product x y
product_ok x y z n a b s t d ea eb es et ed e ez =
    let m : Ok n ≡ magnitude (nat_abs x * nat_abs y) =
    e ∙ ap (λ k. magnitude (k * b)) ea ∙ ap (λ k. magnitude (nat_abs x * k)) eb in
    let g : d ≡ differ (is_below x) (is_below y) =
    ed ∙ ap (λ k. differ k t) (es ∙ below_is x) ∙ ap (λ k. differ (is_below x) k) (et ∙ below_is y) in
    ap (λ k. Ok (Millionths k)) (ez ∙ ap (λ k. with_sign k n) g)
    ∙ ap (λ v. with v (λ k. Millionths (with_sign (differ (is_below x) (is_below y)) k))) m
    ∙ sym (product_by_magnitudes x y)

pub product_err : (x y : ℤ) (f : ValueFault) (a b : ℕ) → a ≡ nat_abs x → b ≡ nat_abs y → Err f ≡ magnitude (a * b) → Err f ≡ product x y
product_err x y f a b ea eb e =
    let m : Err f ≡ magnitude (nat_abs x * nat_abs y) =
    e ∙ ap (λ k. magnitude (k * b)) ea ∙ ap (λ k. magnitude (nat_abs x * k)) eb in
    ap (λ v. with v (λ k. Millionths (with_sign (differ (is_below x) (is_below y)) k))) m ∙ sym (product_by_magnitudes x y)
