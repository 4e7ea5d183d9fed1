use Rattle.std.proofs.Common.{◌≡◌, ℕ, ◌<◌, ◌≤◌, ◌+◌, ◌%◌, ◌/◌, ◌^◌, List, [], ◌∷◌, ◌++◌, Result, Ok, Err, OnOk, sym, ap, ◌∙◌, arith, append_assoc}
use Rattle.std.specs.Fmt.{decimal}
use Rattle.std.proofs.lemmas.Fmt.{decimal_digit, decimal_step}
use Rattle.vtd_listing.proofs.lines.+push_decimal.Goals as goal

to : {E : Type 0} (r : Result (Unit {0}) E) (xs ys zs : List ℕ) → ys ≡ zs → OnOk r (xs ≡ ys) → OnOk r (xs ≡ zs)
to (Ok x) xs ys zs e h = h ∙ e
to (Err x) xs ys zs e h = tt

pub returns-then-number-lt10 : goal.returns-then-number-lt10
returns-then-number-lt10 t c = to c.push_digit.result _ _ _ (ap (λ (d : List ℕ). c.args.lines.now.items ++ d) (sym
    (decimal_digit c.args.number c.if-number-lt10.true))) c.push_digit.ensures

more : (n : ℕ) (old now : List ℕ) → 10 ≤ n → n < 2 ^ 64 → now ≡ old ++ decimal (n / 10) → now ++ (48 + n % 10) ∷ [] ≡ old ++ decimal n
more n old now h small e = ap (λ (xs : List ℕ). xs ++ (48 + n % 10) ∷ []) e ∙ append_assoc old (decimal (n / 10)) ((48 + n % 10) ∷ [])
    ∙ ap (λ (xs : List ℕ). old ++ xs) (sym (decimal_step n h small))

pub returns : goal.returns
returns t c = to c.push_digit-2.result _ _ _ (more c.args.number c.args.lines.now.items _ (let l = c.if-number-lt10.false in omega arith) (let s =
    c.ranges.number.fits in omega arith) c.in_ok-push_decimal.ensures) c.push_digit-2.ensures
