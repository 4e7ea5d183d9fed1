-- A scan of a spelling finds its number.
use Rattle.std.proofs.Common.{◌≡◌, ℕ, ◌+◌, ◌*◌, ◌-◌, ◌/◌, ◌<◌, ◌≤◌, Bool, true, false, cond, not, ◌&&◌, ◌||◌, ◌==◌, nat_lt, List, [], ◌∷◌, drop, Option}
use Rattle.std.proofs.Common.{Some, None, Result, Ok, Err, refl, sym, ◌∙◌, ap, arith, ◌⊎◌, inl, inr}
use Rattle.std.specs.Prelude.{fold}
use Rattle.std.specs.List.{list_any}
use Rattle.std.proofs.lemmas.Bool.{ltb-true, ltb-false}
use Rattle.xpath_tokens.specs.declared.numbers.NumberFault.{NumberFault}
use Rattle.xpath_tokens.specs.declared.numbers.NumberFault.TheVariants.{Fraction, Range}
use Rattle.xpath_tokens.specs.declared.numbers.NumberScan.{NumberScan}
use Rattle.xpath_tokens.specs.Numbers.{greatest, whole_digits, places, spelled, added, millionths, is_finer, number_value}
use Rattle.xpath_tokens.specs.Scanning.{scan_start, grown, scan_next, scan_value}

abbrev state : Option ℕ → ℕ → Bool → NumberScan
state u v f = record { value = v; unit = u; finer = f }

abbrev scanned_from : Option ℕ → ℕ → Bool → List ℕ → NumberScan
scanned_from u v f cs = fold scan_next (state u v f) cs

-- the value without a limit
abbrev exact : Option ℕ → ℕ → List ℕ → ℕ
exact u v [] = v
exact None v (c ∷ cs) = cond (c == 46) (exact (Some 100000) v cs) (exact None (10 * v + 1000000 * (c - 48)) cs)
exact (Some u) v (c ∷ cs) = exact (Some (u / 10)) (v + u * (c - 48)) cs

-- two values are the same, or both above the greatest
abbrev Same : ℕ → ℕ → Type 0
Same v w = (v ≡ w) ⊎ ((greatest < v) × (greatest < w))

grown_same : (v w x y : ℕ) → Same v w → w ≤ y → (v ≡ w → x ≡ y) → Same (grown v x) y
grown_same v w x y s le e = this (nat_lt greatest v) refl
  where
    this : (b : Bool) → nat_lt greatest v ≡ b → Same (cond b v x) y
    this true h =
        let l : greatest < v = ltb-true greatest v h in
        let k : greatest < y = elim s [ inl d ↦ omega arith | inr d ↦ let m = d.1 in omega arith ] in
        inr (l, k)
    this false h =
        let l : v ≤ greatest = ltb-false greatest v h in
        elim s [ inl d ↦ inl (e d) | inr d ↦ let m = d.0 in absurd (omega arith) ]

value_same : (u : Option ℕ) (v w : ℕ) (f : Bool) (cs : List ℕ) → Same v w → Same (scanned_from u v f cs).value (exact u w cs)
value_same u v w f [] s = s
value_same None v w f (c ∷ cs) s =
    this (value_same (Some 100000) v w f cs s) (value_same None (grown v (10 * v + 1000000 * (c - 48))) (10 * w + 1000000 * (c - 48)) f cs more) (c == 46)
  where
    more : Same (grown v (10 * v + 1000000 * (c - 48))) (10 * w + 1000000 * (c - 48))
    more = grown_same v w (10 * v + 1000000 * (c - 48)) (10 * w + 1000000 * (c - 48)) s (omega arith) (λ e. ap (λ z. 10 * z + 1000000 * (c - 48)) e)

    this : Same (scanned_from (Some 100000) v f cs).value (exact (Some 100000) w cs)
        → Same (scanned_from None (grown v (10 * v + 1000000 * (c - 48))) f cs).value (exact None (10 * w + 1000000 * (c - 48)) cs) → (b : Bool)
        → Same (fold scan_next (cond b (state (Some 100000) v f) (state None (grown v (10 * v + 1000000 * (c - 48))) f)) cs).value
        (cond b (exact (Some 100000) w cs) (exact None (10 * w + 1000000 * (c - 48)) cs))
    this i j true = i
    this i j false = j
value_same (Some u) v w f (c ∷ cs) s =
    value_same (Some (u / 10)) (grown v (v + u * (c - 48))) (w + u * (c - 48)) (f || (u == 0 && not (c == 48))) cs
    (grown_same v w (v + u * (c - 48)) (w + u * (c - 48)) s (omega arith) (λ e. ap (λ z. z + u * (c - 48)) e))

exact_added : (u v : ℕ) (cs : List ℕ) → exact (Some u) v cs ≡ v + added u cs
exact_added u v [] = omega arith
exact_added u v (c ∷ cs) = exact_added (u / 10) (v + u * (c - 48)) cs ∙ omega arith

exact_whole : (v : ℕ) (cs : List ℕ) → exact None (1000000 * v) cs ≡ 1000000 * spelled v (whole_digits cs) + added 100000 (places cs)
exact_whole v [] = omega arith
exact_whole v (c ∷ cs) = this (exact_whole (10 * v + (c - 48)) cs) (c == 46)
  where
    tens : 10 * (1000000 * v) + 1000000 * (c - 48) ≡ 1000000 * (10 * v + (c - 48))
    tens = omega arith

    this : exact None (1000000 * (10 * v + (c - 48))) cs ≡ 1000000 * spelled (10 * v + (c - 48)) (whole_digits cs) + added 100000 (places cs) → (b : Bool)
        → cond b (exact (Some 100000) (1000000 * v) cs) (exact None (10 * (1000000 * v) + 1000000 * (c - 48)) cs)
        ≡ 1000000 * spelled v (cond b [] (c ∷ whole_digits cs)) + added 100000 (cond b cs (places cs))
    this i true = exact_added 100000 (1000000 * v) cs
    this i false = ap (λ z. exact None z cs) tens ∙ i

-- a digit that is not 0
abbrev some_digit : List ℕ → Bool
some_digit cs = list_any (λ d. not (d == 48)) cs

or_false : (a : Bool) → a ≡ (a || false)
or_false true = refl
or_false false = refl

or_assoc : (a b c : Bool) → ((a || b) || c) ≡ (a || (b || c))
or_assoc true b c = refl
or_assoc false b c = refl

or_none : (a c : Bool) → ((a || false) || c) ≡ (a || c)
or_none true c = refl
or_none false c = refl

finer_zero : (v : ℕ) (f : Bool) (cs : List ℕ) → (scanned_from (Some 0) v f cs).finer ≡ (f || some_digit cs)
finer_zero v f [] = or_false f
finer_zero v f (c ∷ cs) = finer_zero (grown v (v + 0 * (c - 48))) (f || not (c == 48)) cs ∙ or_assoc f (not (c == 48)) (some_digit cs)

finer_one : (v : ℕ) (f : Bool) (cs : List ℕ) → (scanned_from (Some 1) v f cs).finer ≡ (f || some_digit (drop 1 cs))
finer_one v f [] = or_false f
finer_one v f (c ∷ cs) = finer_zero (grown v (v + 1 * (c - 48))) (f || false) cs ∙ or_none f (some_digit cs)

finer_ten : (v : ℕ) (f : Bool) (cs : List ℕ) → (scanned_from (Some 10) v f cs).finer ≡ (f || some_digit (drop 2 cs))
finer_ten v f [] = or_false f
finer_ten v f (c ∷ cs) = finer_one (grown v (v + 10 * (c - 48))) (f || false) cs ∙ or_none f (some_digit (drop 1 cs))

finer_100 : (v : ℕ) (f : Bool) (cs : List ℕ) → (scanned_from (Some 100) v f cs).finer ≡ (f || some_digit (drop 3 cs))
finer_100 v f [] = or_false f
finer_100 v f (c ∷ cs) = finer_ten (grown v (v + 100 * (c - 48))) (f || false) cs ∙ or_none f (some_digit (drop 2 cs))

finer_1000 : (v : ℕ) (f : Bool) (cs : List ℕ) → (scanned_from (Some 1000) v f cs).finer ≡ (f || some_digit (drop 4 cs))
finer_1000 v f [] = or_false f
finer_1000 v f (c ∷ cs) = finer_100 (grown v (v + 1000 * (c - 48))) (f || false) cs ∙ or_none f (some_digit (drop 3 cs))

finer_10000 : (v : ℕ) (f : Bool) (cs : List ℕ) → (scanned_from (Some 10000) v f cs).finer ≡ (f || some_digit (drop 5 cs))
finer_10000 v f [] = or_false f
finer_10000 v f (c ∷ cs) = finer_1000 (grown v (v + 10000 * (c - 48))) (f || false) cs ∙ or_none f (some_digit (drop 4 cs))

finer_100000 : (v : ℕ) (f : Bool) (cs : List ℕ) → (scanned_from (Some 100000) v f cs).finer ≡ (f || some_digit (drop 6 cs))
finer_100000 v f [] = or_false f
finer_100000 v f (c ∷ cs) = finer_10000 (grown v (v + 100000 * (c - 48))) (f || false) cs ∙ or_none f (some_digit (drop 5 cs))

finer_same : (v : ℕ) (cs : List ℕ) → (scanned_from None v false cs).finer ≡ is_finer cs
finer_same v [] = refl
finer_same v (c ∷ cs) = this (finer_same (grown v (10 * v + 1000000 * (c - 48))) cs) (c == 46)
  where
    this : (scanned_from None (grown v (10 * v + 1000000 * (c - 48))) false cs).finer ≡ is_finer cs → (b : Bool)
        → (fold scan_next (cond b (state (Some 100000) v false) (state None (grown v (10 * v + 1000000 * (c - 48))) false)) cs).finer
        ≡ some_digit (drop 6 (cond b cs (places cs)))
    this i true = finer_100000 v false cs
    this i false = i

lt_true : (a b : ℕ) → a < b → nat_lt a b ≡ true
lt_true a b h = this (nat_lt a b) refl
  where
    this : (x : Bool) → nat_lt a b ≡ x → x ≡ true
    this true e = refl
    this false e = let k = ltb-false a b e in absurd (omega arith)

-- what is known at the end, by its parts
abbrev ranged : ℕ → Result ℕ NumberFault
ranged v = cond (nat_lt greatest v) (Err Range) (Ok v)

ranged_same : (v w : ℕ) → Same v w → ranged v ≡ ranged w
ranged_same v w s =
    elim s [
      | inl e ↦ ap ranged e
      | inr h ↦ ap (λ b. cond b (Err Range) (Ok v)) (lt_true greatest v h.0) ∙ sym (ap (λ b. cond b (Err Range) (Ok w)) (lt_true greatest w h.1))
    ]

pub scanned : (t : List ℕ) → scan_value (fold scan_next scan_start t) ≡ number_value t
scanned t =
    let s = fold scan_next scan_start t in
    let e : exact None 0 t ≡ millionths t = exact_whole 0 t in
    ap (λ b. cond b (Err Fraction) (ranged s.value)) (finer_same 0 t)
    ∙ ap (λ z. cond (is_finer t) (Err Fraction) z) (ranged_same s.value (exact None 0 t) (value_same None 0 0 false t (inl refl)) ∙ ap ranged e)
