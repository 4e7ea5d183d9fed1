-- The records of a text or a CDATA section: its bytes in cuts.
use Rattle.std.proofs.Common.{◌≡◌, ℕ, zero, suc, ◌+◌, ◌-◌, ◌*◌, ◌/◌, ◌<◌, ◌≤◌, true, false, cond, List, [], ◌∷◌, refl, ap, ap₂, ◌∙◌, arith, length, Some, None, nat_lt, le-ltb}
use Rattle.std.proofs.Math.Nat.{div-eq_of_lt, div-mul-le_self, lt-div-mul-add, div-eq-sub-div}
use Rattle.std.specs.List.{AllByRecursion as Each}
use Rattle.xml_model.specs.declared.Field.TheVariants as fields
use Rattle.xml_model.specs.Records.{Record, cut, cuts, full_cuts, cut_records}
use Rattle.xml_model.specs.Scan.{record_at}
use Rattle.xml_model.specs.Accepted.{is_name_token, too_wide, first_wide, wide_here}

-- so many full cuts leave 1 to 1,048,575 bytes, or nothing of nothing
pub record Cut (k n : ℕ) : Type 0 where
  pub least : k * 1_048_575 ≤ n
  pub most : n ≤ k * 1_048_575 + 1_048_575
  pub some : 0 < k → k * 1_048_575 < n

pub full_cut : (n : ℕ) → Cut (full_cuts n) n
full_cut n =
    let m = n - 1 in
    let low : m / 1_048_575 * 1_048_575 ≤ m = div-mul-le_self m 1_048_575 in
    let high : m < m / 1_048_575 * 1_048_575 + 1_048_575 = lt-div-mul-add {a = m} {b = 1_048_575} (omega arith) in
    record { least = omega (arith, low); most = omega (arith, high); some = λ h. omega (arith, low, h) }

cut_less : (k n : ℕ) → Cut (suc k) n → Cut k (n - 1_048_575)
cut_less k n c = record { least = omega (arith, c.least); most = omega (arith, c.most); some = λ h. omega (arith, c.some (omega arith)) }

-- a cut of n bytes from a place on
pub record IsCut (at n m o : ℕ) : Type 0 where
  pub starts : at ≤ o
  pub stops : o + m ≤ at + n
  pub most : m ≤ 1_048_575
  pub some : 0 < n → 0 < m

each_of_cuts : (P : Record → Type 0) (k token depth at n : ℕ) → Cut k n → ((m o : ℕ) → IsCut at n m o → P (cut token depth m o)) → Each P (cuts k token depth at n)
each_of_cuts P zero token depth at n c f = (f n at (record { starts = omega arith; stops = omega arith; most = omega (arith, c.most); some = λ h. h }), tt)
each_of_cuts P (suc k) token depth at n c f =
    let h = c.some (omega arith) in (
      f 1_048_575 at (record { starts = omega arith; stops = omega (arith, h); most = omega arith; some = λ j. omega arith }),
      each_of_cuts P k token depth (at + 1_048_575) (n - 1_048_575) (cut_less k n c)
          (λ m o i. f m o (record { starts = omega (arith, i.starts); stops = omega (arith, i.stops, h); most = i.most; some = λ j. i.some (omega (arith, h)) })),
    )

-- what holds of each cut holds of the records of a token
pub each_cut : (P : Record → Type 0) (token depth at n : ℕ) → ((m o : ℕ) → IsCut at n m o → P (cut token depth m o)) → Each P (cut_records token depth at n)
unfolding cut_records
each_cut P token depth at n f = each_of_cuts P (full_cuts n) token depth at n (full_cut n) f

-- the first cut, and those after it
pub record FirstCut (token depth at n : ℕ) : Type 0 where
  pub len : ℕ
  pub rest : List Record
  pub is : cut_records token depth at n ≡ cut token depth len at ∷ rest
  pub cut : IsCut at n len at

first_of_cuts : (k token depth at n : ℕ) → Cut k n → (len : ℕ) × (rest : List Record) × (cuts k token depth at n ≡ cut token depth len at ∷ rest) × IsCut at n len at
first_of_cuts zero token depth at n c = (n, [], refl, record { starts = omega arith; stops = omega arith; most = omega (arith, c.most); some = λ h. h })
first_of_cuts (suc k) token depth at n c =
    (1_048_575, cuts k token depth (at + 1_048_575) (n - 1_048_575), refl, record { starts = omega arith; stops = omega (arith, c.some (omega arith)); most = omega arith; some = λ j. omega arith })

pub first_cut : (token depth at n : ℕ) → FirstCut token depth at n
unfolding cut_records
first_cut token depth at n = let c = first_of_cuts (full_cuts n) token depth at n (full_cut n) in record { len = c.0; rest = c.1; is = c.2; cut = c.3 }

length_of_cuts : (k token depth at n : ℕ) → length (cuts k token depth at n) ≡ suc k
length_of_cuts zero token depth at n = refl
length_of_cuts (suc k) token depth at n = ap suc (length_of_cuts k token depth (at + 1_048_575) (n - 1_048_575))

-- their number
pub length_cuts : (token depth at n : ℕ) → length (cut_records token depth at n) ≡ suc (full_cuts n)
unfolding cut_records
length_cuts token depth at n = length_of_cuts (full_cuts n) token depth at n

pub some_cuts : (token depth at n : ℕ) → 0 < length (cut_records token depth at n)
some_cuts token depth at n = omega (arith, length_cuts token depth at n)

-- at most one for each byte, and one for none
pub few_cuts : (token depth at n : ℕ) → 0 < n → length (cut_records token depth at n) ≤ n
few_cuts token depth at n h = omega (arith, length_cuts token depth at n, (full_cut n).least, (full_cut n).some)

-- a short token has one record
pub one_cut : (token depth at n : ℕ) → n ≤ 1_048_575 → cut_records token depth at n ≡ cut token depth n at ∷ []
unfolding cut_records
one_cut token depth at n h = let none : full_cuts n ≡ 0 = div-eq_of_lt (omega arith) in ap (λ k. cuts k token depth at n) none

-- of a longer one the first cut has 1,048,575 bytes, and those after it are the records of the bytes that are left
pub more_cuts : (token depth at n : ℕ) → 1_048_575 < n →
    cut_records token depth at n ≡ cut token depth 1_048_575 at ∷ cut_records token depth (at + 1_048_575) (n - 1_048_575)
unfolding cut_records
more_cuts token depth at n h =
    let less : n - 1 - 1_048_575 ≡ n - 1_048_575 - 1 = omega arith in
    let one : full_cuts n ≡ suc (full_cuts (n - 1_048_575)) = div-eq-sub-div {m = 1_048_575} {n = n - 1} (omega arith) (omega arith) ∙ ap (λ m. m / 1_048_575 + 1) less ∙ omega arith in
    ap (λ k. cuts k token depth at n) one

-- twice their number is at most one more than the bytes
pub half_cuts : (token depth at n : ℕ) → 0 < n → 2 * length (cut_records token depth at n) ≤ n + 1
half_cuts token depth at n h = omega (arith, length_cuts token depth at n, (full_cut n).least, (full_cut n).some)

-- and of none it is two
pub empty_cuts : (token depth at n : ℕ) → 2 * length (cut_records token depth at n) ≤ n + 2
empty_cuts token depth at n = omega (arith, length_cuts token depth at n, (full_cut n).least, (full_cut n).some)

-- none is too wide for its record
pub narrow_cuts : (token depth at n : ℕ) → is_name_token token ≡ false → first_wide (cut_records token depth at n) ≡ None
unfolding first_wide
narrow_cuts token depth at n h = none (cut_records token depth at n) (each_cut (λ r. too_wide r ≡ None) token depth at n one)
  where
    one : (m o : ℕ) → IsCut at n m o → too_wide (cut token depth m o) ≡ None
    one m o i =
        ap (λ b. cond b (cond (nat_lt 2047 m) (Some fields.Name) (cond (nat_lt 511 0) (Some fields.Prefix) None)) (cond (nat_lt 1_048_575 m) (Some fields.Token) None)) h
        ∙ ap (λ b. cond b (Some fields.Token) None) (le-ltb 1_048_575 m i.most)

    none : (rs : List Record) → Each (λ r. too_wide r ≡ None) rs → first_wide rs ≡ None
    none [] k = refl
    none (r ∷ rs) k = ap₂ (λ a b. wide_here a r.offset b) k.0 (none rs k.1)

-- the last cut ends where the token does
pub record LastCut (token depth at n : ℕ) : Type 0 where
  pub len : ℕ
  pub offset : ℕ
  pub is : record_at (full_cuts n) (cut_records token depth at n) ≡ cut token depth len offset
  pub ends : offset + len ≡ at + n

last_of_cuts : (k token depth at n : ℕ) → Cut k n → (len : ℕ) × (offset : ℕ) × (record_at k (cuts k token depth at n) ≡ cut token depth len offset) × (offset + len ≡ at + n)
last_of_cuts zero token depth at n c = (n, at, refl, refl)
last_of_cuts (suc k) token depth at n c =
    let l = last_of_cuts k token depth (at + 1_048_575) (n - 1_048_575) (cut_less k n c) in
    (l.0, l.1, l.2, omega (arith, l.3, c.least))

pub last_cut : (token depth at n : ℕ) → LastCut token depth at n
unfolding cut_records
last_cut token depth at n = let l = last_of_cuts (full_cuts n) token depth at n (full_cut n) in record { len = l.0; offset = l.1; is = l.2; ends = l.3 }
