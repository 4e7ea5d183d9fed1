-- A fingerprint filter in which no key is noted.
use Rattle.std.proofs.Common.{◌≡◌, ℕ, zero, suc, ◌+◌, ◌-◌, ◌*◌, ◌/◌, ◌%◌, ◌^◌, ◌<◌, ◌≤◌, ◌⊎◌, inl, inr, ⊎_elim, Bool, true, false, ◌||◌, List, [], ◌∷◌, length, take, drop, set, get_or, min, fold, refl, ap, sym, subst, ◌∙◌, arith}
use Rattle.std.specs.Prelude.{replicate, slice_range}
use Rattle.std.specs.List.{slice_index_or, list_any}
use Rattle.std.proofs.lemmas.Bool.{false≢true, false_from_ne_true, cases_lt}
use Rattle.std.proofs.lemmas.List.{get_or-take, get_or-drop, get_or-set_same, get_or-set_other, length-take, length-drop, length-set}
use Rattle.std.proofs.lemmas.Bool.Decides.{nat_tests}
use Rattle.vtd_text.specs.Fingerprints.{mixed, mark_of, bucket_of, in_bucket, is_mark_for, is_taken}

-- what a list of zeros has anywhere
pub zeros : (m k : ℕ) → ◌≡◌ {A = ℕ} (slice_index_or (replicate m 0) k 0) 0
zeros zero k = refl
zeros (suc m) zero = refl
zeros (suc m) (suc k) = zeros m k

-- what a slot holds that no key has taken stands for no mark
free_for : (n : ℕ) → is_mark_for (n + 1) 0 ≡ false
free_for n = grind (arith, nat_tests)

-- a slot of a bucket
one_slot : (slots : List ℕ) (b i : ℕ) → i < 16 → get_or (in_bucket b slots) i 0 ≡ get_or slots (16 * b + i) 0
one_slot slots b i l = get_or-take 16 (drop (16 * b) slots) i 0 l ∙ get_or-drop (16 * b) slots i 0

any_at : (f : ℕ → Bool) (xs : List ℕ) (i : ℕ) → i < length xs → f (get_or xs i 0) ≡ true → list_any f xs ≡ true
any_at f [] i l e = absurd (omega (arith, l))
any_at f (x ∷ xs) zero l e = rw e refl
any_at f (x ∷ xs) (suc i) l e = by (f x) (any_at f xs i (omega (arith, l)) e)
  where
    by : (b : Bool) → list_any f xs ≡ true → (b || list_any f xs) ≡ true
    by true h = refl
    by false h = h

any_place : (f : ℕ → Bool) (xs : List ℕ) → list_any f xs ≡ true → (i : ℕ) × (i < length xs) × (f (get_or xs i 0) ≡ true)
any_place f [] h = absurd (false≢true h)
any_place f (x ∷ xs) h = by (λ k. any_place f xs k) (f x) refl h
  where
    by : (list_any f xs ≡ true → (i : ℕ) × (i < length xs) × (f (get_or xs i 0) ≡ true)) → (b : Bool) → f x ≡ b → (b || list_any f xs) ≡ true → (i : ℕ) × (i < length (x ∷ xs)) × (f (get_or (x ∷ xs) i 0) ≡ true)
    by _ true e k = (0, omega arith, e)
    by others false e k = let w = others k in (suc w.0, (let l : w.0 < length xs = w.1 in omega (arith, l)), w.2)

bucket_long : (slots : List ℕ) (b : ℕ) → length (in_bucket b slots) ≡ min 16 (length slots - 16 * b)
bucket_long slots b = length-take 16 (drop (16 * b) slots) ∙ ap (min 16) (length-drop (16 * b) slots)

equal_or : (m n : ℕ) → (m ≡ n) ⊎ (m ≡ n → ⊥)
equal_or m n = ⊎_elim (λ s. inr (λ e. omega (arith, e, s))) (λ s. ⊎_elim (λ t. inr (λ e. omega (arith, e, t))) (λ t. inl (omega (arith, s, t))) (cases_lt n m)) (cases_lt m n)

-- a slot that stands for more marks than before
pub still_taken : (f : ℕ → Bool) (slots : List ℕ) (b slot held : ℕ) → (f (get_or slots slot 0) ≡ true → f held ≡ true) → list_any f (in_bucket b slots) ≡ true → list_any f (in_bucket b (set slots slot held)) ≡ true
still_taken f slots b slot held more h =
    let w = any_place f (in_bucket b slots) h in
    let i = w.0 in
    let l : i < length (in_bucket b slots) = w.1 in
    let few : i < 16 = omega (arith, l, bucket_long slots b) in
    let within : 16 * b + i < length slots = omega (arith, l, bucket_long slots b) in
    let there : f (get_or slots (16 * b + i) 0) ≡ true = ap f (sym (one_slot slots b i few)) ∙ w.2 in
    any_at f (in_bucket b (set slots slot held)) i (omega (arith, l, bucket_long slots b, bucket_long (set slots slot held) b, length-set slots slot held))
    (ap f (one_slot (set slots slot held) b i few) ∙ ⊎_elim
    (λ e.
    let same : get_or (set slots slot held) (16 * b + i) 0 ≡ held = ap (λ k. get_or (set slots slot held) k 0) e ∙ get_or-set_same slots slot held 0 (omega (arith, within, e)) in
    ap f same ∙ more (ap (λ k. f (get_or slots k 0)) (sym e) ∙ there))
    (λ e. ap f (get_or-set_other slots slot (16 * b + i) held 0 e) ∙ there) (equal_or (16 * b + i) slot))

pub taken_now : (f : ℕ → Bool) (slots : List ℕ) (b i held : ℕ) → i < 16 → 16 * b + 16 ≤ length slots → f held ≡ true → list_any f (in_bucket b (set slots (16 * b + i) held)) ≡ true
taken_now f slots b i held l w h =
    any_at f (in_bucket b (set slots (16 * b + i) held)) i (omega (arith, l, w, bucket_long (set slots (16 * b + i) held) b, length-set slots (16 * b + i) held))
    (ap f (one_slot (set slots (16 * b + i) held) b i l ∙ get_or-set_same slots (16 * b + i) held 0 (omega (arith, l, w))) ∙ h)

-- what is read off a bucket by a fingerprint
pub by_fingerprint : (slots key part : List ℕ) (fingerprint mark bucket : ℕ) → fingerprint ≡ fold mixed 0 key → mark ≡ fingerprint % 65_521 + 1 → bucket ≡ mixed fingerprint 0 / 2 ^ 19 → part ≡ slice_range slots (16 * bucket) (16 * bucket + 16) → list_any (is_mark_for mark) part ≡ is_taken slots key
by_fingerprint slots key part fingerprint mark bucket e m b p =
    let sixteen : 16 * bucket + 16 - 16 * bucket ≡ 16 = omega arith in
    ap (list_any (is_mark_for mark)) (p ∙ ap (λ n. take n (drop (16 * bucket) slots)) sixteen)
    ∙ ap (λ k. list_any (is_mark_for mark) (in_bucket k slots)) (b ∙ ap (λ x. mixed x 0 / 2 ^ 19) e)
    ∙ ap (λ k. list_any (is_mark_for k) (in_bucket (bucket_of key) slots)) (m ∙ ap (λ x. x % 65_521 + 1) e)

pub noted_by : (slots key : List ℕ) (fingerprint mark bucket i held : ℕ) → fingerprint ≡ fold mixed 0 key → mark ≡ fingerprint % 65_521 + 1 → bucket ≡ mixed fingerprint 0 / 2 ^ 19 → i < 16 → 16 * bucket + 16 ≤ length slots → is_mark_for mark held ≡ true →
    is_taken (set slots (16 * bucket + i) held) key ≡ true
noted_by slots key fingerprint mark bucket i held e m b l w h =
    subst (λ k. list_any (is_mark_for (mark_of key)) (in_bucket k (set slots (16 * bucket + i) held)) ≡ true) (b ∙ ap (λ x. mixed x 0 / 2 ^ 19) e)
    (subst (λ k. list_any (is_mark_for k) (in_bucket bucket (set slots (16 * bucket + i) held)) ≡ true) (m ∙ ap (λ x. x % 65_521 + 1) e) (taken_now (is_mark_for mark) slots bucket i held l w h))

-- no key has taken a slot, where all are free
pub none_taken : (slots : ℕ) (key : List ℕ) → is_taken (replicate slots 0) key ≡ false
none_taken slots key = false_from_ne_true _ (λ t.
    let w = any_place (is_mark_for (mark_of key)) (in_bucket (bucket_of key) (replicate slots 0)) t in
    let l : w.0 < length (in_bucket (bucket_of key) (replicate slots 0)) = w.1 in
    let few : w.0 < 16 = omega (arith, l, bucket_long (replicate slots 0) (bucket_of key)) in
    let free : get_or (in_bucket (bucket_of key) (replicate slots 0)) w.0 0 ≡ 0 = one_slot (replicate slots 0) (bucket_of key) w.0 few ∙ zeros slots (16 * bucket_of key + w.0) in
    false≢true (sym (free_for (fold mixed 0 key % 65_521)) ∙ ap (is_mark_for (mark_of key)) (sym free) ∙ w.2))
