-- A run by its first bytes.
use Rattle.std.proofs.Common.{◌≡◌, ℕ, suc, zero, ◌+◌, ◌<◌, ◌≤◌, Bool, inl, inr, List, [], ◌∷◌, length, take, drop, refl, ap, arith}
use Rattle.std.specs.List.{prefix_len}
use Rattle.std.proofs.lemmas.Bool.{cases_Bool}
use Rattle.std.proofs.lemmas.List.{drop-drop, length-drop}
use Rattle.std.proofs.lemmas.List.Sums.{prefix_len-le-length}

short_front : (q : ℕ → Bool) (n : ℕ) (xs : List ℕ) → prefix_len q (take n xs) < n → prefix_len q xs ≡ prefix_len q (take n xs)
short_front q zero xs h = absurd (omega arith)
short_front q (suc n) [] h = refl
short_front q (suc n) (x ∷ xs) h = elim (cases_Bool (q x)) [
  | inl t ↦
      let less : 1 + prefix_len q (take n xs) < suc n = rw t at h in
      let e : prefix_len q xs ≡ prefix_len q (take n xs) = short_front q n xs (omega arith) in
      rw (t, e) refl
  | inr f ↦ rw f refl
]

full_front : (q : ℕ → Bool) (n : ℕ) (xs : List ℕ) → prefix_len q (take n xs) ≡ n → prefix_len q xs ≡ n + prefix_len q (drop n xs)
full_front q zero xs h = omega arith
full_front q (suc n) [] h = absurd (omega arith)
full_front q (suc n) (x ∷ xs) h = elim (cases_Bool (q x)) [
  | inl t ↦
      let same : 1 + prefix_len q (take n xs) ≡ suc n = rw t at h in
      let e : prefix_len q xs ≡ n + prefix_len q (drop n xs) = full_front q n xs (omega arith) in
      rw (t, e) (omega arith)
  | inr f ↦ absurd (let none : 0 ≡ suc n = rw f at h in omega arith)
]

-- a run that ends in the first bytes at a place
pub run_ends : (q : ℕ → Bool) (bytes : List ℕ) (at n r : ℕ) → r ≡ prefix_len q (take n (drop at bytes)) → r < n → at + r ≡ at + prefix_len q (drop at bytes)
run_ends q bytes at n r is less = omega (arith, is, short_front q n (drop at bytes) (omega (arith, is)))

pub ends_within : (q : ℕ → Bool) (bytes : List ℕ) (at n r : ℕ) → at ≤ length bytes → r ≡ prefix_len q (take n (drop at bytes)) → r < n → at + r ≤ length bytes
ends_within q bytes at n r within is less =
    omega (arith, is, short_front q n (drop at bytes) (omega (arith, is)), prefix_len-le-length q (drop at bytes), length-drop at bytes)

-- a run that goes on behind them
pub run_goes : (q : ℕ → Bool) (bytes : List ℕ) (at n r : ℕ) → r ≡ prefix_len q (take n (drop at bytes)) → r ≡ n → at + n + prefix_len q (drop (at + n) bytes) ≡ at + prefix_len q (drop at bytes)
run_goes q bytes at n r is full =
    let e : prefix_len q (drop at bytes) ≡ n + prefix_len q (drop n (drop at bytes)) = full_front q n (drop at bytes) (omega (arith, is)) in
    let d : prefix_len q (drop n (drop at bytes)) ≡ prefix_len q (drop (at + n) bytes) = ap (prefix_len q) (drop-drop n at bytes) in
    omega (arith, e, d)
