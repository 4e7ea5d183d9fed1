-- Stored words that are compared with others.
use Rattle.std.proofs.Common.{◌≡◌, ℕ, zero, suc, ◌+◌, ◌<◌, Bool, true, false, cond, not, ◌&&◌, ◌==◌, nat_lt, List, [], ◌∷◌, length, take, slice_index}
use Rattle.std.proofs.Common.{Some, None, refl, ap, sym, ◌∙◌, arith}
use Rattle.std.proofs.lemmas.Bool.Decides.{nat_tests}
use Rattle.std.proofs.lemmas.List.{length-take}
use Rattle.vtd_location.specs.Differences.{differ}
use Rattle.vtd_builder.specs.Offered.{IsFirstRefused}
use Rattle.vtd_index.specs.Comparing.{is_other}

-- the same word is in both
record SameAt (stored words : List ℕ) (k : ℕ) : Type 0 where
  pub there : k < length stored
  pub same : slice_index stored k ≡ slice_index words k

same_test : (x y : ℕ) → x ≡ y → (x == y) ≡ true
same_test x y e = grind (arith, nat_tests)

other_test : (x y : ℕ) → (x ≡ y → ⊥) → (x == y) ≡ false
other_test x y e = grind (arith, nat_tests)

tail_same : (x y : ℕ) (xs ys : List ℕ) (k : ℕ) → SameAt (x ∷ xs) (y ∷ ys) (suc k) → SameAt xs ys k
tail_same x y xs ys k s = record { there = let h = s.there in omega arith; same = s.same }

differ_at : (n k m : ℕ) (stored words : List ℕ) → k < length words → ((j : ℕ) → j < k → SameAt stored words j) → (SameAt stored words k → ⊥)
    → m ≡ n + k → differ n stored words ≡ Some m
differ_at n k m stored [] within before here e = absurd (omega arith)
differ_at n zero m [] (y ∷ ys) within before here e = ap Some (let f : n ≡ m = omega arith in f)
differ_at n (suc k) m [] (y ∷ ys) within before here e = let h = (before 0 (omega arith)).there in absurd (omega arith)
differ_at n zero m (x ∷ xs) (y ∷ ys) within before here e =
    rw (other_test x y (λ s. here (record { there = omega arith; same = s }))) (ap Some (let f : n ≡ m = omega arith in f))
differ_at n (suc k) m (x ∷ xs) (y ∷ ys) within before here e =
    rw (same_test x y (before 0 (omega arith)).same)
    (differ_at (suc n) k m xs ys (omega arith) (λ j l. tail_same x y xs ys j (before (suc j) (omega arith)))
    (λ s. here (record { there = let h = s.there in omega arith; same = s.same })) (omega arith))

-- more is stored than there is
surplus : (n k m : ℕ) (stored : List ℕ) → k < length stored → m ≡ n + k → differ n stored (take k stored) ≡ Some m
surplus n k m [] within e = absurd (omega arith)
surplus n zero m (x ∷ xs) within e = ap Some (let f : n ≡ m = omega arith in f)
surplus n (suc k) m (x ∷ xs) within e = rw (same_test x x refl) (surplus (suc n) k m xs (omega arith) (omega arith))

pub stored_more : (k : ℕ) (stored words : List ℕ) → k < length stored → take k stored ≡ words → differ 0 stored words ≡ Some k
stored_more k stored words within e = ap (λ (ws : List ℕ). differ 0 stored ws) (sym e) ∙ surplus 0 k k stored within (omega arith)

-- equal lists have no difference, and lists with none are equal
pub same_none : (n : ℕ) (xs : List ℕ) → differ n xs xs ≡ None
same_none n [] = refl
same_none n (x ∷ xs) = rw (same_test x x refl) (same_none (suc n) xs)

pub none_same : (n : ℕ) (xs ys : List ℕ) → differ n xs ys ≡ None → xs ≡ ys
none_same n [] [] e = refl
none_same n [] (y ∷ ys) e = absurd (cc)
none_same n (x ∷ xs) [] e = absurd (cc)
none_same n (x ∷ xs) (y ∷ ys) e = by_test (x == y) refl e (none_same (suc n) xs ys)
  where
    by_test : (t : Bool) → (x == y) ≡ t → cond t (differ (suc n) xs ys) (Some n) ≡ None → (differ (suc n) xs ys ≡ None → xs ≡ ys) → x ∷ xs ≡ y ∷ ys
    by_test true z e ih = let first : x ≡ y = grind (arith, nat_tests, z) in let rest = ih e in cc
    by_test false z e ih = absurd (cc)

-- the test of the sink that compares
not_other : (stored words : List ℕ) (j : ℕ) → j < length words → is_other stored (take j words) (slice_index words j) ≡ false → SameAt stored words j
not_other stored words j within e =
    let l : length (take j words) ≡ j = rw length-take (omega arith) in
    let f = rw l at e in
    both (nat_lt j (length stored)) (slice_index stored j == slice_index words j) refl refl f
  where
    both : (s t : Bool) → nat_lt j (length stored) ≡ s → (slice_index stored j == slice_index words j) ≡ t → not (s && t) ≡ false → SameAt stored words j
    both true true a b h = record { there = grind (arith, nat_tests, a); same = grind (arith, nat_tests, b) }
    both true false a b h = absurd (cc)
    both false t a b h = absurd (cc)

other : (stored words : List ℕ) (j : ℕ) → j < length words → is_other stored (take j words) (slice_index words j) ≡ true → SameAt stored words j → ⊥
other stored words j within e s =
    let l : length (take j words) ≡ j = rw length-take (omega arith) in
    let f = rw l at e in
    let a : nat_lt j (length stored) ≡ true = let h = s.there in grind (arith, nat_tests) in
    let b : (slice_index stored j == slice_index words j) ≡ true = same_test _ _ s.same in
    let g = rw (a, b) at f in absurd (cc)

pub first_other : (stored words : List ℕ) (k : ℕ) → IsFirstRefused (is_other stored) [] words k → differ 0 stored words ≡ Some k
first_other stored words k r =
    differ_at 0 k k stored words r.within (λ j l. not_other stored words j (let w = r.within in omega arith) (r.before j l))
    (other stored words k r.within r.refused) (omega arith)
