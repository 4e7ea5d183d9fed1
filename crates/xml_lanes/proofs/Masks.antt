-- From the mask of a load to the bytes that pass a test.
use Rattle.std.proofs.Common.{◌≡◌, ℕ, ◌+◌, ◌%◌, ◌^◌, ◌≤◌, Bool, true, false, not, cond, eqb, List, [], ◌∷◌, map, length, replicate, refl, sym, ap, ap₂, ◌∙◌, subst, arith, w8, Fits}
use Rattle.std.proofs.lemmas.Simd.{mask_l-mod, first_set_mask_l, length-chunk}
use Rattle.std.proofs.lemmas.Bool.{agree_below, agree_below_at}
use Rattle.std.proofs.lemmas.List.{length-map}
use Rattle.std.proofs.lemmas.List.Sums.{prefix_len-le-length}
use Rattle.std.specs.List.{prefix_len}
use lib.Lanes.{chunk, mask_l, top, Each1}
use Rattle.xml_lanes.specs.Lanes.{first_set}

each_byte : (f : ℕ → ℕ) (p : ℕ → Bool) → agree_below (λ x. top 7 (f x)) p 256 ≡ true → (v : List ℕ) → Each1 (Fits w8) v → map (top 7) (map f v) ≡ map p v
each_byte f p all [] fits = refl
each_byte f p all (x ∷ xs) fits = ap₂ (λ (a : Bool) (b : List Bool). a ∷ b) (agree_below_at (λ y. top 7 (f y)) p 256 x all fits.0.fits) (each_byte f p all xs fits.1)

-- a mask that is computed lane by lane is that of a test, where both agree at each of the 256 bytes
pub masked : (f : ℕ → ℕ) (p : ℕ → Bool) (v z : List ℕ) → length v ≤ 64 → Each1 (Fits w8) v → z ≡ map f v → agree_below (λ x. top 7 (f x)) p 256 ≡ true
    → mask_l (map (top 7) z) % 2 ^ 64 ≡ mask_l (map p v)
masked f p v z short fits e all =
    ap (λ (l : List Bool). mask_l l % 2 ^ 64) (ap (map (top 7)) e ∙ each_byte f p all v fits) ∙ mask_l-mod (map p v) 64 (subst (λ (n : ℕ). n ≤ 64) (sym (length-map v p)) short)

each_lane : (f : ℕ → ℕ) (p : ℕ → Bool) → ((x : ℕ) → top 7 (f x) ≡ p x) → (v : List ℕ) → map (top 7) (map f v) ≡ map p v
each_lane f p all [] = refl
each_lane f p all (x ∷ xs) = ap₂ (λ (a : Bool) (b : List Bool). a ∷ b) (all x) (each_lane f p all xs)

-- the same, where they agree at each number
pub masked_each : (f : ℕ → ℕ) (p : ℕ → Bool) (v z : List ℕ) → length v ≤ 64 → z ≡ map f v → ((x : ℕ) → top 7 (f x) ≡ p x)
    → mask_l (map (top 7) z) % 2 ^ 64 ≡ mask_l (map p v)
masked_each f p v z short e all =
    ap (λ (l : List Bool). mask_l l % 2 ^ 64) (ap (map (top 7)) e ∙ each_lane f p all v) ∙ mask_l-mod (map p v) 64 (subst (λ (n : ℕ). n ≤ 64) (sym (length-map v p)) short)

pub equal_lane : (byte x : ℕ) → top 7 (cond (eqb x byte) 255 0) ≡ not (not (eqb x byte))
equal_lane byte x = go (eqb x byte)
  where
    go : (b : Bool) → top 7 (cond b 255 0) ≡ not (not b)
    go true = refl
    go false = refl

not-not : (b : Bool) → not (not b) ≡ b
not-not true = refl
not-not false = refl

same_run : (q : ℕ → Bool) (xs : List ℕ) → prefix_len (λ x. not (not (q x))) xs ≡ prefix_len q xs
same_run q [] = refl
same_run q (x ∷ xs) = ap₂ (λ (b : Bool) (n : ℕ). cond b (1 + n) 0) (not-not (q x)) (same_run q xs)

-- the bytes of a load that pass
pub run_of : (q : ℕ → Bool) (bytes : List ℕ) (at m r : ℕ) → at + 16 ≤ length bytes → m ≡ mask_l (map (λ x. not (q x)) (chunk at 16 bytes)) → r ≡ first_set m → r ≡ prefix_len q (chunk at 16 bytes)
run_of q bytes at m r room e is =
    is ∙ ap first_set e ∙ first_set_mask_l (λ x. not (q x)) (chunk at 16 bytes) 16 (length-chunk at 16 bytes room) (omega arith) ∙ same_run q (chunk at 16 bytes)

pub run_few : (q : ℕ → Bool) (bytes : List ℕ) (at m r : ℕ) → at + 16 ≤ length bytes → m ≡ mask_l (map (λ x. not (q x)) (chunk at 16 bytes)) → r ≡ first_set m → r ≤ 16
run_few q bytes at m r room e is = omega (arith, run_of q bytes at m r room e is, prefix_len-le-length q (chunk at 16 bytes), length-chunk at 16 bytes room)

pub splat_is : (v : List ℕ) (n y : ℕ) → length v ≡ n → replicate n y ≡ map (λ _. y) v
splat_is [] n y e = ap (λ (k : ℕ). replicate k y) (sym e)
splat_is (x ∷ xs) n y e = ap (λ (k : ℕ). replicate k y) (sym e) ∙ ap (λ (r : List ℕ). y ∷ r) (splat_is xs (length xs) y refl)
