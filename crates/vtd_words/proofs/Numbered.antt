-- How many numbers there are in bytes, and which.
use Rattle.std.proofs.Common.{◌≡◌, ℕ, zero, suc, ◌+◌, ◌*◌, ◌/◌, ◌<◌, List, length, drop, slice_index, refl, ap, ◌∙◌, arith}
use Rattle.std.proofs.Math.Nat.{mul-suc, mul-zero}
use Rattle.std.proofs.lemmas.List.{drop-drop}
use Rattle.vtd_words.specs.Numbers.{number, numbers, words_in}

pub length_numbers : (n k : ℕ) (bytes : List ℕ) → length (numbers n k bytes) ≡ k
length_numbers n zero bytes = refl
length_numbers n (suc k) bytes = ap suc (length_numbers n k (drop n bytes))

pub length_words : (n : ℕ) (bytes : List ℕ) → length (words_in n bytes) ≡ length bytes / n
unfolding words_in
length_words n bytes = length_numbers n (length bytes / n) bytes

pub at_numbers : (n k : ℕ) (bytes : List ℕ) (i : ℕ) → i < k → slice_index (numbers n k bytes) i ≡ number n (drop (n * i) bytes)
at_numbers n zero bytes i low = absurd (omega arith)
at_numbers n (suc k) bytes zero low = rw mul-zero refl
at_numbers n (suc k) bytes (suc i) low =
    at_numbers n k (drop n bytes) i (omega arith) ∙ ap (λ (xs : List ℕ). number n xs) (drop-drop (n * i) n bytes ∙ ap (λ (j : ℕ). drop j bytes) (place n i))
  where
    place : (n i : ℕ) → n + n * i ≡ n * suc i
    place n i = omega (arith, mul-suc n i)

pub at_words : (n : ℕ) (bytes : List ℕ) (i : ℕ) → i < length bytes / n → slice_index (words_in n bytes) i ≡ number n (drop (n * i) bytes)
unfolding words_in
at_words n bytes i low = at_numbers n (length bytes / n) bytes i low
