-- Numbers in bytes, the highest byte first (this project's own).
use Rattle.std.specs.Prelude.{◌≡◌, ℕ, zero, suc, ◌/◌, ◌%◌, ◌<◌, ◌^◌, List, [], ◌∷◌, ◌++◌, length, drop, slice_index}
use Rattle.byteorder.specs.Endian.{big_number, big_bytes}

-- the number in the first n bytes
unfoldable pub number : ℕ → List ℕ → ℕ
number n bytes = big_number n bytes

-- the first k numbers of n bytes each
abbrev pub numbers : ℕ → ℕ → List ℕ → List ℕ
numbers n zero bytes = []
numbers n (suc k) bytes = number n bytes ∷ numbers n k (drop n bytes)

-- all of them
unfoldable pub words_in : ℕ → List ℕ → List ℕ
words_in n bytes = numbers n (length bytes / n) bytes

-- the n bytes of a number
unfoldable pub number_bytes : ℕ → ℕ → List ℕ
number_bytes n x = big_bytes n x

-- the bytes of numbers, n each
abbrev pub bytes_of : ℕ → List ℕ → List ℕ
bytes_of n [] = []
bytes_of n (x ∷ xs) = number_bytes n x ++ bytes_of n xs

-- whole numbers of n bytes each, no more than 32 bits count
pub record AreWords (n : ℕ) (bytes : List ℕ) : Type 0 where
  pub whole : length bytes % n ≡ 0
  pub few : length bytes / n < 2 ^ 32

-- all of a list are bytes
abbrev pub AreBytes : List ℕ → Type 0
AreBytes bytes = (k : ℕ) → slice_index bytes k < 256
