-- From numbers back to their bytes.
use Rattle.std.specs.List.{AllByRecursion as Each}
use Rattle.std.proofs.Common.{drop_at, length-append, ◌≡◌, ℕ, zero, suc, ◌+◌, ◌*◌, ◌/◌, ◌^◌, ◌<◌, ◌≤◌, List, [], ◌∷◌, ◌++◌, length, take, drop, slice_index, refl, ap, sym, ◌∙◌, arith, append-nil}
use Rattle.std.proofs.Math.Nat.{mod-lt, mul-zero, mul-suc, mul_comm}
use Rattle.std.proofs.lemmas.Nat.{div-mul-add}
use Rattle.std.proofs.lemmas.List.{get_or-take, length-take, take-append-drop, length-drop}
use Rattle.std.specs.Int.{byte_at, bytes_high_first}
use Rattle.byteorder.specs.Endian.{big_number, big_bytes, big_from}
use Rattle.byteorder.specs.Numbers.{big_number-reads_back}
use Rattle.vtd_words.specs.Numbers.{number, numbers, words_in, number_bytes, bytes_of, AreBytes}
use Rattle.vtd_words.proofs.SameNumber.{big_number-same, big_from-fits}

small_byte : (n x : ℕ) → byte_at n x < 256
small_byte zero x = mod-lt x (omega arith)
small_byte (suc n) x = mod-lt (x / 256 ^ suc n) (omega arith)

length_high : (n x : ℕ) → length (bytes_high_first n x) ≡ n
length_high zero x = refl
length_high (suc n) x = ap suc (length_high n x)

cut_from : (i n m : ℕ) (xs : List ℕ) → i + n ≤ m → big_from i n (take m xs) ≡ big_from i n xs
cut_from i zero m xs h = refl
cut_from i (suc n) m xs h =
    let byte = get_or-take m xs i 0 (omega arith) in
    let rest = cut_from (suc i) n m xs (omega arith) in
    rw (byte, rest) refl

small_bytes : (n x k : ℕ) → slice_index (bytes_high_first n x) k < 256
small_bytes zero x k = omega arith
small_bytes (suc n) x zero = small_byte n x
small_bytes (suc n) x (suc k) = small_bytes n x k

pub take_bytes : (n : ℕ) (bytes : List ℕ) → AreBytes bytes → AreBytes (take n bytes)
take_bytes zero bytes a k = omega arith
take_bytes (suc n) [] a k = omega arith
take_bytes (suc n) (b ∷ bs) a zero = a zero
take_bytes (suc n) (b ∷ bs) a (suc k) = take_bytes n bs (λ j. a (suc j)) k

pub drop_bytes : (n : ℕ) (bytes : List ℕ) → AreBytes bytes → AreBytes (drop n bytes)
drop_bytes zero bytes a = a
drop_bytes (suc n) [] a = a
drop_bytes (suc n) (b ∷ bs) a = drop_bytes n bs (λ j. a (suc j))

-- the bytes of the number in some bytes are those
pub number_back : (n : ℕ) (bytes : List ℕ) → AreBytes bytes → n ≤ length bytes → number_bytes n (number n bytes) ≡ take n bytes
unfolding number number_bytes
number_back n bytes a within =
    let fits : big_number n bytes < 256 ^ n = big_from-fits 0 n bytes a in
    let whole : big_bytes n (big_number n bytes) ++ [] ≡ big_bytes n (big_number n bytes) = append-nil _ in
    let read : big_number n (big_bytes n (big_number n bytes)) ≡ big_number n bytes =
    ap (λ (xs : List ℕ). big_number n xs) (sym whole) ∙ big_number-reads_back n (big_number n bytes) [] fits in
    let cut : big_number n (take n bytes) ≡ big_number n bytes = cut_from 0 n n bytes (omega arith) in
    big_number-same n _ _ (length_high n _) (rw length-take (omega arith)) (small_bytes n _) (take_bytes n bytes a) (read ∙ sym cut)

-- the same for all numbers in bytes
numbers_back : (n k : ℕ) (bytes : List ℕ) → AreBytes bytes → length bytes ≡ n * k → bytes_of n (numbers n k bytes) ≡ bytes
numbers_back n zero [] a e = refl
numbers_back n zero (b ∷ bs) a e = absurd (omega (arith, mul-zero n))
numbers_back n (suc k) bytes a e =
    let m : n * suc k ≡ n * k + n = mul-suc n k in
    let first = number_back n bytes a (omega arith) in
    let rest = numbers_back n k (drop n bytes) (drop_bytes n bytes a) (rw length-drop (omega arith)) in
    rw (first, rest) (take-append-drop n bytes)

pub words_back : (n : ℕ) (bytes : List ℕ) → AreBytes bytes → length bytes ≡ n * (length bytes / n) → bytes_of n (words_in n bytes) ≡ bytes
unfolding words_in
words_back n bytes a e = numbers_back n (length bytes / n) bytes a e

-- and the words of the bytes of words are those
high_bytes : (n x : ℕ) → length (number_bytes n x) ≡ n
unfolding number_bytes
high_bytes n x = length_high n x

number_there : (n x : ℕ) (rest : List ℕ) → x < 256 ^ n → number n (number_bytes n x ++ rest) ≡ x
unfolding number number_bytes
number_there n x rest h = big_number-reads_back n x rest h

numbers_there : (n : ℕ) (ws : List ℕ) → Each (λ w. w < 256 ^ n) ws → numbers n (length ws) (bytes_of n ws) ≡ ws
numbers_there n [] h = refl
numbers_there n (w ∷ ws) h =
    let first = number_there n w (bytes_of n ws) h.0 in
    let left : drop n (number_bytes n w ++ bytes_of n ws) ≡ bytes_of n ws = drop_at (number_bytes n w) (bytes_of n ws) n (high_bytes n w) in
    rw (first, left) (ap (λ (l : List ℕ). w ∷ l) (numbers_there n ws h.1))

length_bytes : (n : ℕ) (ws : List ℕ) → length (bytes_of n ws) ≡ n * length ws
length_bytes n [] = sym (mul-zero n)
length_bytes n (w ∷ ws) = omega (arith, length-append (number_bytes n w) (bytes_of n ws), high_bytes n w, length_bytes n ws, mul-suc n (length ws))

pub words_there : (n : ℕ) (ws : List ℕ) → 0 < n → Each (λ w. w < 256 ^ n) ws → words_in n (bytes_of n ws) ≡ ws
unfolding words_in
words_there n ws pos h =
    let count : length (bytes_of n ws) / n ≡ length ws = ap (λ (k : ℕ). k / n) (length_bytes n ws) ∙ quotient n (length ws) pos in
    rw count (numbers_there n ws h)
  where
    quotient : (n k : ℕ) → 0 < n → n * k / n ≡ k
    quotient n k p = ap (λ (m : ℕ). m / n) (let e : n * k ≡ k * n + 0 = mul_comm n k ∙ (omega arith) in e) ∙ div-mul-add k n 0 p

-- the same law for numbers of lists that are cut
pub same_number : (n : ℕ) (xs ys : List ℕ) → length xs ≡ n → length ys ≡ n → AreBytes xs → AreBytes ys → number n xs ≡ number n ys → xs ≡ ys
unfolding number
same_number n xs ys a b c d e = big_number-same n xs ys a b c d e
