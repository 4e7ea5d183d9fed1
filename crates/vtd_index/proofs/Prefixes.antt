-- A prefix of an index file is refused by its head.
use Rattle.std.proofs.Common.{◌≡◌, ℕ, zero, suc, ◌+◌, ◌-◌, ◌<◌, ◌≤◌, true, false, cond, nat_lt, ◌==◌, List, length, take, drop, codes, Err, refl, ap}
use Rattle.std.proofs.Common.{subst, sym, ◌∙◌, arith, inl, inr, ◌⊎◌, Bool, slice_index}
use Rattle.std.proofs.lemmas.Slice.Eq.{bytes_eq-Decides}
use Rattle.std.specs.Prelude.{bytes_eq}
use Rattle.std.proofs.lemmas.Bool.Decides.{nat_tests}
use Rattle.std.proofs.lemmas.Bool.{cases_lt}
use Rattle.std.proofs.lemmas.List.{length-take-le, drop-take, get_or-take, take-take}
use Rattle.byteorder.specs.Endian.{big_from}
use Rattle.vtd_words.specs.Numbers.{number}
use Rattle.vtd_index.specs.declared.head.Head.{Head}
use Rattle.vtd_index.specs.declared.faults.IndexFault.TheVariants.{Short, Size}
use Rattle.vtd_index.specs.declared.head.Version.{Version}
use Rattle.vtd_index.specs.declared.head.Version.TheVariants.{One, Two}
use Rattle.vtd_index.specs.Heads.{begins, document_at, magic as magic_of, head_in, end_of, with_size, head_from, head_of}
use Rattle.vtd_index.proofs.Heads.{IsHead}

cut_from : (i n m : ℕ) (xs : List ℕ) → i + n ≤ m → big_from i n (take m xs) ≡ big_from i n xs
cut_from i zero m xs h = refl
cut_from i (suc n) m xs h =
    let byte = get_or-take m xs i 0 (omega arith) in
    let rest = cut_from (suc i) n m xs (omega arith) in
    rw (byte, rest) refl

-- a number within a prefix is that of the whole
number_cut : (n p m k : ℕ) (file : List ℕ) → m ≡ p + k → n ≤ k → number n (drop p (take m file)) ≡ number n (drop p file)
unfolding number
number_cut n p m k file e within = rw (e, drop-take p k file) (cut_from 0 n k (drop p file) (omega arith))

head_cut : (v : Version) (m : ℕ) (file : List ℕ) → document_at v ≤ m → head_in v (take m file) ≡ head_in v file
head_cut One m file long =
    rw (
      number_cut 4 8 m (m - 8) file (omega arith) (omega arith),
      number_cut 4 12 m (m - 12) file (omega arith) (omega arith),
      number_cut 4 16 m (m - 16) file (omega arith) (omega arith),
      number_cut 4 20 m (m - 20) file (omega arith) (omega arith),
      number_cut 4 24 m (m - 24) file (omega arith) (omega arith),
    ) refl
head_cut Two m file long =
    rw (
      number_cut 4 8 m (m - 8) file (omega arith) (omega arith),
      number_cut 4 12 m (m - 12) file (omega arith) (omega arith),
      number_cut 4 16 m (m - 16) file (omega arith) (omega arith),
      number_cut 4 20 m (m - 20) file (omega arith) (omega arith),
      number_cut 4 24 m (m - 24) file (omega arith) (omega arith),
      number_cut 4 28 m (m - 28) file (omega arith) (omega arith),
      number_cut 4 32 m (m - 32) file (omega arith) (omega arith),
    ) refl

-- which version a file begins as
one_is_two : slice_index (codes "VTDIDX01") 7 ≡ slice_index (codes "VTDIDX02") 7 → ⊥
one_is_two e = absurd (omega (arith, e))

other_magic : (file : List ℕ) → begins Two file ≡ true → begins One file ≡ false
other_magic file e = by_test (begins One file) refl
  where
    by_test : (t : Bool) → begins One file ≡ t → t ≡ false
    by_test false m = refl
    by_test true m =
        let one = (bytes_eq-Decides (codes "VTDIDX01") (take 8 file)).0 m in
        let two = (bytes_eq-Decides (codes "VTDIDX02") (take 8 file)).0 e in
        let same : codes "VTDIDX01" ≡ codes "VTDIDX02" = one ∙ sym two in
        absurd (one_is_two (ap (λ (xs : List ℕ). slice_index xs 7) same))

-- the head of a file that is long enough and begins as a version
pub head_begun : (v : Version) (file : List ℕ) → 32 ≤ length file → begins v file ≡ true → head_of file ≡ head_from v file
head_begun One file long e = let t : nat_lt (length file) 32 ≡ false = grind (arith, nat_tests) in rw (t, e) refl
head_begun Two file long e =
    let t : nat_lt (length file) 32 ≡ false = grind (arith, nat_tests) in
    let o = other_magic file e in
    by_parts t o
  where
    by_parts : nat_lt (length file) 32 ≡ false → begins One file ≡ false → head_of file ≡ head_from Two file
    by_parts t o = rw (t, o, e) refl

pub document_from : (v : Version) → 32 ≤ document_at v
document_from One = omega arith
document_from Two = omega arith

-- Short below the length of the head, and else Size
pub prefix_refused : (file : List ℕ) (h : Head) (m : ℕ) → IsHead file h → m < length file
    → head_of (take m file) ≡ cond (nat_lt m (document_at h.version)) (Err Short) (Err Size)
prefix_refused file h m i low =
    let long : length (take m file) ≡ m = length-take-le m file (omega arith) in
    by_length (cases_lt m 32) (cases_lt m (document_at h.version)) long
  where
    v : Version
    v = h.version

    magic : 8 ≤ m → begins v (take m file) ≡ true
    magic e = ap (λ (bs : List ℕ). bytes_eq (magic_of v) bs) (take-take 8 m file e) ∙ i.front.magic

    sized : length (take m file) ≡ m → with_size (take m file) (head_in v file) ≡ Err Size
    sized long =
        let P : Head → Type 0 = λ x. with_size (take m file) x ≡ Err Size in
        let a : nat_lt 1073741823 h.document ≡ false = let s = i.short in grind (arith, nat_tests) in
        let b : (m == end_of h) ≡ false = let f = i.fills in grind (arith, nat_tests) in
        subst P i.front.is (rw (a, long, b) refl)

    begun : 32 ≤ m → length (take m file) ≡ m → head_of (take m file) ≡ head_from v (take m file)
    begun e long = head_begun v (take m file) (omega (arith, e, long)) (magic (omega (arith, e)))

    by_length : (m < 32) ⊎ (32 ≤ m) → (m < document_at v) ⊎ (document_at v ≤ m) → length (take m file) ≡ m
        → head_of (take m file) ≡ cond (nat_lt m (document_at v)) (Err Short) (Err Size)
    by_length (inl a) b long =
        let t : nat_lt m 32 ≡ true = grind (arith, nat_tests) in
        let d = document_from v in
        let u : nat_lt m (document_at v) ≡ true = grind (arith, nat_tests) in
        rw (long, t, u) refl
    by_length (inr a) (inl b) long =
        let u : nat_lt m (document_at v) ≡ true = grind (arith, nat_tests) in
        let w : nat_lt (length (take m file)) (document_at v) ≡ true = rw long u in
        begun a long ∙ rw (w, u) refl
    by_length (inr a) (inr b) long =
        let u : nat_lt m (document_at v) ≡ false = grind (arith, nat_tests) in
        let w : nat_lt (length (take m file)) (document_at v) ≡ false = rw long u in
        begun a long ∙ rw (w, u) (ap (λ (x : Head). with_size (take m file) x) (head_cut v m file b) ∙ sized long)
