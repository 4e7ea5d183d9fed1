-- Words that are put into a buffer, and words that are added to a file.
use Rattle.std.proofs.Common.{◌≡◌, ℕ, zero, suc, ◌+◌, ◌*◌, ◌<◌, ◌≤◌, List, [], ◌∷◌, ◌++◌, length, take, drop, refl, ap, sym, ◌∙◌, arith, append_assoc}
use Rattle.std.proofs.Common.{append-nil, slice_index}
use Rattle.std.proofs.lemmas.List.{length-append, take-take, get_or-drop, length-drop, length-take-le, take_at, take-append-drop}
use Rattle.std.proofs.lemmas.Slice.{take-put_mid}
use Rattle.std.proofs.Math.Seq.{take-add, take-suc}
use Rattle.std.proofs.Math.Nat.{mul-suc}
use Rattle.std.specs.Int.{bytes_high_first}
use borrow.Rule.Slice.PartMut.{put_mid}
use Rattle.vtd_outside.specs.declared.Failed.{Failed}
use Rattle.vtd_outside.specs.Known.{SeenFiles}
use Rattle.vtd_outside.specs.Written.{Adds}
use Rattle.vtd_outside.proofs.Adds.{okay, failing, adds_then, adds_prefix}
use Rattle.vtd_words.specs.Numbers.{number_bytes, bytes_of}
use Rattle.vtd_index.specs.Sending.{Sent}

pub bytes_append : (n : ℕ) (xs ys : List ℕ) → bytes_of n (xs ++ ys) ≡ bytes_of n xs ++ bytes_of n ys
bytes_append n [] ys = refl
bytes_append n (x ∷ xs) ys = ap (λ (zs : List ℕ). number_bytes n x ++ zs) (bytes_append n xs ys)
    ∙ sym (append_assoc (number_bytes n x) (bytes_of n xs) (bytes_of n ys))

-- words that are put into a buffer
length_high : (n x : ℕ) → length (bytes_high_first n x) ≡ n
length_high zero x = refl
length_high (suc n) x = ap suc (length_high n x)

pub length_number : (n x : ℕ) → length (number_bytes n x) ≡ n
unfolding number_bytes
length_number n x = length_high n x

put_at : (place size k : ℕ) (chunk front rest new : List ℕ) → place ≤ length chunk → length front ≡ size → new ≡ front ++ rest
    → take (place + size) (put_mid place k chunk new) ≡ take place chunk ++ front
put_at place size k chunk front rest new within l e =
    let all = take-put_mid place k chunk new (place + length new) refl within in
    let long : size ≤ length new = rw (e, length-append) (omega arith) in
    let cut = take-take (place + size) (place + length new) (put_mid place k chunk new) (omega arith) in
    let lf : length (take place chunk ++ front) ≡ place + size = rw (length-append, length-take-le place chunk within) (omega arith) in
    sym cut ∙ ap (λ (xs : List ℕ). take (place + size) xs) (all ∙ ap (λ (xs : List ℕ). take place chunk ++ xs) e
    ∙ sym (append_assoc (take place chunk) front rest))
    ∙ take_at (take place chunk ++ front) rest (place + size) lf

pub one_more : (size k at i w : ℕ) (words chunk rest new : List ℕ) → size * i ≤ length chunk → at + i < length words → w ≡ slice_index words (at + i)
    → new ≡ number_bytes size w ++ rest → take (size * i) chunk ≡ bytes_of size (take i (drop at words))
    → take (size * (i + 1)) (put_mid (size * i) k chunk new) ≡ bytes_of size (take (i + 1) (drop at words))
one_more size k at i w words chunk rest new room within e n before =
    let place : size * (i + 1) ≡ size * i + size = mul_one size i in
    let inside : i < length (drop at words) = rw length-drop (omega arith) in
    let next : take (i + 1) (drop at words) ≡ take i (drop at words) ++ w ∷ [] =
    (let s : i + 1 ≡ suc i = omega arith in ap (λ (j : ℕ). take j (drop at words)) s) ∙ take-suc (drop at words) i 0 inside
    ∙ ap (λ (x : ℕ). take i (drop at words) ++ x ∷ []) (get_or-drop at words i 0 ∙ sym e) in
    rw (place, next) (put_at (size * i) size k chunk (number_bytes size w) rest new room (length_number size w) n
    ∙ ap (λ (xs : List ℕ). xs ++ number_bytes size w) before
    ∙ ap (λ (xs : List ℕ). bytes_of size (take i (drop at words)) ++ xs) (sym (append-nil (number_bytes size w)))
    ∙ sym (bytes_append size (take i (drop at words)) (w ∷ [])))
  where
    mul_one : (n i : ℕ) → n * (i + 1) ≡ n * i + n
    mul_one n i = let s : i + 1 ≡ suc i = omega arith in rw s (mul-suc n i)

-- words that are added to a file
sent_on : (size at count : ℕ) (words : List ℕ) → bytes_of size (take at words) ++ bytes_of size (take count (drop at words)) ≡ bytes_of size
    (take (at + count) words)
sent_on size at count words = sym (bytes_append size (take at words) (take count (drop at words)))
    ∙ ap (λ (xs : List ℕ). bytes_of size xs) (sym (take-add at count words))

pub sent_more : (s l t : SeenFiles) (size at count : ℕ) (words ys : List ℕ) (u : Unit {0}) → Sent s l size words at → at + count ≤ length words
    → ys ≡ bytes_of size (take count (drop at words))
    → Adds l t ys (okay {U = Unit {0}} {E = Failed} u) → Sent s t size words (at + count)
sent_more s l t size at count words ys u k within e a = record {
  within = within;
  adds = rw (sym (sent_on size at count words), sym e) (adds_then s l t (bytes_of size (take at words)) ys tt (okay {U = Unit {0}} {E = Failed} u) k.adds a);
  writing = a.ok;
}

pub sent_prefix : (s l t : SeenFiles) (size at count : ℕ) (words ys : List ℕ) (f : Failed) → Sent s l size words at
    → ys ≡ bytes_of size (take count (drop at words))
    → Adds l t ys (failing {U = Unit {0}} {E = Failed} f) → Adds s t (bytes_of size words) (failing {U = Unit {0}} {E = Failed} f)
sent_prefix s l t size at count words ys f k e a =
    let both = adds_then s l t (bytes_of size (take at words)) ys tt (failing {U = Unit {0}} {E = Failed} f) k.adds a in
    let whole : bytes_of size words ≡ (bytes_of size (take at words) ++ ys) ++ bytes_of size (drop (at + count) words) =
    ap (λ (xs : List ℕ). bytes_of size xs) (sym (take-append-drop (at + count) words)) ∙ bytes_append size (take (at + count) words) (drop (at + count) words)
    ∙ ap (λ (xs : List ℕ). xs ++ bytes_of size (drop (at + count) words))
    (sym (sent_on size at count words) ∙ ap (λ (xs : List ℕ). bytes_of size (take at words) ++ xs) (sym e)) in
    rw whole (adds_prefix s t _ (bytes_of size (drop (at + count) words)) f both)
