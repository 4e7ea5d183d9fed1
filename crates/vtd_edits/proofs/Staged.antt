-- The keys of staged splices: each shows its splice, no two are equal, and some more of them come at the end.
use Rattle.std.proofs.Common.{◌≡◌, ℕ, zero, suc, ◌+◌, ◌/◌, ◌%◌, ◌^◌, ◌<◌, ◌≤◌, Bool, false, cond, nat_lt, eqb}
use Rattle.std.proofs.Common.{List, [], ◌∷◌, ◌++◌, length, map, take, filter, refl, sym, ap, ap₂, subst, ◌∙◌, arith}
use Rattle.std.proofs.Common.{append_assoc}
use Rattle.std.specs.List.{AllByRecursion, IsDistinct}
use Rattle.std.specs.List.Sorted.{IsPermutation, IsNonDecreasing}
use Rattle.std.proofs.lemmas.Bool.{lt-ltb, le-ltb, ne_eqb}
use Rattle.std.proofs.lemmas.Nat.{div-mul-add, mod-mul-add, same_from_place}
use Rattle.std.proofs.lemmas.List.{length-append}
use Rattle.std.proofs.Math.Seq.{get_or-append_seam}
use Rattle.std.proofs.lemmas.List.Sorted.{IsPermutation-append_left, IsPermutation-trans, IsPermutation-map}
use Rattle.vtd_edits.specs.declared.splice.Splice.{Splice}
use Rattle.vtd_edits.specs.declared.splice.Splice.TheVariants.{Insert}
use Rattle.vtd_edits.specs.Splices.{splice_at}
use Rattle.vtd_edits.specs.Order.{key, keys_from, order_of, rising, slot_of, splice_of, in_order}
use Rattle.vtd_edits.proofs.Keys.{filter_of_rising, rising_permutation, sorted_is_rising}

pub key_slot : (x : Splice) (n : ℕ) → n < 2 ^ 32 → key x n / 2 ^ 32 ≡ slot_of x
key_slot x n h = div-mul-add (slot_of x) (2 ^ 32) n h

pub key_index : (x : Splice) (n : ℕ) → n < 2 ^ 32 → key x n % 2 ^ 32 ≡ n
key_index x n h = mod-mul-add (slot_of x) (2 ^ 32) n h

-- keys with other indexes differ
keys_differ : (x : Splice) (m n : ℕ) (xs : List Splice) → m < n → n + length xs ≤ 2 ^ 32 → AllByRecursion (λ l. eqb (key x m) l ≡ false) (keys_from n xs)
keys_differ x m n [] l h = tt
keys_differ x m n (y ∷ xs) l h = (
  ne_eqb (key x m) (key y n) (λ e. (let p = same_from_place (slot_of x) m (slot_of y) n (2 ^ 32) (omega (arith, l, h)) (omega (arith, h)) e in omega
      (arith, p.1, l))),
  keys_differ x m (suc n) xs (omega (arith, l)) (omega (arith, h)),
)

pub keys_distinct : (n : ℕ) (xs : List Splice) → n + length xs ≤ 2 ^ 32 → IsDistinct eqb (keys_from n xs)
unfolding IsDistinct
keys_distinct n [] h = tt
keys_distinct n (x ∷ xs) h = (keys_differ x n (suc n) xs (omega arith) (omega (arith, h)), keys_distinct (suc n) xs (omega (arith, h)))

pub keys_append : (n : ℕ) (xs ys : List Splice) → keys_from n (xs ++ ys) ≡ keys_from n xs ++ keys_from (n + length xs) ys
keys_append n [] ys = ap (λ (m : ℕ). keys_from m ys) (omega arith)
keys_append n (x ∷ xs) ys =
    ap (λ (ks : List ℕ). key x n ∷ ks) (keys_append (suc n) xs ys ∙ ap (λ (m : ℕ). keys_from (suc n) xs ++ keys_from m ys) (omega arith))

-- a loop's step
pub keys_more : (n i : ℕ) (xs : List Splice) → i < length xs → keys_from n (take (i + 1) xs) ≡ keys_from n (take i xs) ++ (key (splice_at xs i) (n + i) ∷ [])
keys_more n i [] h = absurd (omega (arith, h))
keys_more n zero (x ∷ xs) h = ap (λ (m : ℕ). key x m ∷ []) (omega arith)
keys_more n (suc i) (x ∷ xs) h =
    ap (λ (m : ℕ). keys_from n (take m (x ∷ xs))) (let e : suc i + 1 ≡ suc (i + 1) = omega arith in e)
    ∙ ap (λ (ks : List ℕ). key x n ∷ ks) (keys_more (suc n) i xs (omega (arith, h))
    ∙ ap (λ (m : ℕ). keys_from (suc n) (take i xs) ++ (key (splice_at xs i) m ∷ [])) (omega arith))

-- The keys below an index are those of the first splices.

none_below : (m n : ℕ) (xs : List Splice) → n ≤ m → m + length xs ≤ 2 ^ 32 → filter (λ k. nat_lt (k % 2 ^ 32) n) (keys_from m xs) ≡ []
none_below m n [] l h = refl
none_below m n (x ∷ xs) l h =
    let i = key_index x m (omega (arith, h)) in
    ap (λ (b : Bool). cond b (key x m ∷ filter (λ k. nat_lt (k % 2 ^ 32) n) (keys_from (suc m) xs))
    (filter (λ k. nat_lt (k % 2 ^ 32) n) (keys_from (suc m) xs)))
    (ap (λ (j : ℕ). nat_lt j n) i ∙ le-ltb m n l)
    ∙ none_below (suc m) n xs (omega (arith, l)) (omega (arith, h))

first_keys : (m n : ℕ) (xs : List Splice) → m + length xs ≤ 2 ^ 32 → filter (λ k. nat_lt (k % 2 ^ 32) (m + n)) (keys_from m xs) ≡ keys_from m (take n xs)
first_keys m zero [] h = refl
first_keys m (suc n) [] h = refl
first_keys m zero (x ∷ xs) h = none_below m (m + 0) (x ∷ xs) (omega arith) h
first_keys m (suc n) (x ∷ xs) h =
    let i = key_index x m (omega (arith, h)) in
    let e : m + suc n ≡ suc m + n = omega arith in
    ap (λ (b : Bool). cond b (key x m ∷ filter (λ k. nat_lt (k % 2 ^ 32) (m + suc n)) (keys_from (suc m) xs))
    (filter (λ k. nat_lt (k % 2 ^ 32) (m + suc n)) (keys_from (suc m) xs)))
    (ap (λ (j : ℕ). nat_lt j (m + suc n)) i ∙ lt-ltb m (m + suc n) (omega arith))
    ∙ ap (λ (ks : List ℕ). key x m ∷ ks) (ap (λ (j : ℕ). filter (λ k. nat_lt (k % 2 ^ 32) j) (keys_from (suc m) xs)) e
    ∙ first_keys (suc m) n xs (omega (arith, h)))

fewer : (n : ℕ) (xs : List Splice) → length (take n xs) ≤ length xs
fewer zero xs = omega arith
fewer (suc n) [] = omega arith
fewer (suc n) (x ∷ xs) = (let m = fewer n xs in omega (arith, m))

-- the first splices are left: their order is that of the keys below their number
pub order_cut : (staged : List Splice) (n : ℕ) → length staged ≤ 2 ^ 32 → filter (λ k. nat_lt (k % 2 ^ 32) n) (order_of staged) ≡ order_of (take n staged)
unfolding order_of
order_cut staged n h =
    let p : ℕ → Bool = λ k. nat_lt (k % 2 ^ 32) n in
    let e : filter p (keys_from 0 staged) ≡ keys_from 0 (take n staged) =
    ap (λ (j : ℕ). filter (λ k. nat_lt (k % 2 ^ 32) j) (keys_from 0 staged)) (omega arith) ∙ first_keys 0 n staged (omega (arith, h)) in
    let few : 0 + length (take n staged) ≤ 2 ^ 32 = short n staged h in
    filter_of_rising p (keys_from 0 staged) (keys_distinct 0 staged (omega (arith, h)))
    (subst (IsDistinct eqb) (sym e) (keys_distinct 0 (take n staged) few))
    ∙ ap rising e
  where
    short : (n : ℕ) (xs : List Splice) → length xs ≤ 2 ^ 32 → 0 + length (take n xs) ≤ 2 ^ 32
    short n xs l = (let m = fewer n xs in omega (arith, l, m))

-- What a sort of all keys leaves is the order.
pub order_with : (staged list : List Splice) (order v : List ℕ) → order ≡ order_of staged → length staged + length list ≤ 2 ^ 32
    → IsPermutation (order ++ keys_from (length staged) list) v → IsNonDecreasing v → v ≡ order_of (staged ++ list)
unfolding order_of
order_with staged list order v o h p up =
    let ks : List ℕ = keys_from (length staged) list in
    let all : keys_from 0 (staged ++ list) ≡ keys_from 0 staged ++ ks = keys_append 0 staged list
    ∙ ap (λ (n : ℕ). keys_from 0 staged ++ keys_from n list) (omega arith) in
    let q : IsPermutation (order_of staged ++ ks) v = subst (λ (xs : List ℕ). IsPermutation (xs ++ ks) v) o p in
    let r : IsPermutation (keys_from 0 staged ++ ks) v =
    IsPermutation-trans (keys_from 0 staged ++ ks) (rising (keys_from 0 staged) ++ ks) v
    (IsPermutation-append_left ks (keys_from 0 staged) (rising (keys_from 0 staged)) (rising_permutation (keys_from 0 staged))) q in
    let s : IsPermutation (keys_from 0 (staged ++ list)) v = subst (λ (xs : List ℕ). IsPermutation xs v) (sym all) r in
    sorted_is_rising (keys_from 0 (staged ++ list)) v (keys_distinct 0 (staged ++ list) (let e = length-append staged list in omega (arith, h, e))) s up

-- Each key shows its splice.

-- a key is that of the splice with its index
pub record IsKey (staged : List Splice) (k : ℕ) : Type 0 where
  pub slot : k / 2 ^ 32 ≡ slot_of (splice_of staged k)
  pub below : k % 2 ^ 32 < length staged

shows : (done : List Splice) (x : Splice) (xs : List Splice) → length done < 2 ^ 32 → splice_of (done ++ x ∷ xs) (key x (length done)) ≡ x
shows done x xs h =
    ap (λ (i : ℕ). splice_at (done ++ x ∷ xs) i) (key_index x (length done) h)
    ∙ get_or-append_seam done x xs (Insert 0 [])

moved : (done : List Splice) (x : Splice) (xs : List Splice) → (done ++ x ∷ []) ++ xs ≡ done ++ x ∷ xs
moved [] x xs = refl
moved (y ∷ done) x xs = ap (λ (ys : List Splice). y ∷ ys) (moved done x xs)

-- from splices that are done, the others
are_keys : (done xs : List Splice) → length done + length xs ≤ 2 ^ 32 → AllByRecursion (IsKey (done ++ xs)) (keys_from (length done) xs)
are_keys done [] h = tt
are_keys done (x ∷ xs) h =
    let n : ℕ = length done in
    let less : n < 2 ^ 32 = omega (arith, h) in
    let more : length (done ++ x ∷ []) ≡ suc n = length-append done (x ∷ []) ∙ (let e : n + 1 ≡ suc n = omega arith in e) in
    let rest = are_keys (done ++ x ∷ []) xs (omega (arith, h, more)) in
    let P : List Splice → ℕ → Type 0 = λ ys m. AllByRecursion (IsKey ys) (keys_from m xs) in (
      record {
        slot = key_slot x n less ∙ sym (ap slot_of (shows done x xs less));
        below = (let i = key_index x n less in let e = length-append done (x ∷ xs) in omega (arith, i, e));
      },
      subst (λ (m : ℕ). P (done ++ x ∷ xs) m) more (subst (λ (ys : List Splice). P ys (length (done ++ x ∷ []))) (moved done x xs) rest),
    )

pub each_key : (staged : List Splice) → length staged ≤ 2 ^ 32 → AllByRecursion (IsKey staged) (keys_from 0 staged)
each_key staged h = are_keys [] staged (omega (arith, h))

show_splices : (done xs : List Splice) → length done + length xs ≤ 2 ^ 32 → map (splice_of (done ++ xs)) (keys_from (length done) xs) ≡ xs
show_splices done [] h = refl
show_splices done (x ∷ xs) h =
    let n : ℕ = length done in
    let more : length (done ++ x ∷ []) ≡ suc n = length-append done (x ∷ []) ∙ (let e : n + 1 ≡ suc n = omega arith in e) in
    let rest : map (splice_of ((done ++ x ∷ []) ++ xs)) (keys_from (length (done ++ x ∷ [])) xs) ≡ xs = show_splices (done ++ x ∷ []) xs
    (omega (arith, h, more)) in
    ap₂ (λ (y : Splice) (ys : List Splice). y ∷ ys) (shows done x xs (omega (arith, h)))
    (ap₂ (λ (ys : List Splice) (m : ℕ). map (splice_of ys) (keys_from m xs)) (sym (moved done x xs)) (sym more) ∙ rest)

-- the keys in staging order show the splices in staging order
pub keys_show : (staged : List Splice) → length staged ≤ 2 ^ 32 → map (splice_of staged) (keys_from 0 staged) ≡ staged
keys_show staged h = show_splices [] staged (omega (arith, h))

pub order_permutation : (staged : List Splice) → length staged ≤ 2 ^ 32 → IsPermutation staged (in_order staged)
unfolding order_of
order_permutation staged h =
    subst (λ (xs : List Splice). IsPermutation xs (in_order staged)) (keys_show staged h)
    (IsPermutation-map (splice_of staged) (keys_from 0 staged) (rising (keys_from 0 staged)) (rising_permutation (keys_from 0 staged)))

pub keys_step : (n i : ℕ) (xs : List Splice) (x : Splice) (old now more : List ℕ) → i < length xs → splice_at xs i ≡ x → now ≡ old ++ keys_from n (take i xs)
    → more ≡ now ++ key x (n + i) ∷ [] → more ≡ old ++ keys_from n (take (i + 1) xs)
keys_step n i xs x old now more h e a b =
    b
    ∙ ap (λ (ks : List ℕ). ks ++ (key x (n + i) ∷ [])) a
    ∙ append_assoc old (keys_from n (take i xs)) (key x (n + i) ∷ [])
    ∙ ap (λ (y : Splice). old ++ (keys_from n (take i xs) ++ (key y (n + i) ∷ []))) (sym e)
    ∙ ap (λ (ks : List ℕ). old ++ ks) (sym (keys_more n i xs h))
