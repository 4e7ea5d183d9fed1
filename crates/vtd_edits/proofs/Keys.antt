-- Numbers in their order: a list of different numbers has one order that rises, and it is `rising`.
use Rattle.std.proofs.Common.{◌⊎◌, ◌≡◌, ℕ, suc, ◌<◌, ◌≤◌, Bool, true, false, cond, nat_eq, nat_lt, eqb, ◌&&◌, ◌||◌}
use Rattle.std.proofs.Common.{List, [], ◌∷◌, filter, refl, sym, ap, subst, ◌∙◌, arith, inl, inr}
use Rattle.std.specs.List.{list_any, AllByRecursion, AllPairs, IsDistinct}
use Rattle.std.specs.List.Sorted.{IsPermutation, IsNonDecreasing}
use Rattle.std.proofs.lemmas.Bool.{cases_Bool, cases_eq, cases_order, or_from, both_ways, ltb-true, ltb-false, eqb-false, eq-eqb}
use Rattle.std.proofs.lemmas.Bool.{ne_eqb}
use Rattle.std.proofs.lemmas.List.Elements.{All-from_recursion, recursion_from_All}
use Rattle.std.proofs.lemmas.List.Kept.{AllPairs-from_increasing}
use Rattle.std.proofs.lemmas.List.Sorted.{IsPermutation-refl, IsPermutation-cons, IsPermutation-trans, IsPermutation-middle, IsPermutation-sym}
use Rattle.std.proofs.lemmas.List.Sorted.{All-permutation, list_any-IsPermutation}
use Rattle.std.proofs.lemmas.Map.Keys.{IsDistinct-head, IsDistinct-tail, IsDistinct-IsPermutation, IsStrictlyIncreasing-from_distinct}
use Rattle.vtd_edits.specs.Order.{put_key, rising}

-- each number is below all later ones
abbrev pub Rising : List ℕ → Type 0
Rising [] = Unit {0}
Rising (x ∷ xs) = AllByRecursion (λ y. x < y) xs × Rising xs

-- whether a number is in a list
abbrev pub has : ℕ → List ℕ → Bool
has q xs = list_any (λ y. nat_eq y q) xs

not_there : (q : ℕ) (xs : List ℕ) → AllByRecursion (λ y. q < y) xs → has q xs ≡ false
not_there q [] h = refl
not_there q (x ∷ xs) h =
    let l : q < x = h.0 in
    or_from (nat_eq x q) (has q xs) (ne_eqb x q (λ e. omega (arith, e, l))) (not_there q xs h.1)

pub weaker : (x y : ℕ) (xs : List ℕ) → x ≤ y → AllByRecursion (λ z. y < z) xs → AllByRecursion (λ z. x < z) xs
weaker x y [] l h = tt
weaker x y (z ∷ xs) l h = let m : y < z = h.0 in (omega (arith, l, m), weaker x y xs l h.1)

pub at_head : (x : ℕ) (xs : List ℕ) → has x (x ∷ xs) ≡ true
at_head x xs = ap (λ (b : Bool). b || has x xs) (eq-eqb x x refl)

-- an equal head leaves lists with the same numbers
same_tail : (x : ℕ) (xs ys : List ℕ) → AllByRecursion (λ y. x < y) xs → AllByRecursion (λ y. x < y) ys
    → ((q : ℕ) → has q (x ∷ xs) ≡ has q (x ∷ ys)) → (q : ℕ) → has q xs ≡ has q ys
same_tail x xs ys h k s q = elim (cases_eq x q) [
  | inl e ↦ subst (λ (r : ℕ). has r xs ≡ has r ys) e (not_there x xs h ∙ sym (not_there x ys k))
  | inr n ↦
      let f : nat_eq x q ≡ false = ne_eqb x q n in
      ap (λ (b : Bool). b || has q xs) (sym f) ∙ s q ∙ ap (λ (b : Bool). b || has q ys) f
]

pub same_rising : (xs ys : List ℕ) → Rising xs → Rising ys → ((q : ℕ) → has q xs ≡ has q ys) → xs ≡ ys
same_rising [] [] h k s = refl
same_rising [] (y ∷ ys) h k s = absurd (both_ways (has y (y ∷ ys)) (sym (s y)) (at_head y ys))
same_rising (x ∷ xs) [] h k s = absurd (both_ways (has x (x ∷ xs)) (s x) (at_head x xs))
same_rising (x ∷ xs) (y ∷ ys) h k s = elim (cases_order x y) [
  | inl e ↦
      let P : ℕ → Type 0 = λ z. AllByRecursion (λ (v : ℕ). z < v) ys in
      let below = subst P (sym e) k.0 in
      let Q : ℕ → Type 0 = λ z. (q : ℕ) → has q (x ∷ xs) ≡ has q (z ∷ ys) in
      let same = subst Q (sym e) s in
      ap (λ (z : ℕ). z ∷ xs) e ∙ ap (λ (zs : List ℕ). y ∷ zs) (same_rising xs ys h.1 k.1 (same_tail x xs ys h.0 below same))
  | inr o ↦ elim o [
    | inl l ↦ absurd (both_ways (has x (x ∷ xs)) (s x ∙ not_there x (y ∷ ys) (l, weaker x y ys (omega (arith, l)) k.0)) (at_head x xs))
    | inr l ↦ absurd (both_ways (has y (y ∷ ys)) (sym (s y) ∙ not_there y (x ∷ xs) (l, weaker y x xs (omega (arith, l)) h.0)) (at_head y ys))
  ]
]

-- One number more, at its place.

all_cond : (P : ℕ → Type 0) (b : Bool) (xs ys : List ℕ) → AllByRecursion P xs → AllByRecursion P ys → AllByRecursion P (cond b xs ys)
all_cond P true xs ys h k = h
all_cond P false xs ys h k = k

all_put : (P : ℕ → Type 0) (k : ℕ) (ls : List ℕ) → P k → AllByRecursion P ls → AllByRecursion P (put_key k ls)
all_put P k [] p h = (p, tt)
all_put P k (l ∷ ls) p h = all_cond P (nat_lt k l) (k ∷ l ∷ ls) (l ∷ put_key k ls) (p, h) (h.0, all_put P k ls p h.1)

rising_put : (k : ℕ) (ls : List ℕ) → Rising ls → AllByRecursion (λ y. eqb k y ≡ false) ls → Rising (put_key k ls)
rising_put k [] h d = (tt, tt)
rising_put k (l ∷ ls) h d = elim (cases_Bool (nat_lt k l)) [
  | inl e ↦
      let below = ltb-true k l e in
      let P : Bool → Type 0 = λ b. Rising (cond b (k ∷ l ∷ ls) (l ∷ put_key k ls)) in
      subst P (sym e) ((below, weaker k l ls (omega (arith, below)) h.0), h)
  | inr e ↦
      let above = ltb-false k l e in
      let other = eqb-false k l d.0 in
      let less : l < k = strict l k above (λ f. other (sym f)) in
      let P : Bool → Type 0 = λ b. Rising (cond b (k ∷ l ∷ ls) (l ∷ put_key k ls)) in
      subst P (sym e) (all_put (λ y. l < y) k ls less h.0, rising_put k ls h.1 d.1)
]
  where
    strict : (a b : ℕ) → a ≤ b → (a ≡ b → ⊥) → a < b
    strict a b l n = elim (cases_order a b) [
      | inl e ↦ absurd (n e)
      | inr o ↦ elim o [ inl m ↦ m | inr m ↦ absurd (omega (arith, l, m)) ]
    ]

put_permutation : (k : ℕ) (ls : List ℕ) → IsPermutation (k ∷ ls) (put_key k ls)
put_permutation k [] = IsPermutation-refl (k ∷ [])
put_permutation k (l ∷ ls) = elim (cases_Bool (nat_lt k l)) [
  | inl e ↦
      let P : Bool → Type 0 = λ b. IsPermutation (k ∷ l ∷ ls) (cond b (k ∷ l ∷ ls) (l ∷ put_key k ls)) in
      subst P (sym e) (IsPermutation-refl (k ∷ l ∷ ls))
  | inr e ↦
      let P : Bool → Type 0 = λ b. IsPermutation (k ∷ l ∷ ls) (cond b (k ∷ l ∷ ls) (l ∷ put_key k ls)) in
      let first : IsPermutation (k ∷ l ∷ ls) (l ∷ k ∷ ls) =
      IsPermutation-sym (l ∷ k ∷ ls) (k ∷ l ∷ ls) (IsPermutation-middle (l ∷ []) k ls) in
      let rest = IsPermutation-cons l (k ∷ ls) (put_key k ls) (put_permutation k ls) in
      subst P (sym e) (IsPermutation-trans (k ∷ l ∷ ls) (l ∷ k ∷ ls) (l ∷ put_key k ls) first rest)
]

pub rising_permutation : (ks : List ℕ) → IsPermutation ks (rising ks)
rising_permutation [] = IsPermutation-refl []
rising_permutation (k ∷ ks) =
    IsPermutation-trans (k ∷ ks) (k ∷ rising ks) (put_key k (rising ks))
    (IsPermutation-cons k ks (rising ks) (rising_permutation ks)) (put_permutation k (rising ks))

moved_all : (P : ℕ → Type 0) (xs ys : List ℕ) → IsPermutation xs ys → AllByRecursion P xs → AllByRecursion P ys
moved_all P xs ys p h = recursion_from_All P ys (All-permutation P xs ys p (All-from_recursion P xs h))

pub all_rising : (P : ℕ → Type 0) (ks : List ℕ) → AllByRecursion P ks → AllByRecursion P (rising ks)
all_rising P ks h = moved_all P ks (rising ks) (rising_permutation ks) h

pub rising_rises : (ks : List ℕ) → IsDistinct eqb ks → Rising (rising ks)
rising_rises [] d = tt
rising_rises (k ∷ ks) d =
    rising_put k (rising ks) (rising_rises ks (IsDistinct-tail eqb k ks d))
    (all_rising (λ y. eqb k y ≡ false) ks (IsDistinct-head eqb k ks d))

pub has_rising : (q : ℕ) (ks : List ℕ) → has q (rising ks) ≡ has q ks
has_rising q ks = sym (list_any-IsPermutation (λ y. nat_eq y q) ks (rising ks) (rising_permutation ks))

-- What a sort leaves.

pairs_tail : (x : ℕ) (xs : List ℕ) → AllPairs (λ a b. a < b) (x ∷ xs) → AllPairs (λ a b. a < b) xs
pairs_tail x xs h = λ i j d l m. h (suc i) (suc j) d (omega (arith, l)) (omega (arith, m))

rising_from_pairs : (xs : List ℕ) → AllPairs (λ a b. a < b) xs → Rising xs
rising_from_pairs [] h = tt
rising_from_pairs (x ∷ xs) h =
    (recursion_from_All (λ y. x < y) xs (λ k d l. h 0 (suc k) d (omega arith) (omega (arith, l))), rising_from_pairs xs (pairs_tail x xs h))

eqb_flips : (x y : ℕ) → eqb x y ≡ eqb y x
eqb_flips x y = elim (cases_eq x y) [
  | inl e ↦ eq-eqb x y e ∙ sym (eq-eqb y x (sym e))
  | inr n ↦ ne_eqb x y n ∙ sym (ne_eqb y x (λ e. n (sym e)))
]

pub sorted_is_rising : (ks v : List ℕ) → IsDistinct eqb ks → IsPermutation ks v → IsNonDecreasing v → v ≡ rising ks
sorted_is_rising ks v d p up =
    let apart = IsDistinct-IsPermutation eqb eqb_flips ks v p d in
    let rises = rising_from_pairs v (AllPairs-from_increasing v (IsStrictlyIncreasing-from_distinct v up apart)) in
    same_rising v (rising ks) rises (rising_rises ks d)
    (λ q. sym (list_any-IsPermutation (λ y. nat_eq y q) ks v p) ∙ sym (has_rising q ks))

-- Some of the numbers.

pub all_filter : (P : ℕ → Type 0) (p : ℕ → Bool) (xs : List ℕ) → AllByRecursion P xs → AllByRecursion P (filter p xs)
all_filter P p [] h = tt
all_filter P p (x ∷ xs) h = all_cond P (p x) (x ∷ filter p xs) (filter p xs) (h.0, all_filter P p xs h.1) (all_filter P p xs h.1)

rising_cond : (b : Bool) (xs ys : List ℕ) → Rising xs → Rising ys → Rising (cond b xs ys)
rising_cond true xs ys h k = h
rising_cond false xs ys h k = k

pub rising_filter : (p : ℕ → Bool) (xs : List ℕ) → Rising xs → Rising (filter p xs)
rising_filter p [] h = tt
rising_filter p (x ∷ xs) h =
    rising_cond (p x) (x ∷ filter p xs) (filter p xs) (all_filter (λ y. x < y) p xs h.0, rising_filter p xs h.1) (rising_filter p xs h.1)

pub has_filter : (q : ℕ) (p : ℕ → Bool) (xs : List ℕ) → has q (filter p xs) ≡ (has q xs && p q)
has_filter q p [] = refl
has_filter q p (x ∷ xs) = elim (cases_eq x q) [
  | inr n ↦
      let f : nat_eq x q ≡ false = ne_eqb x q n in
      skip (p x) f ∙ has_filter q p xs ∙ ap (λ (b : Bool). (b || has q xs) && p q) (sym f)
  | inl e ↦ found e (has_filter q p xs) (cases_Bool (p x))
]
  where
    skip : (b : Bool) → nat_eq x q ≡ false → has q (cond b (x ∷ filter p xs) (filter p xs)) ≡ has q (filter p xs)
    skip true f = ap (λ (b : Bool). b || has q (filter p xs)) f
    skip false f = refl

    no : (b : Bool) → (b && false) ≡ false
    no true = refl
    no false = refl

    found : x ≡ q → has q (filter p xs) ≡ (has q xs && p q) → (p x ≡ true) ⊎ (p x ≡ false) → has q (filter p (x ∷ xs)) ≡ ((nat_eq x q || has q xs) && p q)
    found e rest (inl t) =
        ap (λ (b : Bool). has q (cond b (x ∷ filter p xs) (filter p xs))) t
        ∙ ap (λ (b : Bool). b || has q (filter p xs)) (eq-eqb x q e)
        ∙ sym (ap (λ (b : Bool). (b || has q xs) && p q) (eq-eqb x q e) ∙ sym (ap p e) ∙ t)
    found e rest (inr f) =
        let g : p q ≡ false = sym (ap p e) ∙ f in
        ap (λ (b : Bool). has q (cond b (x ∷ filter p xs) (filter p xs))) f
        ∙ rest
        ∙ ap (λ (b : Bool). has q xs && b) g
        ∙ no (has q xs)
        ∙ sym (ap (λ (b : Bool). (b || has q xs) && p q) (eq-eqb x q e) ∙ g)

-- numbers in their order, and some of them
pub filter_rising : (p : ℕ → Bool) (ks : List ℕ) → IsDistinct eqb ks → Rising (filter p ks) → filter p (rising ks) ≡ filter p ks
filter_rising p ks d h =
    same_rising (filter p (rising ks)) (filter p ks) (rising_filter p (rising ks) (rising_rises ks d)) h
    (λ q. has_filter q p (rising ks) ∙ ap (λ (b : Bool). b && p q) (has_rising q ks) ∙ sym (has_filter q p ks))

pub filter_of_rising : (p : ℕ → Bool) (ks : List ℕ) → IsDistinct eqb ks → IsDistinct eqb (filter p ks) → filter p (rising ks) ≡ rising (filter p ks)
filter_of_rising p ks d f =
    same_rising (filter p (rising ks)) (rising (filter p ks)) (rising_filter p (rising ks) (rising_rises ks d)) (rising_rises (filter p ks) f)
    (λ q. has_filter q p (rising ks) ∙ ap (λ (b : Bool). b && p q) (has_rising q ks) ∙ sym (has_filter q p ks) ∙ sym (has_rising q (filter p ks)))
