-- In the order of the bytes splices have the same texts at each place as in staging order, and cover the same.
use Rattle.std.proofs.Common.{◌⊎◌, ◌≡◌, ℕ, suc, ◌+◌, ◌-◌, ◌*◌, ◌/◌, ◌^◌, ◌<◌, ◌≤◌, Bool, true, false, cond, nat_eq, not, ◌&&◌}
use Rattle.std.proofs.Common.{List, [], ◌∷◌, ◌++◌, length, map, take, drop, filter, refl, sym, ap, ap₂, subst, ◌∙◌, arith, inl, inr, length-drop}
use Rattle.std.proofs.Common.{length-append}
use Rattle.std.specs.List.{flat_map, list_any, AllByRecursion, All}
use Rattle.std.proofs.lemmas.Bool.{cases_Bool, cases_eq, eqb-true, eq-eqb, ne_eqb, and_left, and_right, and_from}
use Rattle.std.proofs.lemmas.List.{length-take-le}
use Rattle.std.proofs.lemmas.List.Sorted.{list_any-IsPermutation, sum_by-IsPermutation}
use Rattle.std.proofs.lemmas.List.Sums.{sum_by-cons}
use Rattle.vtd_edits.specs.declared.splice.Splice.{Splice}
use Rattle.vtd_edits.specs.declared.splice.Splice.TheVariants.{Replace, Insert}
use Rattle.vtd_edits.specs.Splices.{inserted, empty_replaced, replaced, covers, texts_at, spliced_from, spliced, start_of, end_of, text_of}
use Rattle.vtd_edits.specs.Splices.{text_size, AreApart, IsWithin}
use Rattle.vtd_edits.specs.Order.{in_order, key, keys_from, order_of, rank, rising, slot_of, splice_of, spliced_by, taken_size, IsChain}
use Rattle.vtd_edits.proofs.Keys.{Rising, all_rising, filter_rising}
use Rattle.vtd_edits.proofs.Staged.{IsKey, each_key, key_slot, keys_distinct, keys_show, order_permutation}
use Rattle.vtd_edits.proofs.Chain.{empty_rank, long_rank}
use Rattle.vtd_edits.proofs.Ordered.{one_pass}
use Rattle.vtd_edits.proofs.Overlaps.{order_chain}

-- Splices of one slot are in staging order.

flat_map-map : (f : Splice → List ℕ) (s : ℕ → Splice) (ks : List ℕ) → flat_map f (map s ks) ≡ flat_map (λ k. f (s k)) ks
flat_map-map f s [] = refl
flat_map-map f s (k ∷ ks) = ap (λ (xs : List ℕ). f (s k) ++ xs) (flat_map-map f s ks)

by_class : (h g : ℕ → List ℕ) (p : ℕ → Bool) (ks : List ℕ) → AllByRecursion (λ k. h k ≡ cond (p k) (g k) []) ks → flat_map h ks ≡ flat_map g (filter p ks)
by_class h g p [] a = refl
by_class h g p (k ∷ ks) a =
    ap₂ (λ (xs ys : List ℕ). xs ++ ys) a.0 (by_class h g p ks a.1) ∙ chosen (p k)
  where
    chosen : (b : Bool) → cond b (g k) [] ++ flat_map g (filter p ks) ≡ flat_map g (cond b (k ∷ filter p ks) (filter p ks))
    chosen true = refl
    chosen false = refl

-- keys of one slot rise in staging order
class_above : (c n m k : ℕ) (xs : List Splice) → k ≡ c * 2 ^ 32 + n → n < m → m + length xs ≤ 2 ^ 32
    → AllByRecursion (λ l. k < l) (filter (λ l. nat_eq (l / 2 ^ 32) c) (keys_from m xs))
class_above c n m k [] e l h = tt
class_above c n m k (x ∷ xs) e l h =
    let rest = class_above c n (suc m) k xs e (omega (arith, l)) (omega (arith, h)) in
    let P : Bool → Type 0 =
    λ b. AllByRecursion (λ l. k < l) (cond b (key x m ∷ filter (λ l. nat_eq (l / 2 ^ 32) c) (keys_from (suc m) xs))
    (filter (λ l. nat_eq (l / 2 ^ 32) c) (keys_from (suc m) xs))) in
    elim (cases_Bool (nat_eq (key x m / 2 ^ 32) c)) [
      | inl t ↦
          let f : slot_of x ≡ c = sym (key_slot x m (omega (arith, h))) ∙ eqb-true (key x m / 2 ^ 32) c t in
          let g : c * 2 ^ 32 + m ≡ key x m = ap (λ (d : ℕ). d * 2 ^ 32 + m) (sym f) in
          subst P (sym t) (omega (arith, e, g, l), rest)
      | inr t ↦ subst P (sym t) rest
    ]

rising_class : (c n : ℕ) (xs : List Splice) → n + length xs ≤ 2 ^ 32 → Rising (filter (λ k. nat_eq (k / 2 ^ 32) c) (keys_from n xs))
rising_class c n [] h = tt
rising_class c n (x ∷ xs) h =
    let rest = rising_class c (suc n) xs (omega (arith, h)) in
    let P : Bool → Type 0 =
    λ b. Rising (cond b (key x n ∷ filter (λ k. nat_eq (k / 2 ^ 32) c) (keys_from (suc n) xs)) (filter (λ k. nat_eq (k / 2 ^ 32) c) (keys_from (suc n) xs))) in
    elim (cases_Bool (nat_eq (key x n / 2 ^ 32) c)) [
      | inl t ↦
          let f : slot_of x ≡ c = sym (key_slot x n (omega (arith, h))) ∙ eqb-true (key x n / 2 ^ 32) c t in
          subst P (sym t) (class_above c n (suc n) (key x n) xs (ap (λ (d : ℕ). d * 2 ^ 32 + n) f) (omega arith) (omega (arith, h)), rest)
      | inr t ↦ subst P (sym t) rest
    ]

-- what a splice has at a place, by its slot
abbrev IsBySlot : (Splice → List ℕ) → ℕ → Type 0
IsBySlot f c = (x : Splice) → f x ≡ cond (nat_eq (slot_of x) c) (text_of x) []

key_texts : (f : Splice → List ℕ) (c : ℕ) (staged : List Splice) (ks : List ℕ) → IsBySlot f c → AllByRecursion (IsKey staged) ks
    → AllByRecursion (λ k. f (splice_of staged k) ≡ cond (nat_eq (k / 2 ^ 32) c) (text_of (splice_of staged k)) []) ks
key_texts f c staged [] b h = tt
key_texts f c staged (k ∷ ks) b h =
    (b (splice_of staged k) ∙ ap (λ (d : ℕ). cond (nat_eq d c) (text_of (splice_of staged k)) []) (sym h.0.slot), key_texts f c staged ks b h.1)

class_texts : (f : Splice → List ℕ) (c : ℕ) (staged : List Splice) → IsBySlot f c → length staged ≤ 2 ^ 32 → flat_map f (in_order staged) ≡ flat_map f staged
unfolding order_of
class_texts f c staged b few =
    let s : ℕ → Splice = splice_of staged in
    let h : ℕ → List ℕ = λ k. f (s k) in
    let g : ℕ → List ℕ = λ k. text_of (s k) in
    let p : ℕ → Bool = λ k. nat_eq (k / 2 ^ 32) c in
    let ks : List ℕ = keys_from 0 staged in
    let each = each_key staged few in
    flat_map-map f s (rising ks)
    ∙ by_class h g p (rising ks) (key_texts f c staged (rising ks) b (all_rising (IsKey staged) ks each))
    ∙ ap (flat_map g) (filter_rising p ks (keys_distinct 0 staged (omega (arith, few))) (rising_class c 0 staged (omega (arith, few))))
    ∙ sym (by_class h g p ks (key_texts f c staged ks b each))
    ∙ sym (flat_map-map f s ks)
    ∙ ap (flat_map f) (keys_show staged few)

-- the three kinds of text by slots

inserted_slot : (p : ℕ) → IsBySlot (inserted p) (p * 4)
inserted_slot p (Insert at text) = elim (cases_eq at p) [
  | inl e ↦ ap (λ (b : Bool). cond b text []) (eq-eqb at p e ∙ sym (eq-eqb (at * 4 + 0) (p * 4) (omega (arith, e))))
  | inr n ↦ ap (λ (b : Bool). cond b text []) (ne_eqb at p n ∙ sym (ne_eqb (at * 4 + 0) (p * 4) (λ e. n (omega (arith, e)))))
]
inserted_slot p (Replace start end text) =
    sym (ap (λ (b : Bool). cond b text []) (ne_eqb (start * 4 + rank (Replace start end text)) (p * 4) (λ e. other e)))
  where
    other : start * 4 + rank (Replace start end text) ≡ p * 4 → ⊥
    other e = elim (cases_eq start end) [
      | inl s ↦ (let k = empty_rank start end text s in omega (arith, e, k))
      | inr s ↦ (let k = long_rank start end text s in omega (arith, e, k))
    ]

empty_slot : (p : ℕ) → IsBySlot (empty_replaced p) (p * 4 + 1)
empty_slot p (Insert at text) = sym (ap (λ (b : Bool). cond b text []) (ne_eqb (at * 4 + 0) (p * 4 + 1) (λ e. omega (arith, e))))
empty_slot p (Replace start end text) = elim (cases_eq start end) [
  | inl s ↦
      let k = empty_rank start end text s in
      elim (cases_eq start p) [
        | inl e ↦ ap (λ (b : Bool). cond b text [])
            (and_from (nat_eq start p) (nat_eq end p) (eq-eqb start p e) (eq-eqb end p (sym s ∙ e))
            ∙ sym (eq-eqb (start * 4 + rank (Replace start end text)) (p * 4 + 1) (omega (arith, e, k))))
        | inr n ↦ ap (λ (b : Bool). cond b text [])
            (and_left (nat_eq start p) (nat_eq end p) (ne_eqb start p n)
            ∙ sym (ne_eqb (start * 4 + rank (Replace start end text)) (p * 4 + 1) (λ e. n (omega (arith, e, k)))))
      ]
  | inr s ↦
      let k = long_rank start end text s in
      ap (λ (b : Bool). cond b text [])
      (apart (cases_eq start p) s ∙ sym (ne_eqb (start * 4 + rank (Replace start end text)) (p * 4 + 1) (λ e. omega (arith, e, k))))
]
  where
    apart : (start ≡ p) ⊎ (start ≡ p → ⊥) → (start ≡ end → ⊥) → (nat_eq start p && nat_eq end p) ≡ false
    apart (inl e) s = and_right (nat_eq start p) (nat_eq end p) (ne_eqb end p (λ f. s (e ∙ sym f)))
    apart (inr n) s = and_left (nat_eq start p) (nat_eq end p) (ne_eqb start p n)

replaced_slot : (p : ℕ) → IsBySlot (replaced p) (p * 4 + 2)
replaced_slot p (Insert at text) = sym (ap (λ (b : Bool). cond b text []) (ne_eqb (at * 4 + 0) (p * 4 + 2) (λ e. omega (arith, e))))
replaced_slot p (Replace start end text) = elim (cases_eq start end) [
  | inl s ↦
      let k = empty_rank start end text s in
      ap (λ (b : Bool). cond b text [])
      (apart (cases_eq start p) s ∙ sym (ne_eqb (start * 4 + rank (Replace start end text)) (p * 4 + 2) (λ e. omega (arith, e, k))))
  | inr s ↦
      let k = long_rank start end text s in
      elim (cases_eq start p) [
        | inl e ↦ ap (λ (b : Bool). cond b text [])
            (and_from (nat_eq start p) (not (nat_eq end p)) (eq-eqb start p e) (ap not (ne_eqb end p (λ f. s (e ∙ sym f))))
            ∙ sym (eq-eqb (start * 4 + rank (Replace start end text)) (p * 4 + 2) (omega (arith, e, k))))
        | inr n ↦ ap (λ (b : Bool). cond b text [])
            (and_left (nat_eq start p) (not (nat_eq end p)) (ne_eqb start p n)
            ∙ sym (ne_eqb (start * 4 + rank (Replace start end text)) (p * 4 + 2) (λ e. n (omega (arith, e, k)))))
      ]
]
  where
    apart : (start ≡ p) ⊎ (start ≡ p → ⊥) → start ≡ end → (nat_eq start p && not (nat_eq end p)) ≡ false
    apart (inl e) s = and_right (nat_eq start p) (not (nat_eq end p)) (ap not (eq-eqb end p (sym s ∙ e)))
    apart (inr n) s = and_left (nat_eq start p) (not (nat_eq end p)) (ne_eqb start p n)

same_texts : (staged : List Splice) (p : ℕ) → length staged ≤ 2 ^ 32 → texts_at (in_order staged) p ≡ texts_at staged p
same_texts staged p few =
    ap₂ (λ (a b : List ℕ). a ++ b)
    (ap₂ (λ (a b : List ℕ). a ++ b) (class_texts (inserted p) (p * 4) staged (inserted_slot p) few)
    (class_texts (empty_replaced p) (p * 4 + 1) staged (empty_slot p) few))
    (class_texts (replaced p) (p * 4 + 2) staged (replaced_slot p) few)

same_covers : (staged : List Splice) (p : ℕ) → length staged ≤ 2 ^ 32 → list_any (covers p) (in_order staged) ≡ list_any (covers p) staged
same_covers staged p few = sym (list_any-IsPermutation (covers p) staged (in_order staged) (order_permutation staged few))

same_bytes : (staged : List Splice) (p : ℕ) (rest : List ℕ) → length staged ≤ 2 ^ 32 → spliced_from (in_order staged) p rest ≡ spliced_from staged p rest
same_bytes staged p [] few = same_texts staged p few
same_bytes staged p (byte ∷ bytes) few =
    ap₂ (λ (t : List ℕ) (b : Bool). (t ++ cond b [] (byte ∷ [])) ++ spliced_from (in_order staged) (suc p) bytes) (same_texts staged p few)
    (same_covers staged p few)
    ∙ ap (λ (r : List ℕ). (texts_at staged p ++ cond (list_any (covers p) staged) [] (byte ∷ [])) ++ r) (same_bytes staged (suc p) bytes few)

-- The new bytes are made in one pass over the order.
pub one_pass_staged : (bytes : List ℕ) (staged : List Splice) → length staged ≤ 2 ^ 32 → All (IsWithin (length bytes)) staged → AreApart staged
    → spliced bytes staged ≡ spliced_by (in_order staged) 0 bytes
unfolding spliced
one_pass_staged bytes staged few w a =
    sym (same_bytes staged 0 bytes few)
    ∙ one_pass (in_order staged) 0 false (length bytes) bytes (omega arith) (order_chain staged (length bytes) few w a)

-- How many new bytes there are.

pub chain_ends : (order : List Splice) (low : ℕ) (only : Bool) (len : ℕ) → IsChain low only len order → low ≤ len
chain_ends [] low only len c = c
chain_ends (Insert at text ∷ order) low only len c = (let a : low ≤ at = c.0 in let b = chain_ends order at false len c.2 in omega (arith, a, b))
chain_ends (Replace start end text ∷ order) low only len c =
    let a : low ≤ start = c.0 in
    let d : start ≤ end = c.1 in
    let b = chain_ends order end (nat_eq start end) len c.3 in
    omega (arith, a, b, d)

-- one splice more, whose range is within what is left
one_more : (x : Splice) (order : List Splice) (done len : ℕ) (rest : List ℕ) → done + length rest ≡ len → done ≤ start_of x → start_of x ≤ end_of x
    → end_of x ≤ len
    → length (spliced_by order (end_of x) (drop (end_of x - done) rest)) + taken_size order ≡ length (drop (end_of x - done) rest) + text_size order
    → length (spliced_by (x ∷ order) done rest) + taken_size (x ∷ order) ≡ length rest + text_size (x ∷ order)
one_more x order done len rest e a b c h =
    let n : ℕ = start_of x - done in
    let tail : List ℕ = spliced_by order (end_of x) (drop (end_of x - done) rest) in
    let front = length-take-le n rest (omega (arith, e, a, b, c)) in
    let left = length-drop (end_of x - done) rest in
    let one = length-append (take n rest) (text_of x ++ tail) in
    let two = length-append (text_of x) tail in
    let t = sum_by-cons (λ y. end_of y - start_of y) x order in
    let u = sum_by-cons (λ y. length (text_of y)) x order in
    omega (arith, e, a, b, c, h, front, left, one, two, t, u)

chain_size : (order : List Splice) (done : ℕ) (only : Bool) (len : ℕ) (rest : List ℕ) → done + length rest ≡ len → IsChain done only len order
    → length (spliced_by order done rest) + taken_size order ≡ length rest + text_size order
chain_size [] done only len rest e c = omega arith
chain_size (Insert at text ∷ order) done only len rest e c =
    let a : done ≤ at = c.0 in
    let b = chain_ends order at false len c.2 in
    let left = length-drop (at - done) rest in
    one_more (Insert at text) order done len rest e a (omega arith) b
    (chain_size order at false len (drop (at - done) rest) (omega (arith, e, a, b, left)) c.2)
chain_size (Replace start end text ∷ order) done only len rest e c =
    let a : done ≤ start = c.0 in
    let d : start ≤ end = c.1 in
    let b = chain_ends order end (nat_eq start end) len c.3 in
    let left = length-drop (end - done) rest in
    one_more (Replace start end text) order done len rest e a d b
    (chain_size order end (nat_eq start end) len (drop (end - done) rest) (omega (arith, e, a, b, d, left)) c.3)

pub spliced_size : (bytes : List ℕ) (staged : List Splice) → length staged ≤ 2 ^ 32 → All (IsWithin (length bytes)) staged → AreApart staged
    → length (spliced bytes staged) + taken_size staged ≡ length bytes + text_size staged
spliced_size bytes staged few w a =
    let order : List Splice = in_order staged in
    let p = order_permutation staged few in
    let size = chain_size order 0 false (length bytes) bytes (omega arith) (order_chain staged (length bytes) few w a) in
    let made = ap length (one_pass_staged bytes staged few w a) in
    let t = sum_by-IsPermutation (λ y. end_of y - start_of y) staged order p in
    let u = sum_by-IsPermutation (λ y. length (text_of y)) staged order p in
    omega (arith, size, made, t, u)
