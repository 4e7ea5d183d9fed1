-- Whether neighbours in the order overlap says whether any two splices do.
use Rattle.std.proofs.Common.{◌≡◌, ℕ, zero, suc, ◌+◌, ◌*◌, ◌/◌, ◌%◌, ◌^◌, ◌<◌, ◌≤◌, Bool, true, false, cond, nat_eq, nat_lt, not}
use Rattle.std.proofs.Common.{◌||◌, List, [], ◌∷◌, length, map, filter, Some, None, refl, sym, ap, ap₂, subst, ◌∙◌, arith, inl, inr}
use Rattle.std.specs.List.{list_any, AllByRecursion, All}
use Rattle.std.proofs.lemmas.Bool.{cases_Bool, cases_eq, cases_order, and_parts, and_from, both_ways, not-true, ltb-true, lt-ltb, ne_eqb}
use Rattle.std.proofs.lemmas.Nat.{div-add-mod', le-div}
use Rattle.std.proofs.Math.Nat.{div-mul-le_self}
use Rattle.vtd_edits.specs.declared.splice.Splice.{Splice}
use Rattle.vtd_edits.specs.declared.splice.Splice.TheVariants.{Insert}
use Rattle.vtd_edits.specs.Splices.{overlap, splice_at, AreApart, IsWithin}
use Rattle.vtd_edits.specs.Order.{apart_after, apart_to, in_order, key, keys_from, order_of, rising, slot_of, splice_of, IsChain}
use Rattle.vtd_edits.proofs.Keys.{Rising, all_rising, at_head, has, has_filter, has_rising, rising_filter, rising_rises}
use Rattle.vtd_edits.proofs.Staged.{IsKey, each_key, key_index, keys_distinct}
use Rattle.vtd_edits.proofs.Chain.{after_slot, chain_of, linked_clear, overlap_flips, AllClear, Linked}

-- no splice below an index overlaps an earlier one
abbrev pub AreApartTo : List Splice → ℕ → Type 0
AreApartTo staged n = (i j : ℕ) → i < j → j < n → overlap (splice_at staged j) (splice_at staged i) ≡ false

-- a key whose index is below a number
record KeyBelow (staged : List Splice) (n k : ℕ) : Type 0 where
  pub is : IsKey staged k
  pub low : k % 2 ^ 32 < n

either_way : (staged : List Splice) (n i j : ℕ) → AreApartTo staged n → i < n → j < n → (i ≡ j → ⊥) → overlap (splice_at staged i) (splice_at staged j) ≡ false
either_way staged n i j a l m d = elim (cases_order i j) [
  | inl e ↦ absurd (d e)
  | inr o ↦ elim o [
    | inl k ↦ overlap_flips (splice_at staged i) (splice_at staged j) ∙ a i j k m
    | inr k ↦ a j i k l
  ]
]

-- keys that differ have indexes that differ
other_index : (staged : List Splice) (k l : ℕ) → IsKey staged k → IsKey staged l → k < l → k % 2 ^ 32 ≡ l % 2 ^ 32 → ⊥
other_index staged k l a b less e =
    let slots : k / 2 ^ 32 ≡ l / 2 ^ 32 = a.slot ∙ ap (λ (i : ℕ). slot_of (splice_at staged i)) e ∙ sym b.slot in
    let f : k ≡ l =
    sym (div-add-mod' k (2 ^ 32)) ∙ ap₂ (λ (q r : ℕ). q * 2 ^ 32 + r) slots e ∙ div-add-mod' l (2 ^ 32) in
    omega (arith, f, less)

-- where no two overlap, no neighbours do
neighbours_apart : (staged : List Splice) (n k : ℕ) (ks : List ℕ) → AreApartTo staged n → KeyBelow staged n k → AllByRecursion (KeyBelow staged n) ks
    → Rising (k ∷ ks) → apart_after staged (Some (k % 2 ^ 32)) ks ≡ true
neighbours_apart staged n k [] a h hs r = refl
neighbours_apart staged n k (l ∷ ks) a h hs r =
    let less : k < l = r.0.0 in
    let next : KeyBelow staged n l = hs.0 in
    and_from (not (overlap (splice_at staged (k % 2 ^ 32)) (splice_of staged l))) (apart_after staged (Some (l % 2 ^ 32)) ks)
    (ap not (either_way staged n (k % 2 ^ 32) (l % 2 ^ 32) a h.low next.low (other_index staged k l h.is next.is less)))
    (neighbours_apart staged n l ks a next hs.1 r.1)

first_apart : (staged : List Splice) (n : ℕ) (ks : List ℕ) → AreApartTo staged n → AllByRecursion (KeyBelow staged n) ks → Rising ks
    → apart_after staged None ks ≡ true
first_apart staged n [] a hs r = refl
first_apart staged n (k ∷ ks) a hs r = neighbours_apart staged n k ks a hs.0 hs.1 r

-- where no neighbours overlap, the splices are linked
slots_rise : (staged : List Splice) (k l : ℕ) → IsKey staged k → IsKey staged l → k < l → slot_of (splice_of staged k) ≤ slot_of (splice_of staged l)
slots_rise staged k l a b less =
    let part = div-mul-le_self k (2 ^ 32) in
    let e = a.slot in
    let f = b.slot in
    let m : k / 2 ^ 32 ≤ l / 2 ^ 32 = le-div (k / 2 ^ 32) l (2 ^ 32) (omega arith) (omega (arith, part, less)) in
    omega (arith, m, e, f)

linked : (staged : List Splice) (len n k : ℕ) (ks : List ℕ) → All (IsWithin len) staged → KeyBelow staged n k → AllByRecursion (KeyBelow staged n) ks
    → Rising (k ∷ ks) → apart_after staged (Some (k % 2 ^ 32)) ks ≡ true → Linked len (splice_of staged k) (map (splice_of staged) ks)
linked staged len n k [] w h hs r a = tt
linked staged len n k (l ∷ ks) w h hs r a =
    let less : k < l = r.0.0 in
    let next : KeyBelow staged n l = hs.0 in
    let both = and_parts (not (overlap (splice_at staged (k % 2 ^ 32)) (splice_of staged l))) (apart_after staged (Some (l % 2 ^ 32)) ks) a in (
      w (l % 2 ^ 32) (Insert 0 []) next.is.below,
      after_slot (splice_of staged l) (splice_of staged k) (slots_rise staged k l h.is next.is less),
      overlap_flips (splice_of staged l) (splice_of staged k) ∙ not-true (overlap (splice_of staged k) (splice_of staged l)) both.0,
      linked staged len n l ks w next hs.1 r.1 both.1,
    )

all_clear : (staged : List Splice) (len n : ℕ) (ks : List ℕ) → All (IsWithin len) staged → AllByRecursion (KeyBelow staged n) ks → Rising ks
    → apart_after staged None ks ≡ true → AllClear (map (splice_of staged) ks)
all_clear staged len n [] w hs r a = tt
all_clear staged len n (k ∷ ks) w hs r a =
    let h : KeyBelow staged n k = hs.0 in
    linked_clear (splice_of staged k) (map (splice_of staged) ks) len (w (k % 2 ^ 32) (Insert 0 []) h.is.below) (linked staged len n k ks w h hs.1 r a)

-- Two keys of a list that is clear.

or_parts : (a b : Bool) → (a || b) ≡ false → (a ≡ false) × (b ≡ false)
or_parts true b e = absurd cc
or_parts false b e = (refl, e)

rest_has : (k a : ℕ) (ks : List ℕ) → (k ≡ a → ⊥) → has a (k ∷ ks) ≡ true → has a ks ≡ true
rest_has k a ks n h = ap (λ (b : Bool). b || has a ks) (sym (ne_eqb k a n)) ∙ h

clear_one : (s : ℕ → Splice) (x : Splice) (b : ℕ) (ks : List ℕ) → list_any (overlap x) (map s ks) ≡ false → has b ks ≡ true → overlap x (s b) ≡ false
clear_one s x b [] c h = absurd (both_ways true (sym h) refl)
clear_one s x b (k ∷ ks) c h =
    let p = or_parts (overlap x (s k)) (list_any (overlap x) (map s ks)) c in
    elim (cases_eq k b) [
      | inl e ↦ subst (λ (i : ℕ). overlap x (s i) ≡ false) e p.0
      | inr n ↦ clear_one s x b ks p.1 (rest_has k b ks n h)
    ]

clear_pair : (s : ℕ → Splice) (a b : ℕ) (ks : List ℕ) → AllClear (map s ks) → has a ks ≡ true → has b ks ≡ true → (a ≡ b → ⊥) → overlap (s a) (s b) ≡ false
clear_pair s a b [] c h g n = absurd (both_ways true (sym h) refl)
clear_pair s a b (k ∷ ks) c h g n = elim (cases_eq k a) [
  | inl e ↦
      subst (λ (i : ℕ). overlap (s i) (s b) ≡ false) e
      (clear_one s (s k) b ks c.0 (rest_has k b ks (λ f. n (sym e ∙ f)) g))
  | inr m ↦ elim (cases_eq k b) [
    | inl e ↦
        overlap_flips (s a) (s b)
        ∙ subst (λ (i : ℕ). overlap (s i) (s a) ≡ false) e (clear_one s (s k) a ks c.0 (rest_has k a ks m h))
    | inr f ↦ clear_pair s a b ks c.1 (rest_has k a ks m h) (rest_has k b ks f g) n
  ]
]

has_key : (m i : ℕ) (xs : List Splice) → i < length xs → has (key (splice_at xs i) (m + i)) (keys_from m xs) ≡ true
has_key m i [] l = absurd (omega (arith, l))
has_key m zero (x ∷ xs) l =
    let e : m + 0 ≡ m = omega arith in
    ap (λ (j : ℕ). has (key x j) (keys_from m (x ∷ xs))) e ∙ at_head (key x m) (keys_from (suc m) xs)
has_key m (suc i) (x ∷ xs) l =
    let k : ℕ = key (splice_at xs i) (m + suc i) in
    let e : m + suc i ≡ suc m + i = omega arith in
    or_right (nat_eq (key x m) k) (has k (keys_from (suc m) xs))
    (ap (λ (j : ℕ). has (key (splice_at xs i) j) (keys_from (suc m) xs)) e ∙ has_key (suc m) i xs (omega (arith, l)))
  where
    or_right : (a b : Bool) → b ≡ true → (a || b) ≡ true
    or_right true b h = refl
    or_right false b h = h

-- The keys below an index.

kept_keys : (staged : List Splice) (n : ℕ) (ks : List ℕ) → AllByRecursion (IsKey staged) ks
    → AllByRecursion (KeyBelow staged n) (filter (λ k. nat_lt (k % 2 ^ 32) n) ks)
kept_keys staged n [] h = tt
kept_keys staged n (k ∷ ks) h =
    let rest = kept_keys staged n ks h.1 in
    let P : Bool → Type 0 = λ b. AllByRecursion (KeyBelow staged n) (cond b (k ∷ filter (λ k. nat_lt (k % 2 ^ 32) n) ks)
    (filter (λ k. nat_lt (k % 2 ^ 32) n) ks)) in
    elim (cases_Bool (nat_lt (k % 2 ^ 32) n)) [
      | inl e ↦ subst P (sym e) (record { is = h.0; low = ltb-true (k % 2 ^ 32) n e }, rest)
      | inr e ↦ subst P (sym e) rest
    ]

-- the keys of the order below an index
record OrderBelow (staged : List Splice) (n : ℕ) : Type 0 where
  pub keys : AllByRecursion (KeyBelow staged n) (filter (λ k. nat_lt (k % 2 ^ 32) n) (order_of staged))
  pub rises : Rising (filter (λ k. nat_lt (k % 2 ^ 32) n) (order_of staged))

order_below : (staged : List Splice) (n : ℕ) → length staged ≤ 2 ^ 32 → OrderBelow staged n
unfolding order_of
order_below staged n h = record {
  keys = kept_keys staged n (rising (keys_from 0 staged)) (all_rising (IsKey staged) (keys_from 0 staged) (each_key staged h));
  rises = rising_filter (λ k. nat_lt (k % 2 ^ 32) n) (rising (keys_from 0 staged))
      (rising_rises (keys_from 0 staged) (keys_distinct 0 staged (omega (arith, h))));
}

pub apart_all : (staged : List Splice) (n : ℕ) → length staged ≤ 2 ^ 32 → AreApartTo staged n → apart_to staged (order_of staged) n ≡ true
apart_all staged n h a =
    let o = order_below staged n h in
    first_apart staged n (filter (λ k. nat_lt (k % 2 ^ 32) n) (order_of staged)) a o.keys o.rises

there : (staged : List Splice) (n i : ℕ) → length staged ≤ 2 ^ 32 → n ≤ length staged → i < n
    → has (key (splice_at staged i) i) (filter (λ k. nat_lt (k % 2 ^ 32) n) (order_of staged)) ≡ true
unfolding order_of
there staged n i h m l =
    let k : ℕ = key (splice_at staged i) i in
    let found : has k (keys_from 0 staged) ≡ true =
    ap (λ (j : ℕ). has (key (splice_at staged i) j) (keys_from 0 staged)) (omega arith) ∙ has_key 0 i staged (omega (arith, l, m)) in
    has_filter k (λ k. nat_lt (k % 2 ^ 32) n) (rising (keys_from 0 staged))
    ∙ and_from (has k (rising (keys_from 0 staged))) (nat_lt (k % 2 ^ 32) n)
    (has_rising k (keys_from 0 staged) ∙ found)
    (ap (λ (j : ℕ). nat_lt j n) (key_index (splice_at staged i) i (omega (arith, h, m, l))) ∙ lt-ltb i n l)

pub all_apart : (staged : List Splice) (len n : ℕ) → length staged ≤ 2 ^ 32 → All (IsWithin len) staged → n ≤ length staged
    → apart_to staged (order_of staged) n ≡ true → AreApartTo staged n
all_apart staged len n h w m a = λ i j l k.
    let ks : List ℕ = filter (λ k. nat_lt (k % 2 ^ 32) n) (order_of staged) in
    let o = order_below staged n h in
    let one : ℕ = key (splice_at staged j) j in
    let other : ℕ = key (splice_at staged i) i in
    let e = key_index (splice_at staged j) j (omega (arith, h, m, k)) in
    let f = key_index (splice_at staged i) i (omega (arith, h, m, k, l)) in
    let clear = all_clear staged len n ks w o.keys o.rises a in
    sym (ap₂ (λ (p q : ℕ). overlap (splice_at staged p) (splice_at staged q)) e f)
    ∙ clear_pair (splice_of staged) one other ks clear (there staged n j h m k) (there staged n i h m (omega (arith, l, k)))
    (λ g. (let d : j ≡ i = sym e ∙ ap (λ (p : ℕ). p % 2 ^ 32) g ∙ f in omega (arith, d, l)))

-- all keys of the order
whole_order : (staged : List Splice) → length staged ≤ 2 ^ 32 → AllByRecursion (IsKey staged) (order_of staged) × Rising (order_of staged)
unfolding order_of
whole_order staged h =
    (all_rising (IsKey staged) (keys_from 0 staged) (each_key staged h), rising_rises (keys_from 0 staged) (keys_distinct 0 staged (omega (arith, h))))

low_keys : (staged : List Splice) (ks : List ℕ) → AllByRecursion (IsKey staged) ks → AllByRecursion (KeyBelow staged (length staged)) ks
low_keys staged [] h = tt
low_keys staged (k ∷ ks) h = (record { is = h.0; low = h.0.below }, low_keys staged ks h.1)

chain_of_keys : (staged : List Splice) (len n : ℕ) (ks : List ℕ) → All (IsWithin len) staged → AllByRecursion (KeyBelow staged n) ks → Rising ks
    → apart_after staged None ks ≡ true → IsChain 0 false len (map (splice_of staged) ks)
chain_of_keys staged len n [] w hs r a = omega arith
chain_of_keys staged len n (k ∷ ks) w hs r a =
    let h : KeyBelow staged n k = hs.0 in
    chain_of (splice_of staged k) (map (splice_of staged) ks) len (w (k % 2 ^ 32) (Insert 0 []) h.is.below) (linked staged len n k ks w h hs.1 r a)

-- splices of which no two overlap are a chain in their order
pub order_chain : (staged : List Splice) (len : ℕ) → length staged ≤ 2 ^ 32 → All (IsWithin len) staged → AreApart staged
    → IsChain 0 false len (in_order staged)
order_chain staged len h w a =
    let o = whole_order staged h in
    let hs = low_keys staged (order_of staged) o.0 in
    chain_of_keys staged len (length staged) (order_of staged) w hs o.1 (first_apart staged (length staged) (order_of staged) a hs o.1)
