-- Splices in order of which no two neighbours overlap are a chain, and then no two overlap.
use Rattle.std.proofs.Common.{◌⊎◌, ◌≡◌, ℕ, ◌<◌, ◌≤◌, Bool, true, false, cond, nat_eq, nat_lt, nat_le, not}
use Rattle.std.proofs.Common.{◌&&◌, ◌||◌, List, [], ◌∷◌, refl, sym, ap, arith, inl, inr}
use Rattle.std.specs.List.{list_any}
use Rattle.std.proofs.lemmas.Bool.{cases_eq, or_cases, or_from, and_parts, and_cases, and_from, and_left, and_right}
use Rattle.std.proofs.lemmas.Bool.{le-ltb, le-leb, both_ways, not-true, not-false, leb-true, ltb-false, eqb-true, eq-eqb, ne_eqb, false≢true}
use Rattle.vtd_edits.specs.declared.splice.Splice.{Splice}
use Rattle.vtd_edits.specs.declared.splice.Splice.TheVariants.{Replace, Insert}
use Rattle.vtd_edits.specs.Splices.{ends_before, overlap, start_of, end_of, IsWithin}
use Rattle.vtd_edits.specs.Order.{IsChain, rank, slot_of}
use Rattle.vtd_edits.proofs.Ordered.{strictly}

-- whether only ranges start where a splice ends, after it
abbrev pub only_of : Splice → Bool
only_of (Replace start end text) = nat_eq start end
only_of (Insert at text) = false

record Apart (s e t u : ℕ) : Type 0 where
  pub ends : e ≤ t
  pub differ : s ≡ t → e ≡ u → ⊥

apart_facts : (s e t u : ℕ) → ends_before s e t u ≡ true → Apart s e t u
apart_facts s e t u h =
    let p = and_parts (nat_le e t) (not (nat_eq s t && nat_eq e u)) h in
    record {
      ends = leb-true e t p.0;
      differ = λ a b. both_ways (nat_eq s t && nat_eq e u) (not-true (nat_eq s t && nat_eq e u) p.1)
          (and_from (nat_eq s t) (nat_eq e u) (eq-eqb s t a) (eq-eqb e u b));
    }

ranges_apart : (s e t u : ℕ) → not (ends_before s e t u || ends_before t u s e) ≡ false → Apart s e t u ⊎ Apart t u s e
ranges_apart s e t u h =
    elim (or_cases (ends_before s e t u) (ends_before t u s e) (not-false (ends_before s e t u || ends_before t u s e) h)) [
      | inl a ↦ inl (apart_facts s e t u a)
      | inr a ↦ inr (apart_facts t u s e a)
    ]

not_inside : (s e at : ℕ) → (nat_lt s at && nat_lt at e) ≡ false → s < at → e ≤ at
not_inside s e at h l = elim (and_cases (nat_lt s at) (nat_lt at e) h) [
  | inl a ↦ (let m = ltb-false s at a in absurd (omega (arith, l, m)))
  | inr b ↦ ltb-false at e b
]

rank_by : Bool → ℕ
rank_by b = cond b 1 2

pub empty_rank : (start end : ℕ) (text : List ℕ) → start ≡ end → rank (Replace start end text) ≡ 1
unfolding rank_by
empty_rank start end text e = ap rank_by (eq-eqb start end e)

pub long_rank : (start end : ℕ) (text : List ℕ) → (start ≡ end → ⊥) → rank (Replace start end text) ≡ 2
unfolding rank_by
long_rank start end text n = ap rank_by (ne_eqb start end n)

pub rank_bound : (x : Splice) → rank x ≤ 2
rank_bound (Insert at text) = omega arith
rank_bound (Replace start end text) = elim (cases_eq start end) [
  | inl e ↦ (let k = empty_rank start end text e in omega (arith, k))
  | inr n ↦ (let k = long_rank start end text n in omega (arith, k))
]

-- a splice that comes after another
pub record After (x y : Splice) : Type 0 where
  pub starts : start_of y ≤ start_of x
  pub ranks : start_of x ≡ start_of y → rank y ≤ rank x

pub after_slot : (x y : Splice) → slot_of y ≤ slot_of x → After x y
after_slot x y h =
    let a = rank_bound x in
    let b = rank_bound y in
    record { starts = omega (arith, h, a, b); ranks = λ e. omega (arith, h, e) }

-- a splice after a place
record Placed (x : Splice) (low : ℕ) (only : Bool) (len : ℕ) : Type 0 where
  pub place : low ≤ start_of x
  pub long : only ≡ true → start_of x ≡ low → 2 ≤ rank x
  pub order : start_of x ≤ end_of x
  pub within : end_of x ≤ len

above : (low at : ℕ) → low ≤ at → (at ≡ low → ⊥) → low < at
above low at l n = strictly low at l (λ e. n (sym e))

-- a splice before a chain
chain_cons : (x : Splice) (order : List Splice) (low : ℕ) (only : Bool) (len : ℕ) → Placed x low only len → IsChain (end_of x) (only_of x) len order
    → IsChain low only len (x ∷ order)
chain_cons (Insert at text) order low only len p c =
    (p.place, λ o. above low at p.place (λ e. (let r : 2 ≤ 0 = p.long o e in omega (arith, r))), c)
chain_cons (Replace s e text) order low only len p c = (
  p.place,
  p.order,
  λ o f. above low s p.place (λ g. (let r : 2 ≤ rank (Replace s e text) = p.long o g in let k = empty_rank s e text f in omega
      (arith, r, k))),
  c,
)

-- a splice after one that it does not overlap
placed_after : (x y : Splice) (len : ℕ) → start_of y ≤ end_of y → start_of x ≤ end_of x → end_of x ≤ len → After x y → overlap x y ≡ false
    → Placed x (end_of y) (only_of y) len
placed_after x (Insert at t) len i j w b o = record { place = b.starts; long = λ f. absurd (false≢true f); order = j; within = w }
placed_after (Insert at text) (Replace u v t) len i j w b o =
    let l : u < at = above u at b.starts (λ e. (let r = b.ranks e in some_rank r)) in
    record { place = not_inside u v at o l; long = λ f g. (let h = eqb-true u v f in absurd (omega (arith, l, g, h))); order = j; within = w }
  where
    some_rank : rank (Replace u v t) ≤ 0 → ⊥
    some_rank r = elim (cases_eq u v) [
      | inl e ↦ (let k = empty_rank u v t e in omega (arith, r, k))
      | inr n ↦ (let k = long_rank u v t n in omega (arith, r, k))
    ]
placed_after (Replace s e text) (Replace u v t) len i j w b o =
    record { place = reach (ranges_apart s e u v o); long = λ f g. both f g; order = j; within = w }
  where
    reach : Apart s e u v ⊎ Apart u v s e → v ≤ s
    reach (inr a) = a.ends
    reach (inl a) =
        let m = a.ends in
        let d : u ≤ v = i in
        let n : s ≤ e = j in
        let k : u ≤ s = b.starts in
        let same : s ≡ u = omega (arith, m, n, k) in
        let r : rank (Replace u v t) ≤ rank (Replace s e text) = b.ranks same in
        let q = empty_rank s e text (omega (arith, m, n, k)) in
        elim (cases_eq u v) [
          | inl f ↦ absurd (a.differ same (omega (arith, m, n, k, f)))
          | inr g ↦ (let h = long_rank u v t g in absurd (omega (arith, r, q, h)))
        ]

    both : nat_eq u v ≡ true → s ≡ v → 2 ≤ rank (Replace s e text)
    both f g =
        let h = eqb-true u v f in
        elim (cases_eq s e) [
          | inr n ↦ (let k = long_rank s e text n in omega (arith, k))
          | inl k ↦ absurd (elim (ranges_apart s e u v o) [
            | inl a ↦ a.differ (omega (arith, g, h)) (omega (arith, g, k))
            | inr a ↦ a.differ (omega (arith, g, h)) (omega (arith, g, k))
          ])
        ]

-- splices within a length, each of which comes after the one before it and does not overlap it
abbrev pub Linked : ℕ → Splice → List Splice → Type 0
Linked len x [] = Unit {0}
Linked len x (y ∷ order) = IsWithin len y × After y x × (overlap y x ≡ false) × Linked len y order

pub ends_order : (x : Splice) (len : ℕ) → IsWithin len x → start_of x ≤ end_of x
ends_order (Insert at text) len w = omega arith
ends_order (Replace s e text) len w = w.0

pub ends_within : (x : Splice) (len : ℕ) → IsWithin len x → end_of x ≤ len
ends_within (Insert at text) len w = w
ends_within (Replace s e text) len w = w.1

linked_chain : (x : Splice) (order : List Splice) (len : ℕ) → IsWithin len x → Linked len x order → IsChain (end_of x) (only_of x) len order
linked_chain x [] len w l = ends_within x len w
linked_chain x (y ∷ order) len w l =
    let v = l.0 in
    chain_cons y order (end_of x) (only_of x) len
    (placed_after y x len (ends_order x len w) (ends_order y len v) (ends_within y len v) l.1 l.2)
    (linked_chain y order len v l.3)

pub chain_of : (x : Splice) (order : List Splice) (len : ℕ) → IsWithin len x → Linked len x order → IsChain 0 false len (x ∷ order)
chain_of x order len w l =
    chain_cons x order 0 false len
    (record { place = omega arith; long = λ f. absurd (false≢true f); order = ends_order x len w; within = ends_within x len w })
    (linked_chain x order len w l)

-- No splice of a chain overlaps another.

-- a place after a splice
record Past (x : Splice) (low : ℕ) (only : Bool) : Type 0 where
  pub ends : end_of x ≤ low
  pub alone : only_of x ≡ true → (end_of x < low) ⊎ (only ≡ true)

outside : (s e at : ℕ) → e ≤ at → (nat_lt s at && nat_lt at e) ≡ false
outside s e at l = and_right (nat_lt s at) (nat_lt at e) (le-ltb at e l)

outside_left : (s e at : ℕ) → at ≤ s → (nat_lt s at && nat_lt at e) ≡ false
outside_left s e at l = and_left (nat_lt s at) (nat_lt at e) (le-ltb s at l)

apart_from : (s e u v : ℕ) → e ≤ u → (s ≡ u → e ≡ v → ⊥) → not (ends_before s e u v || ends_before u v s e) ≡ false
apart_from s e u v l n =
    ap (λ (b : Bool). not (b || ends_before u v s e))
    (and_from (nat_le e u) (not (nat_eq s u && nat_eq e v)) (le-leb e u l) (ap not (differ (cases_eq s u) (cases_eq e v))))
  where
    differ : (s ≡ u) ⊎ (s ≡ u → ⊥) → (e ≡ v) ⊎ (e ≡ v → ⊥) → (nat_eq s u && nat_eq e v) ≡ false
    differ (inl a) (inl b) = absurd (n a b)
    differ (inr a) w = and_left (nat_eq s u) (nat_eq e v) (ne_eqb s u a)
    differ (inl a) (inr b) = and_right (nat_eq s u) (nat_eq e v) (ne_eqb e v b)

clear_head : (x y : Splice) (order : List Splice) (low : ℕ) (only : Bool) (len : ℕ) → start_of x ≤ end_of x → Past x low only
    → IsChain low only len (y ∷ order) → overlap x y ≡ false
clear_head (Insert at text) (Insert other t) order low only len i p c = refl
clear_head (Insert at text) (Replace u v t) order low only len i p c = (let a = p.ends in let b : low ≤ u = c.0 in outside_left u v at (omega (arith, a, b)))
clear_head (Replace s e text) (Insert at t) order low only len i p c = (let a = p.ends in let b : low ≤ at = c.0 in outside s e at (omega (arith, a, b)))
clear_head (Replace s e text) (Replace u v t) order low only len i p c =
    let a : e ≤ low = p.ends in
    let b : low ≤ u = c.0 in
    let d : u ≤ v = c.1 in
    apart_from s e u v (omega (arith, a, b)) (λ f g. both f g (p.alone (eq-eqb s e (omega (arith, a, b, d, f, g, i)))))
  where
    both : s ≡ u → e ≡ v → (e < low) ⊎ (only ≡ true) → ⊥
    both f g (inl l) = (let b : low ≤ u = c.0 in let d : u ≤ v = c.1 in omega (arith, l, b, d, f, g))
    both f g (inr o) =
        let a : e ≤ low = p.ends in
        let b : low ≤ u = c.0 in
        let d : u ≤ v = c.1 in
        let l : low < u = c.2 o (omega (arith, a, b, d, f, g, i)) in
        omega (arith, l, a, d, g)

past_head : (x y : Splice) (order : List Splice) (low : ℕ) (only : Bool) (len : ℕ) → Past x low only → IsChain low only len (y ∷ order)
    → Past x (end_of y) (only_of y)
past_head x (Insert at t) order low only len p c =
    let a = p.ends in
    let b : low ≤ at = c.0 in
    record {
      ends = omega (arith, a, b);
      alone = λ o. elim (p.alone o) [
        | inl l ↦ inl (omega (arith, l, b))
        | inr k ↦ (let m : low < at = c.1 k in inl (omega (arith, a, m)))
      ];
    }
past_head x (Replace u v t) order low only len p c =
    let a = p.ends in
    let b : low ≤ u = c.0 in
    let d : u ≤ v = c.1 in
    record {
      ends = omega (arith, a, b, d);
      alone = λ o. elim (cases_eq u v) [
        | inl e ↦ inr (eq-eqb u v e)
        | inr n ↦ (let m = strictly u v d n in inl (omega (arith, a, b, m)))
      ];
    }

chain_tail : (y : Splice) (order : List Splice) (low : ℕ) (only : Bool) (len : ℕ) → IsChain low only len (y ∷ order) → IsChain (end_of y) (only_of y) len order
chain_tail (Insert at t) order low only len c = c.2
chain_tail (Replace u v t) order low only len c = c.3

clear_after : (x : Splice) (order : List Splice) (low : ℕ) (only : Bool) (len : ℕ) → start_of x ≤ end_of x → Past x low only → IsChain low only len order
    → list_any (overlap x) order ≡ false
clear_after x [] low only len i p c = refl
clear_after x (y ∷ order) low only len i p c =
    or_from (overlap x y) (list_any (overlap x) order) (clear_head x y order low only len i p c)
    (clear_after x order (end_of y) (only_of y) len i (past_head x y order low only len p c) (chain_tail y order low only len c))

-- no splice overlaps a later one
abbrev pub AllClear : List Splice → Type 0
AllClear [] = Unit {0}
AllClear (x ∷ order) = (list_any (overlap x) order ≡ false) × AllClear order

pub linked_clear : (x : Splice) (order : List Splice) (len : ℕ) → IsWithin len x → Linked len x order → AllClear (x ∷ order)
linked_clear x [] len w l = (refl, tt)
linked_clear x (y ∷ order) len w l = (
  clear_after x (y ∷ order) (end_of x) (only_of x) len (ends_order x len w) (record { ends = omega arith; alone = λ o. inr o })
      (linked_chain x (y ∷ order) len w l),
  linked_clear y order len l.0 l.3,
)

pub overlap_flips : (x y : Splice) → overlap x y ≡ overlap y x
overlap_flips (Insert at text) (Insert other t) = refl
overlap_flips (Insert at text) (Replace u v t) = refl
overlap_flips (Replace s e text) (Insert at t) = refl
overlap_flips (Replace s e text) (Replace u v t) = ap not (comm (ends_before s e u v) (ends_before u v s e))
  where
    comm : (a b : Bool) → (a || b) ≡ (b || a)
    comm true true = refl
    comm true false = refl
    comm false true = refl
    comm false false = refl
