-- One splice of the order more is done.
use Rattle.std.proofs.Common.{◌≡◌, ℕ, zero, suc, ◌+◌, ◌-◌, ◌<◌, ◌≤◌, ◌^◌, ◌%◌, Bool, false, nat_eq, List, [], ◌∷◌, ◌++◌, length, map, take, drop, get_or}
use Rattle.std.proofs.Common.{refl, sym, ap, ap₂, subst, ◌∙◌, arith, append_assoc}
use Rattle.std.specs.List.{All, AllByRecursion}
use Rattle.std.proofs.Math.ListN.{drop_of_length-le}
use Rattle.std.proofs.lemmas.List.{drop_more, drop-drop, get_or_read}
use Rattle.std.proofs.lemmas.List.Elements.{All-from_recursion}
use Rattle.std.proofs.lemmas.List.Sorted.{length_permutation}
use Rattle.vtd_edits.specs.declared.splice.Splice.{Splice}
use Rattle.vtd_edits.specs.declared.splice.Splice.TheVariants.{Replace, Insert}
use Rattle.vtd_edits.specs.Splices.{start_of, end_of, text_of, splice_at, spliced, AreApart, AreEdits, IsWithin, Staged}
use Rattle.vtd_edits.specs.Order.{in_order, keys_from, order_of, rising, splice_of, spliced_by, IsChain, IsHeld}
use Rattle.vtd_edits.specs.Turns.{HasChain, IsDone}
use Rattle.vtd_edits.proofs.Keys.{all_rising, rising_permutation}
use Rattle.vtd_edits.proofs.Staged.{IsKey, each_key, order_permutation}
use Rattle.vtd_edits.proofs.Overlaps.{order_chain}
use Rattle.vtd_edits.proofs.Texts.{chain_ends, one_pass_staged}

-- what the first splice of a chain is
pub record Turns (low len : ℕ) (x : Splice) (order : List Splice) : Type 0 where
  pub after : low ≤ start_of x
  pub forward : start_of x ≤ end_of x
  pub within : end_of x ≤ len
  pub rest : HasChain (end_of x) len order

head_turns : (x : Splice) (order : List Splice) (low : ℕ) (only : Bool) (len : ℕ) → IsChain low only len (x ∷ order) → Turns low len x order
head_turns (Insert at text) order low only len c =
    record { after = c.0; forward = omega arith; within = chain_ends order at false len c.2; rest = record { only = false; chain = c.2 } }
head_turns (Replace start end text) order low only len c =
    record { after = c.0; forward = c.1; within = chain_ends order end (nat_eq start end) len c.3; rest = record { only = nat_eq start end; chain = c.3 } }

pub turns_at : (order : List Splice) (i low len : ℕ) → i < length order → HasChain low len (drop i order)
    → Turns low len (splice_at order i) (drop (i + 1) order)
turns_at order i low len h c =
    let P : List Splice → Type 0 = λ xs. IsChain low c.only len xs in
    head_turns (splice_at order i) (drop (i + 1) order) low c.only len (subst P (drop_more order i (Insert 0 []) h) c.chain)

pub order_length : (staged : List Splice) → length staged ≤ 2 ^ 32 → length (in_order staged) ≡ length staged
order_length staged few = length_permutation staged (in_order staged) (order_permutation staged few)

pub none_done : (bytes : List ℕ) (staged : List Splice) → length staged ≤ 2 ^ 32 → All (IsWithin (length bytes)) staged → AreApart staged
    → IsDone bytes staged 0 0 []
none_done bytes staged few w a =
    record { chain = record { only = false; chain = order_chain staged (length bytes) few w a }; made = sym (one_pass_staged bytes staged few w a) }

pub one_more_done : (bytes : List ℕ) (staged : List Splice) (i done end : ℕ) (out kept text more : List ℕ) → length staged ≤ 2 ^ 32 → i < length staged
    → IsDone bytes staged i done out
    → kept ≡ take (start_of (splice_at (in_order staged) i) - done) (drop done bytes) → text ≡ text_of (splice_at (in_order staged) i)
    → end ≡ end_of (splice_at (in_order staged) i) → more ≡ (out ++ kept) ++ text → IsDone bytes staged (i + 1) end more
one_more_done bytes staged i done end out kept text more few h d k t e m =
    let order : List Splice = in_order staged in
    let x : Splice = splice_at order i in
    let size = order_length staged few in
    let turn = turns_at order i done (length bytes) (omega (arith, h, size)) d.chain in
    let reached : (end_of x - done) + done ≡ end_of x = (let a = turn.after in let b = turn.forward in omega (arith, a, b)) in
    let rest : List ℕ = spliced_by (drop (i + 1) order) (end_of x) (drop (end_of x) bytes) in
    let step : spliced_by (drop i order) done (drop done bytes) ≡ take (start_of x - done) (drop done bytes) ++ (text_of x ++ rest) =
    ap (λ (xs : List Splice). spliced_by xs done (drop done bytes)) (drop_more order i (Insert 0 []) (omega (arith, h, size)))
    ∙ ap (λ (ys : List ℕ). take (start_of x - done) (drop done bytes) ++ (text_of x ++ spliced_by (drop (i + 1) order) (end_of x) ys))
    (drop-drop (end_of x - done) done bytes ∙ ap (λ (n : ℕ). drop n bytes) (let f : done + (end_of x - done) ≡ end_of x = omega (arith, reached) in f)) in
    let all : more ++ rest ≡ spliced bytes staged =
    ap (λ (xs : List ℕ). xs ++ rest) m
    ∙ append_assoc (out ++ kept) text rest
    ∙ append_assoc out kept (text ++ rest)
    ∙ ap₂ (λ (xs ys : List ℕ). out ++ (xs ++ (ys ++ rest))) k t
    ∙ ap (λ (xs : List ℕ). out ++ xs) (sym step)
    ∙ d.made in
    record {
      chain = subst (λ (n : ℕ). HasChain n (length bytes) (drop (i + 1) order)) (sym e) turn.rest;
      made = subst (λ (n : ℕ). more ++ spliced_by (drop (i + 1) order) n (drop n bytes) ≡ spliced bytes staged) (sym e) all;
    }

pub all_done : (bytes : List ℕ) (staged : List Splice) (done : ℕ) (out : List ℕ) → length staged ≤ 2 ^ 32 → IsDone bytes staged (length staged) done out
    → out ++ drop done bytes ≡ spliced bytes staged
all_done bytes staged done out few d =
    let order : List Splice = in_order staged in
    ap (λ (xs : List Splice). out ++ spliced_by xs done (drop done bytes))
    (sym (drop_of_length-le order (let e = order_length staged few in omega (arith, e))))
    ∙ d.made

keys_size : (n : ℕ) (xs : List Splice) → length (keys_from n xs) ≡ length xs
keys_size n [] = refl
keys_size n (x ∷ xs) = ap suc (keys_size (suc n) xs)

pub order_size : (staged : List Splice) → length (order_of staged) ≡ length staged
unfolding order_of
order_size staged =
    length_permutation (keys_from 0 staged) (rising (keys_from 0 staged)) (rising_permutation (keys_from 0 staged)) ∙ keys_size 0 staged

all_keys : (staged : List Splice) → length staged ≤ 2 ^ 32 → AllByRecursion (IsKey staged) (order_of staged)
unfolding order_of
all_keys staged few = all_rising (IsKey staged) (keys_from 0 staged) (each_key staged few)

-- the key at an index of the order shows a splice
pub key_at : (staged : List Splice) (i : ℕ) → length staged ≤ 2 ^ 32 → i < length staged → IsKey staged (get_or (order_of staged) i 0)
key_at staged i few h =
    let each = All-from_recursion (IsKey staged) (order_of staged) (all_keys staged few) in
    each i 0 (let e = order_size staged in omega (arith, h, e))

at_map : (s : ℕ → Splice) (ks : List ℕ) (i : ℕ) → i < length ks → get_or (map s ks) i (Insert 0 []) ≡ s (get_or ks i 0)
at_map s [] i h = absurd (omega (arith, h))
at_map s (k ∷ ks) zero h = refl
at_map s (k ∷ ks) (suc i) h = at_map s ks i (omega (arith, h))

-- and the splice at that index of the order is that splice
pub splice_at_key : (staged : List Splice) (i : ℕ) → i < length staged → splice_at (in_order staged) i ≡ splice_at staged
    (get_or (order_of staged) i 0 % 2 ^ 32)
splice_at_key staged i h = at_map (splice_of staged) (order_of staged) i (let e = order_size staged in omega (arith, h, e))

-- What edits hold, by the order.

pub held_turns : (len : ℕ) (staged all : List Splice) (order : List ℕ) (text taken : ℕ) → IsHeld len staged order text taken → staged ≡ all
    → length order ≡ length all
held_turns len staged all order text taken h e = ap length h.sorted ∙ order_size staged ∙ ap length e

shown_key : (staged : List Splice) (order : List ℕ) (i k : ℕ) → order ≡ order_of staged → i < length staged → k ≡ get_or order i k
    → k ≡ get_or (order_of staged) i 0
shown_key staged order i k o h e =
    get_or_read order i k (let s = ap length o in let t = order_size staged in omega (arith, h, s, t)) e 0 ∙ ap (λ (ks : List ℕ). get_or ks i 0) o

pub key_below : (len : ℕ) (staged all : List Splice) (order : List ℕ) (text taken i k : ℕ) → IsHeld len staged order text taken → staged ≡ all → i < length all
    → k ≡ get_or order i k → k % 2 ^ 32 < length staged
key_below len staged all order text taken i k h e l g =
    let m : i < length staged = (let f = ap length e in omega (arith, l, f)) in
    let few = h.few in
    subst (λ (q : ℕ). q % 2 ^ 32 < length staged) (sym (shown_key staged order i k h.sorted m g)) (key_at staged i (omega (arith, few)) m).below

pub key_splice : (len : ℕ) (staged all : List Splice) (order : List ℕ) (text taken i k : ℕ) (x : Splice) → IsHeld len staged order text taken → staged ≡ all
    → i < length all
    → k ≡ get_or order i k → x ≡ get_or staged (k % 2 ^ 32) x → x ≡ splice_at (in_order all) i
key_splice len staged all order text taken i k x h e l g f =
    let m : i < length staged = (let d = ap length e in omega (arith, l, d)) in
    get_or_read staged (k % 2 ^ 32) x (key_below len staged all order text taken i k h e l g) f (Insert 0 [])
    ∙ ap (λ (q : ℕ). splice_at staged (q % 2 ^ 32)) (shown_key staged order i k h.sorted m g)
    ∙ sym (splice_at_key staged i m)
    ∙ ap (λ (xs : List Splice). splice_at (in_order xs) i) e

-- The loop over the order.

pub begin_done : (bytes : List ℕ) (edits : Staged) (out : List ℕ) → AreEdits edits → length edits.splices < 2 ^ 32 → length bytes ≡ edits.len → out ≡ []
    → IsDone bytes edits.splices 0 0 out
begin_done bytes edits out e few h o =
    subst (IsDone bytes edits.splices 0 0) (sym o)
    (none_done bytes edits.splices (omega (arith, few)) (subst (λ (n : ℕ). All (IsWithin n) edits.splices) (sym h) e.within) e.apart)

-- the room that a splice of the order has
pub record Room (done len : ℕ) (x : Splice) : Type 0 where
  pub after : done ≤ start_of x
  pub within : start_of x ≤ len

pub turn_room : (bytes : List ℕ) (staged : List Splice) (i done : ℕ) (out : List ℕ) (x : Splice) → length staged < 2 ^ 32 → i < length staged
    → IsDone bytes staged i done out
    → x ≡ splice_at (in_order staged) i → Room done (length bytes) x
turn_room bytes staged i done out x few h d e =
    let size = order_length staged (omega (arith, few)) in
    let turn = turns_at (in_order staged) i done (length bytes) (omega (arith, h, size)) d.chain in
    let a = turn.forward in
    let b = turn.within in
    subst (Room done (length bytes)) (sym e) (record { after = turn.after; within = omega (arith, a, b) })

pub next_done : (bytes : List ℕ) (staged : List Splice) (i done end : ℕ) (out kept text more : List ℕ) (x : Splice) → length staged < 2 ^ 32
    → i < length staged → IsDone bytes staged i done out
    → x ≡ splice_at (in_order staged) i → kept ≡ take (start_of x - done) (drop done bytes) → text ≡ text_of x → end ≡ end_of x → more ≡ (out ++ kept) ++ text
    → IsDone bytes staged (i + 1) end more
next_done bytes staged i done end out kept text more x few h d is k t e m =
    one_more_done bytes staged i done end out kept text more (omega (arith, few)) h d
    (k ∙ ap (λ (y : Splice). take (start_of y - done) (drop done bytes)) is) (t ∙ ap text_of is) (e ∙ ap end_of is) m

-- what is left after the last splice
pub done_within : (bytes : List ℕ) (staged : List Splice) (i done : ℕ) (out : List ℕ) → IsDone bytes staged i done out → done ≤ length bytes
done_within bytes staged i done out d = chain_ends (drop i (in_order staged)) done d.chain.only (length bytes) d.chain.chain
