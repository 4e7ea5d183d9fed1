-- Splices in the order of the bytes (this project's own): what private functions promise.
use Rattle.std.specs.Prelude.{◌≡◌, ℕ, suc, ◌+◌, ◌-◌, ◌*◌, ◌%◌, ◌^◌, ◌<◌, ◌≤◌, Bool, true, false, cond}
use Rattle.std.specs.Prelude.{nat_eq, nat_lt, not, ◌&&◌, List, [], ◌∷◌, ◌++◌, length, take, drop, map}
use Rattle.std.specs.Prelude.{filter, Option, Some, None}
use Rattle.std.specs.List.{sum_by}
use Rattle.vtd_edits.specs.Splices.{start_of, end_of, text_of, text_size, splice_at, overlap, AreEdits}
use Rattle.vtd_edits.specs.declared.splice.Splice.{Splice}
use Rattle.vtd_edits.specs.declared.splice.Splice.TheVariants.{Replace, Insert}

-- Splices after a place, each of which ends before the next one starts. After an empty range only longer ranges start
-- where it is.
abbrev pub IsChain : ℕ → Bool → ℕ → List Splice → Type 0
IsChain low only len [] = low ≤ len
IsChain low only len (Insert at text ∷ order) = (low ≤ at) × (only ≡ true → low < at) × IsChain at false len order
IsChain low only len (Replace start end text ∷ order) =
    (low ≤ start) × (start ≤ end) × (only ≡ true → start ≡ end → low < start) × IsChain end (nat_eq start end) len order

-- the new bytes in one pass, where these bytes are left after a place
abbrev pub spliced_by : List Splice → ℕ → List ℕ → List ℕ
spliced_by [] done rest = rest
spliced_by (x ∷ order) done rest =
    take (start_of x - done) rest ++ (text_of x ++ spliced_by order (end_of x) (drop (end_of x - done) rest))

-- the order of splices that start at one place: insertions, an empty range, another range
abbrev pub rank : Splice → ℕ
rank (Insert at text) = 0
rank (Replace start end text) = cond (nat_eq start end) 1 2

-- the two in one number
abbrev pub slot_of : Splice → ℕ
slot_of x = start_of x * 4 + rank x

-- a splice with its index in staging order, in one number
abbrev pub key : Splice → ℕ → ℕ
key x n = slot_of x * 2 ^ 32 + n

abbrev pub keys_from : ℕ → List Splice → List ℕ
keys_from n [] = []
keys_from n (x ∷ xs) = key x n ∷ keys_from (suc n) xs

-- numbers in their order
abbrev pub put_key : ℕ → List ℕ → List ℕ
put_key k [] = k ∷ []
put_key k (l ∷ ls) = cond (nat_lt k l) (k ∷ l ∷ ls) (l ∷ put_key k ls)

abbrev pub rising : List ℕ → List ℕ
rising [] = []
rising (k ∷ ks) = put_key k (rising ks)

-- the keys of staged splices in the order of the bytes
unfoldable pub order_of : List Splice → List ℕ
order_of staged = rising (keys_from 0 staged)

-- the splice of a key
abbrev pub splice_of : List Splice → ℕ → Splice
splice_of staged k = splice_at staged (k % 2 ^ 32)

abbrev pub in_order : List Splice → List Splice
in_order staged = map (splice_of staged) (order_of staged)

-- whether a splice overlaps the last one, if there is one
abbrev pub overlaps_last : List Splice → Option ℕ → Splice → Bool
overlaps_last staged None x = false
overlaps_last staged (Some i) x = overlap (splice_at staged i) x

-- whether no splice overlaps the one before it in an order, of which the first is after the last one
abbrev pub apart_after : List Splice → Option ℕ → List ℕ → Bool
apart_after staged last [] = true
apart_after staged last (k ∷ ks) =
    not (overlaps_last staged last (splice_of staged k)) && apart_after staged (Some (k % 2 ^ 32)) ks

-- the same of the splices below an index
abbrev pub apart_to : List Splice → List ℕ → ℕ → Bool
apart_to staged order n = apart_after staged None (filter (λ k. nat_lt (k % 2 ^ 32) n) order)

-- the first splice that the one with an index overlaps, which is before it
pub record IsFirstPartner (staged : List Splice) (later i : ℕ) : Type 0 where
  pub below : i < later
  pub overlaps : overlap (splice_at staged later) (splice_at staged i) ≡ true
  pub first : (k : ℕ) → k < i → overlap (splice_at staged later) (splice_at staged k) ≡ false

-- how many bytes splices take away
abbrev pub taken_size : List Splice → ℕ
taken_size staged = sum_by (λ x. end_of x - start_of x) staged

-- what edits hold
pub record IsHeld (len : ℕ) (staged : List Splice) (order : List ℕ) (text taken : ℕ) : Type 0 where
  pub sorted : order ≡ order_of staged
  pub edits : AreEdits (record { len = len; splices = staged })
  pub texts : text ≡ text_size staged
  pub takes : taken ≡ taken_size staged
  pub few : length staged < 2 ^ 32
  pub small : len < 2 ^ 30
