-- Splices, which of them overlap, and the bytes that they make (this project's own).
use Rattle.std.specs.Prelude.{◌≡◌, ℕ, suc, ◌<◌, ◌≤◌, Bool, true, false, cond, nat_eq}
use Rattle.std.specs.Prelude.{nat_lt, nat_le, not, ◌&&◌, ◌||◌, List, [], ◌∷◌, ◌++◌, length, slice_index_or}
use Rattle.std.specs.List.{flat_map, list_any, sum_by, All}
use Rattle.vtd_edits.specs.declared.splice.Splice.{Splice}
use Rattle.vtd_edits.specs.declared.splice.Splice.TheVariants.{Replace, Insert}
use Rattle.vtd_edits.specs.declared.splice.StageFault.{StageFault}
use Rattle.vtd_edits.specs.declared.splice.StageFault.TheVariants.{Overlap, TextLong, NoMemory}

-- whether a range ends at or before the start of another, and the two differ
abbrev pub ends_before : ℕ → ℕ → ℕ → ℕ → Bool
ends_before start end other_start other_end =
    nat_le end other_start && not (nat_eq start other_start && nat_eq end other_end)

-- Two replaced ranges overlap where neither ends before the other. An insertion overlaps a range that it is inside of.
-- Two insertions never overlap.
abbrev pub overlap : Splice → Splice → Bool
overlap (Replace start end text) (Replace other_start other_end other_text) =
    not (ends_before start end other_start other_end || ends_before other_start other_end start end)
overlap (Replace start end text) (Insert at other_text) = nat_lt start at && nat_lt at end
overlap (Insert at text) (Replace start end other_text) = nat_lt start at && nat_lt at end
overlap (Insert at text) (Insert other other_text) = false

-- where a splice starts
abbrev pub start_of : Splice → ℕ
start_of (Replace start end text) = start
start_of (Insert at text) = at

-- where a splice ends
abbrev pub end_of : Splice → ℕ
end_of (Replace start end text) = end
end_of (Insert at text) = at

-- the text of a splice
abbrev pub text_of : Splice → List ℕ
text_of (Replace start end text) = text
text_of (Insert at text) = text

-- the text of an insertion at a place; of a range that starts there, an empty one or another
abbrev pub inserted : ℕ → Splice → List ℕ
inserted place (Insert at text) = cond (nat_eq at place) text []
inserted place (Replace start end text) = []

abbrev pub empty_replaced : ℕ → Splice → List ℕ
empty_replaced place (Insert at text) = []
empty_replaced place (Replace start end text) = cond (nat_eq start place && nat_eq end place) text []

abbrev pub replaced : ℕ → Splice → List ℕ
replaced place (Insert at text) = []
replaced place (Replace start end text) = cond (nat_eq start place && not (nat_eq end place)) text []

-- whether a range is replaced that has the byte at a place
abbrev pub covers : ℕ → Splice → Bool
covers place (Insert at text) = false
covers place (Replace start end text) = nat_le start place && nat_lt place end

-- the texts at a place, before its byte: the insertions, the empty range, the range, each in staging order
abbrev pub texts_at : List Splice → ℕ → List ℕ
texts_at staged place =
    flat_map (inserted place) staged ++ flat_map (empty_replaced place) staged ++ flat_map (replaced place) staged

-- the new bytes from a place on, where these bytes are left there: place by place, the last without a byte
abbrev pub spliced_from : List Splice → ℕ → List ℕ → List ℕ
spliced_from staged place [] = texts_at staged place
spliced_from staged place (byte ∷ bytes) =
    texts_at staged place ++ cond (list_any (covers place) staged) [] (byte ∷ [])
    ++ spliced_from staged (suc place) bytes

-- the new bytes
unfoldable pub spliced : List ℕ → List Splice → List ℕ
spliced bytes staged = spliced_from staged 0 bytes

-- the splice is within bytes of this length
abbrev pub IsWithin : ℕ → Splice → Type 0
IsWithin len (Replace start end text) = (start ≤ end) × (end ≤ len)
IsWithin len (Insert at text) = at ≤ len

-- what is staged, for a document of this length, in staging order
pub record Staged : Type 0 where
  pub len : ℕ
  pub splices : List Splice

-- the splice with an index, in staging order
abbrev pub splice_at : List Splice → ℕ → Splice
splice_at splices i = slice_index_or splices i (Insert 0 [])

-- no splice overlaps an earlier one
abbrev pub AreApart : List Splice → Type 0
AreApart splices =
    (i j : ℕ) → i < j → j < length splices → overlap (splice_at splices j) (splice_at splices i) ≡ false

-- how many bytes the texts of splices have
abbrev pub text_size : List Splice → ℕ
text_size splices = sum_by (λ x. length (text_of x)) splices

-- how many bytes staged texts have at most
abbrev pub text_limit : ℕ
text_limit = 268435456

-- splices within a document, of which no two overlap, and whose texts are not too long
pub record AreEdits (edits : Staged) : Type 0 where
  pub within : All (IsWithin edits.len) edits.splices
  pub apart : AreApart edits.splices
  pub short : text_size edits.splices ≤ text_limit

-- of the splices that overlap an earlier one, the first, and the first that it overlaps, by where they start
pub record HasFirstOverlap (splices : List Splice) (earlier later : ℕ) : Type 0 where
  pub i : ℕ
  pub j : ℕ
  pub order : i < j
  pub below : j < length splices
  pub overlaps : overlap (splice_at splices j) (splice_at splices i) ≡ true
  pub first : (k l : ℕ) → k < l → l < j → overlap (splice_at splices l) (splice_at splices k) ≡ false
  pub partner : (k : ℕ) → k < i → overlap (splice_at splices j) (splice_at splices k) ≡ false
  pub start : earlier ≡ start_of (splice_at splices i)
  pub other_start : later ≡ start_of (splice_at splices j)

-- what a refusal to stage splices after others says of them all
abbrev pub Refuses : List Splice → StageFault → Type 0
Refuses splices (Overlap earlier later) = HasFirstOverlap splices earlier later
Refuses splices TextLong = AreApart splices × (text_limit < text_size splices)
Refuses splices NoMemory = Unit {0}
