-- Two node-sets compared by =: an index of the string-values of the one.
use Rattle.std.specs.Prelude.{ℕ, ◌+◌, ◌*◌, ◌%◌, ◌^◌, ◌≡◌, ◌||◌, List, fold, bytes_eq}
use Rattle.std.specs.BTreeSet.{BTreeSet, contains}
use Rattle.std.specs.Cmp.Lexicographic.{slice_cmp}
use Rattle.std.specs.List.{list_any}
use Rattle.std.specs.Ordering.{nat_cmp, ordering_then}
use Rattle.std.specs.declared.cmp.Ordering.{Ordering}
use Rattle.xpath_comparisons.specs.declared.keys.OrderedText.{OrderedText}

-- a hash of 64 bits, from that of the characters before the last
abbrev pub mixed : ℕ → ℕ → ℕ
mixed hash c = (hash * 0x9E37_79B9_7F4A_7C15 + c) % 2 ^ 64

abbrev pub hash_of : List ℕ → ℕ
hash_of t = fold mixed 0 t

-- a text with its hash before it
abbrev pub TextKey : Type 0 → Type 0
TextKey W = ℕ × OrderedText W

module _ {W : Type 0} where
  abbrev pub key_of : List ℕ → TextKey W
  key_of t = (hash_of t, record { chars = t })

  -- keys are ordered by their hashes, and of one hash by their texts
  abbrev pub key_cmp : TextKey W → TextKey W → Ordering
  key_cmp x y = ordering_then (nat_cmp x.0 y.0) (slice_cmp nat_cmp x.1.chars y.1.chars)

  -- an index has the key of a text exactly where the text is among these
  abbrev pub IsIndex : BTreeSet (TextKey W) → List (List ℕ) → Type 0
  IsIndex index ts = (q : List ℕ) → contains key_cmp index (key_of q) ≡ list_any (bytes_eq q) ts

-- the same of an index that is made, where some texts are left
pub record IsIndexing (W : Type 0) (index : BTreeSet (TextKey W)) (ts us : List (List ℕ)) : Type 0 where
  pub has : (q : List ℕ) → list_any (bytes_eq q) ts ≡ (contains key_cmp index (key_of q) || list_any (bytes_eq q) us)
