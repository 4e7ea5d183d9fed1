-- Names of a tag in rounds, each with its number (this project's own).
use Rattle.std.specs.Prelude.{◌≡◌, ℕ, ◌+◌, ◌<◌, ◌≤◌, List, Contains, length}
use Rattle.std.specs.Borrow.{Bor}
use Rattle.std.specs.declared.cmp.Ordering.{Ordering}
use Rattle.std.specs.Ordering.{ordering_then, nat_cmp}
use Rattle.std.specs.Cmp.Lexicographic.{slice_cmp}
use Rattle.std.specs.List.{slice_index_or}
use Rattle.xml_model.specs.Records.{Record}
use Rattle.vtd_namespaces.specs.Repeats.{name_of}

-- the order of a round: by the bytes of the names, and of one name by the numbers
abbrev pub numbered_cmp : Bor (List ℕ) × ℕ → Bor (List ℕ) × ℕ → Ordering
numbered_cmp x y = ordering_then (slice_cmp nat_cmp x.0.now y.0.now) (nat_cmp x.1 y.1)

-- a name with its number, of a tag whose first name's record has an index
pub record IsNumbered (bytes : List ℕ) (rs : List Record) (first n : ℕ) (e : Bor (List ℕ) × ℕ) : Type 0 where
  pub name : e.0.now ≡ name_of bytes rs first n
  pub number : e.1 ≡ n

-- so many elements of a round are the names from one with a number on
abbrev pub AreNamesFrom : List ℕ → List Record → ℕ → ℕ → ℕ → List (Bor (List ℕ) × ℕ) → Type 0
AreNamesFrom bytes rs first start count round = (k : ℕ) (d : Bor (List ℕ) × ℕ) → k < count →
    IsNumbered bytes rs first (start + k) (slice_index_or round k d)

-- a round has a name with a number
pub record IsNamed (round : List (Bor (List ℕ) × ℕ)) (name : List ℕ) (n : ℕ) : Type 0 where
  pub entry : Bor (List ℕ) × ℕ
  pub there : Contains round entry
  pub name_is : entry.0.now ≡ name
  pub number_is : entry.1 ≡ n

-- where in a round the least number of a name stands, if the round has the name
pub record IsPlaceFor (round : List (Bor (List ℕ) × ℕ)) (name : List ℕ) (at : ℕ) : Type 0 where
  pub least : (d : Bor (List ℕ) × ℕ) → at < length round → (slice_index_or round at d).0.now ≡ name →
      (n : ℕ) → IsNamed round name n → (slice_index_or round at d).1 ≤ n
  pub none : ((d : Bor (List ℕ) × ℕ) → at < length round → (slice_index_or round at d).0.now ≡ name → ⊥) →
      (n : ℕ) → IsNamed round name n → ⊥
