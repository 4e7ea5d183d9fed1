-- Two texts without what both begin with.
use Rattle.std.specs.Prelude.{◌≡◌, ℕ, false, List, ◌++◌}
use Rattle.std.specs.Str.{bytes_eq}

-- whatever follows the one, and whatever the other, they are not the same
abbrev pub AreApart : List ℕ → List ℕ → Type 0
AreApart one other = (x y : List ℕ) → bytes_eq (one ++ x) (other ++ y) ≡ false

-- both are the same characters, and then what is left of each
pub record AreAfter (one other left right : List ℕ) : Type 0 where
  pub shared : List ℕ
  pub first : one ≡ shared ++ left
  pub second : other ≡ shared ++ right
