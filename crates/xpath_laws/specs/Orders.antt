-- Lists of nodes that are in document order already (this project's own).
use Rattle.std.specs.Prelude.{◌≡◌, true, not, List, [], ◌∷◌}
use Rattle.std.specs.List.{list_all}
use Rattle.xml_model.specs.Tree.{Entry, steps, is_self}

-- a list is what is left of another after some are taken away
pub data IsPart : List Entry → List Entry → Type 0 where
  end : (ys : List Entry) → IsPart [] ys
  take : (x : Entry) (xs ys : List Entry) → IsPart xs ys → IsPart (x ∷ xs) (x ∷ ys)
  skip : (y : Entry) (xs ys : List Entry) → IsPart xs ys → IsPart xs (y ∷ ys)

-- no two nodes have one path
abbrev pub AreApart : List Entry → Type 0
AreApart [] = Unit {0}
AreApart (x ∷ xs) = (list_all (λ y. not (is_self (steps x.path y.path))) xs ≡ true) × AreApart xs
