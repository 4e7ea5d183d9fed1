-- The ends of lists.
use Rattle.std.proofs.Common.{◌≡◌, List, [], ◌∷◌, ◌++◌}

pub no_appended : {A : Type 0} (xs : List A) (x : A) → xs ++ x ∷ [] ≡ [] → ⊥
no_appended [] x h = cc
no_appended (y ∷ ys) x h = cc

pub same_last : {A : Type 0} (xs ys : List A) (x y : A) → xs ++ x ∷ [] ≡ ys ++ y ∷ [] → x ≡ y
same_last [] [] x y h = cc
same_last [] (b ∷ ys) x y h = let e : ys ++ y ∷ [] ≡ [] = cc in absurd (no_appended ys y e)
same_last (a ∷ xs) [] x y h = let e : xs ++ x ∷ [] ≡ [] = cc in absurd (no_appended xs x e)
same_last (a ∷ xs) (b ∷ ys) x y h = let e : xs ++ x ∷ [] ≡ ys ++ y ∷ [] = cc in same_last xs ys x y e
