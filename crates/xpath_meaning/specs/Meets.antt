-- Answers that a program holds in a way of its own, and answers for lists (this project's own).
use Rattle.std.specs.Prelude.{◌≡◌, List, [], ◌∷◌, ◌++◌, Ok, Err}
use Rattle.xpath_values.specs.declared.ValueFault.TheVariants as fault
use Rattle.xpath_values.specs.Answers.{Answer, and_then, with}

-- the lists that are answered for each of a list, joined; the first fault is the answer
abbrev pub gathered : {X Y : Type 0} → (X → Answer (List Y)) → List X → Answer (List Y)
gathered f [] = Ok []
gathered f (x ∷ xs) = and_then (f x) (λ ys. with (gathered f xs) (λ zs. ys ++ zs))

-- what is meant is something that a program holds as x
pub record IsHeldFor {X Y : Type 0} (IsHeld : X → Y → Type 0) (x : X) (meant : Answer Y) : Type 0 where
  pub value : Y
  pub meant_is : meant ≡ Ok value
  pub held : IsHeld x value

-- a call's answer stands for the one that is meant: the same fault, or what a program holds for the same value; or
-- memory was not to be had
abbrev pub Meets : {X Y : Type 0} → (X → Y → Type 0) → Answer X → Answer Y → Type 0
Meets IsHeld (Err fault.NoMemory) meant = Unit {0}
Meets IsHeld (Err fault.Fraction) meant = meant ≡ Err fault.Fraction
Meets IsHeld (Err fault.Infinite) meant = meant ≡ Err fault.Infinite
Meets IsHeld (Err fault.Range) meant = meant ≡ Err fault.Range
Meets IsHeld (Ok x) meant = IsHeldFor IsHeld x meant
