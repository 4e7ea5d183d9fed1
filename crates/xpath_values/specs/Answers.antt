-- Answers: something, or the first fault.
use Rattle.std.specs.Prelude.{◌≡◌, ⊤, Bool, true, false, List, [], ◌∷◌, Result, Ok, Err}
use Rattle.xpath_values.specs.declared.ValueFault.{ValueFault}
use Rattle.xpath_values.specs.declared.ValueFault.TheVariants as fault

-- something, or a fault
abbrev pub Answer : Type 0 → Type 0
Answer X = Result X ValueFault

-- what comes of an answer; a fault stays
abbrev pub and_then : {X Y : Type 0} → Answer X → (X → Answer Y) → Answer Y
and_then (Ok x) f = f x
and_then (Err e) f = Err e

-- the same, where what comes of it has no fault
abbrev pub with : {X Y : Type 0} → Answer X → (X → Y) → Answer Y
with (Ok x) f = Ok (f x)
with (Err e) f = Err e

-- an answer for each of a list, in order
abbrev pub each : {X Y : Type 0} → (X → Answer Y) → List X → Answer (List Y)
each f [] = Ok []
each f (x ∷ xs) = and_then (f x) (λ y. with (each f xs) (λ ys. y ∷ ys))

-- a call gives what is meant, or there was no memory
abbrev pub Yields : {X : Type 0} → Answer X → Answer X → Type 0
Yields (Ok x) meant = Ok x ≡ meant
Yields (Err fault.NoMemory) meant = ⊤
Yields (Err e) meant = Err e ≡ meant

-- a call gives what is meant; where it takes memory, or there was none
abbrev pub Gives : {X : Type 0} → Bool → Answer X → Answer X → Type 0
Gives true result meant = Yields result meant
Gives false result meant = result ≡ meant
