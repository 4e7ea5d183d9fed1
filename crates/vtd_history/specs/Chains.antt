-- The versions to which steps lead one after another (this project's own).
use Rattle.std.specs.Prelude.{◌≡◌, true, List, [], ◌∷◌, ◌++◌, reverse, Option, Some, None}
use Rattle.vtd_history.specs.Versions.{Version, IsSound}
use Rattle.vtd_history.specs.Steps.{PlainStep, Turned, turned, back, is_moved}

abbrev pub led_on : Option Turned → (Version → List Version) → List Version
led_on None rest = []
led_on (Some t) rest = t.version ∷ rest t.version

-- the versions to which steps lead from this one, each from the one before
abbrev pub chain : List PlainStep → Version → List Version
chain [] version = []
chain (step ∷ steps) version = led_on (back step version) (chain steps)

abbrev pub Leads : Option Turned → (Version → Type 0) → Type 0
Leads None Rest = ⊥
Leads (Some t) Rest = IsSound t.version × Rest t.version

-- the chain is defined: each step leads on, to a sound version
abbrev pub IsChained : List PlainStep → Version → Type 0
IsChained [] version = Unit {0}
IsChained (step ∷ steps) version = Leads (back step version) (IsChained steps)

-- the steps of a history: those to the versions before this one, the nearest first, and those to the versions that were
-- undone, likewise
pub record Steps : Type 0 where
  pub done : List PlainStep
  pub undone : List PlainStep

abbrev pub steps_of : List PlainStep → List PlainStep → Steps
steps_of done undone = record { done = done; undone = undone }

-- the versions that `undo` gives, the one that it gives next last; those that `redo` gives, likewise
abbrev pub done_of : Steps → Version → List Version
done_of steps version = reverse (chain steps.done version)

abbrev pub undone_of : Steps → Version → List Version
undone_of steps version = reverse (chain steps.undone version)

-- the version is sound, and both chains are defined from it
pub record Fits (steps : Steps) (version : Version) : Type 0 where
  pub sound : IsSound version
  pub done : IsChained steps.done version
  pub undone : IsChained steps.undone version

-- a step that may be kept: it leads from this version back to the one before, which the history fits
pub record Keeps (steps : Steps) (step : PlainStep) (before after : Version) : Type 0 where
  pub inverse : PlainStep
  pub back : back step after ≡ Some (turned before inverse)
  pub fits : Fits steps before
  pub sound : IsSound after

-- one step back: the last version done is the version now, and the one from before the last undone
pub record Undoes (old new : Steps) (before after : Version) : Type 0 where
  pub done : done_of old before ≡ done_of new after ++ after ∷ []
  pub undone : undone_of new after ≡ undone_of old before ++ before ∷ []
  pub fits : Fits new after

-- one step on again
pub record Redoes (old new : Steps) (before after : Version) : Type 0 where
  pub undone : undone_of old before ≡ undone_of new after ++ after ∷ []
  pub done : done_of new after ≡ done_of old before ++ before ∷ []
  pub fits : Fits new after

-- a step that can be made: it leads to a sound version
abbrev pub CanTurn : PlainStep → Version → Type 0
CanTurn step version = Leads (back step version) (λ there. Unit {0})

-- the nearest step takes no memory
abbrev pub BeginsMoved : List PlainStep → Type 0
BeginsMoved [] = ⊥
BeginsMoved (step ∷ steps) = is_moved step ≡ true
