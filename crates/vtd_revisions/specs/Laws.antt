-- What callers read: the laws of module `laws` (this project's own).
use Rattle.std.specs.Prelude.{◌≡◌, ℕ, List, []}
use Rattle.vtd_edits.specs.declared.splice.Splice.{Splice}
use Rattle.vtd_revisions.specs.Timelines.{Timeline, now_of, changed, UndoneTo, RedoneTo, reached}

-- `undo` of a change gives the revision from before it
abbrev pub UndoOfChange : Type 0
UndoOfChange =
    (bytes : List ℕ) (splices : List Splice) (t u : Timeline) → UndoneTo (changed bytes splices t) u →
    now_of u ≡ now_of t

-- `redo` of an `undo` gives all back, and so does `undo` of a `redo`
abbrev pub RedoOfUndo : Type 0
RedoOfUndo = (t u r : Timeline) → UndoneTo t u → RedoneTo u r → r ≡ t

abbrev pub UndoOfRedo : Type 0
UndoOfRedo = (t r u : Timeline) → RedoneTo t r → UndoneTo r u → u ≡ t

-- where something is done, it is undone to one timeline
abbrev pub OneUndone : Type 0
OneUndone = (t a b : Timeline) → UndoneTo t a → UndoneTo t b → a ≡ b

abbrev pub OneRedone : Type 0
OneRedone = (t a b : Timeline) → RedoneTo t a → RedoneTo t b → a ≡ b

abbrev pub SomeUndone : Type 0
SomeUndone = (t : Timeline) → (t.done ≡ [] → ⊥) → (u : Timeline) × UndoneTo t u

abbrev pub SomeRedone : Type 0
SomeRedone = (t : Timeline) → (t.undone ≡ [] → ⊥) → (r : Timeline) × RedoneTo t r

-- neither changes which revisions are reached
abbrev pub SameReached : Type 0
SameReached = (t u : Timeline) → UndoneTo t u → reached u ≡ reached t
