-- Bytes that are joined before they are added to a file (this project's own): what private functions promise.
use Rattle.std.specs.Prelude.{◌≡◌, ℕ, List, [], ◌++◌, Result, Ok, Err}
use Rattle.vtd_outside.specs.declared.Failed.{Failed}
use Rattle.vtd_outside.specs.Known.{SeenFiles}
use Rattle.vtd_outside.specs.Written.{Adds}
use Rattle.vtd_edits.specs.declared.splice.Splice.{Splice}
use Rattle.vtd_edits.specs.Turns.{IsDone}

-- Bytes were joined to those that wait: what was added to the file and what waits then are together what waited and the
-- bytes. At a fault a prefix of these was added.
abbrev pub Joins : SeenFiles → SeenFiles → List ℕ → List ℕ → List ℕ → Result (Unit {0}) Failed → Type 0
Joins before after waiting left bytes (Ok x) =
    (sent : List ℕ) × Adds {T = Unit {0}} {E = Failed} before after sent (Ok tt) × (sent ++ left ≡ waiting ++ bytes)
Joins before after waiting left bytes (Err e) = Adds {T = Unit {0}} before after (waiting ++ bytes) (Err e)

-- what the loop over the splices keeps: what they give was joined so far
pub record Joining (before now : SeenFiles) (waiting bytes : List ℕ) (staged : List Splice) (i done : ℕ) : Type 0 where
  pub out : List ℕ
  pub joins : Joins before now [] waiting out (Ok tt)
  pub is_done : IsDone bytes staged i done out
