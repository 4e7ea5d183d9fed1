-- What callers read: the laws of module `laws` (this project's own).
use Rattle.std.specs.Prelude.{◌≡◌, ℕ, List, [], ◌∷◌, ◌++◌, Some}
use Rattle.circular_buffer.specs.Buffer.{keep_last}
use Rattle.vtd_words.specs.Lists.{Lists}
use Rattle.vtd_builder.specs.Documents.{IsDoc}
use Rattle.vtd_history.specs.Versions.{Version, IsMade}
use Rattle.vtd_history.specs.Steps.{PlainStep, Turned, turned, back}
use Rattle.vtd_history.specs.Chains.{Steps, done_of, Undoes, Redoes}

-- the inverse step leads back from where a step leads, and its own inverse is the step
abbrev pub BackAndBack : Type 0
BackAndBack =
    (step : PlainStep) (version : Version) (there : Turned) → IsMade version → IsMade there.version →
    back step version ≡ Some there → back there.inverse there.version ≡ Some (turned version step)

-- where a change of one version to another was kept, `undo` gives the version from before it
abbrev pub UndoesChange : Type 0
UndoesChange =
    (old kept undone : Steps) (before after there : Version) →
    done_of kept after ≡ keep_last 32 (done_of old before ++ before ∷ []) → Undoes kept undone after there →
    there ≡ before

-- and `redo` after an `undo` gives the version from before that
abbrev pub RedoesChange : Type 0
RedoesChange =
    (kept undone redone : Steps) (after before there : Version) →
    Undoes kept undone after before → Redoes undone redone before there → there ≡ after

-- the records and levels of a document are told by its bytes
abbrev pub OneOfBytes : Type 0
OneOfBytes = (bytes : List ℕ) (words others : Lists) → IsDoc bytes words → IsDoc bytes others → words ≡ others
