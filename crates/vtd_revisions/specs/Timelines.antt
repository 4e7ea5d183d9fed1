-- A document with what is staged, the revisions before it and those that were undone (this project's own).
use Rattle.std.specs.Prelude.{◌≡◌, ℕ, List, [], ◌∷◌, ◌++◌, map, reverse}
use Rattle.circular_buffer.specs.Buffer.{keep_last}
use Rattle.vtd_edits.specs.declared.splice.Splice.{Splice}
use Rattle.vtd_history.specs.Versions.{Version}
use Rattle.vtd_history.specs.Chains.{Steps, done_of, undone_of}

-- a document's bytes, and the staged splices in staging order
pub record Revision : Type 0 where
  pub bytes : List ℕ
  pub staged : List Splice

abbrev pub revision : List ℕ → List Splice → Revision
revision bytes staged = record { bytes = bytes; staged = staged }

-- a document's bytes and the staged splices, with the revisions that `undo` gives, the next one last, and those that
-- `redo` gives, likewise
pub record Timeline : Type 0 where
  pub bytes : List ℕ
  pub staged : List Splice
  pub done : List Revision
  pub undone : List Revision

-- the revision now
abbrev pub now_of : Timeline → Revision
now_of t = revision t.bytes t.staged

abbrev pub shown : Version → Revision
shown version = revision version.bytes version.edits.splices

-- what the steps of a history lead to from a version
abbrev pub timeline_of : Steps → Version → Timeline
timeline_of steps version = record {
  bytes = version.bytes;
  staged = version.edits.splices;
  done = map shown (done_of steps version);
  undone = map shown (undone_of steps version);
}

-- after a change to a revision: the one before it is done last, of at most 32, and nothing is undone
abbrev pub changed : List ℕ → List Splice → Timeline → Timeline
changed bytes staged t =
    record { bytes = bytes; staged = staged; done = keep_last 32 (t.done ++ now_of t ∷ []); undone = [] }

-- a document for which nothing is staged, and before which nothing was
abbrev pub opened : List ℕ → Timeline
opened bytes = record { bytes = bytes; staged = []; done = []; undone = [] }

-- the last revision done is the one now, and the one from before it is undone last
pub record UndoneTo (old new : Timeline) : Type 0 where
  pub done : old.done ≡ new.done ++ now_of new ∷ []
  pub undone : new.undone ≡ old.undone ++ now_of old ∷ []

-- the last revision undone is the one now, and the one from before it is done last
pub record RedoneTo (old new : Timeline) : Type 0 where
  pub undone : old.undone ≡ new.undone ++ now_of new ∷ []
  pub done : new.done ≡ old.done ++ now_of old ∷ []

-- all revisions that `undo` and `redo` reach, in their order
abbrev pub reached : Timeline → List Revision
reached t = t.done ++ now_of t ∷ reverse t.undone
