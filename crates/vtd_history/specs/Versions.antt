-- A document's bytes with what is staged for it (this project's own).
use Rattle.std.specs.Prelude.{◌≡◌, ℕ, ◌<◌, ◌^◌, List, [], length}
use Rattle.xml_model.specs.Nest.{Forest}
use Rattle.xml_model.specs.Accepted.{Accepted}
use Rattle.vtd_builder.specs.Documents.{Document}
use Rattle.vtd_edits.specs.Splices.{Staged, AreEdits}
use Rattle.vtd_edits.specs.declared.splice.Splice.{Splice}

-- a document's bytes, and what is staged
pub record Version : Type 0 where
  pub bytes : List ℕ
  pub edits : Staged

abbrev pub version_of : List ℕ → Staged → Version
version_of bytes edits = record { bytes = bytes; edits = edits }

-- the version that a document makes with its edits
abbrev pub version_at : Document → Staged → Version
version_at document edits = version_of document.bytes edits

abbrev pub edits_of : ℕ → List Splice → Staged
edits_of len splices = record { len = len; splices = splices }

-- nothing is staged for these bytes
abbrev pub unstaged : List ℕ → Version
unstaged bytes = version_of bytes (edits_of (length bytes) [])

-- the bytes are a document that no check refuses, of fewer than 2 to the power 30 bytes
pub record IsAcceptedDocument (bytes : List ℕ) : Type 0 where
  pub few : length bytes < 2 ^ 30
  pub nest : Forest
  pub accepted : Accepted 8 bytes nest

-- the edits are for so many bytes
abbrev pub IsMade : Version → Type 0
IsMade version = version.edits.len ≡ length version.bytes

-- a version that a document and its edits can be: the splices have places within the bytes, do not overlap, and their
-- texts are within the limit
pub record IsSound (version : Version) : Type 0 where
  pub document : IsAcceptedDocument version.bytes
  pub edits : AreEdits version.edits
  pub made : IsMade version
