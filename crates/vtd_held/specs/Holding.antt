-- A document that was built, with its changes, or that lies in an index file (this project's own).
use Rattle.std.specs.Prelude.{◌≡◌, ℕ, Bool, true, false, List, [], length}
use Rattle.vtd_history.specs.Versions.{edits_of}
use Rattle.vtd_revisions.specs.Timelines.{Timeline, opened}
use Rattle.vtd_index.specs.declared.opening.Opened.{Opened}
use Rattle.vtd_index.specs.declared.opening.Opened.TheVariants as opens
use Rattle.vtd_held.specs.declared.held.Kept.{Kept}
use Rattle.vtd_held.specs.declared.held.Kept.TheVariants as kept
use Rattle.vtd_held.specs.declared.held.Shown.{Shown}
use Rattle.vtd_held.specs.declared.held.Shown.TheVariants as shown

-- the document's bytes, what is staged, and the revisions; nothing was changed yet where it lies in an index file
abbrev pub timeline_in : Kept → Timeline
timeline_in (kept.Built revisions) = revisions
timeline_in (kept.Filed loaded edits) = opened loaded.bytes

abbrev pub is_built : Kept → Bool
is_built (kept.Built revisions) = true
is_built (kept.Filed loaded edits) = false

-- nothing is staged for a document in an index file
abbrev pub IsKept : Kept → Type 0
IsKept (kept.Built revisions) = Unit {0}
IsKept (kept.Filed loaded edits) = edits ≡ edits_of (length loaded.bytes) []

-- the bytes of a document that is lent
abbrev pub shown_bytes : Shown → List ℕ
shown_bytes (shown.Built doc) = doc.now.bytes
shown_bytes (shown.Filed loaded) = loaded.now.bytes

-- the bytes of a document that was read
abbrev pub opened_bytes : Opened → List ℕ
opened_bytes (opens.View loaded) = loaded.bytes
opened_bytes (opens.Built doc) = doc.bytes

-- whether it lies in an index file
abbrev pub is_filed : Opened → Bool
is_filed (opens.View loaded) = true
is_filed (opens.Built doc) = false
