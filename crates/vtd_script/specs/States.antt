-- What a script works on, and what one of its lines answers (this project's own).
use Rattle.std.specs.Prelude.{ℕ, Bool, true, false, List, [], ◌++◌, codes}
use Rattle.std.specs.Fmt.{decimal}
use Rattle.vtd_outside.specs.Known.{NameMap}
use Rattle.vtd_edits.specs.Splices.{spliced}
use Rattle.vtd_edits.specs.declared.splice.Splice.{Splice}
use Rattle.vtd_revisions.specs.Timelines.{Revision, Timeline, changed, opened}
use Rattle.vtd_script.specs.Faults.{width_word}
use Rattle.vtd_listing.specs.Listing.{line_feed}
use Rattle.vtd_script.specs.declared.refusals.Refusal.{Refusal}
use Rattle.vtd_script.specs.declared.refusals.Refusal.TheVariants as no

-- what a session holds: the document's bytes, the prefixes that were set with their URIs, the staged splices in their
-- order, the revisions that `undo` gives, the next one last, and those that `redo` gives, likewise
pub record Work : Type 0 where
  pub bytes : List ℕ
  pub bound : List (List ℕ × List ℕ)
  pub staged : List Splice
  pub done : List Revision
  pub undone : List Revision

-- a document with its revisions, for which prefixes are bound
abbrev pub work_of : List (List ℕ × List ℕ) → Timeline → Work
work_of bound t = record { bytes = t.bytes; bound = bound; staged = t.staged; done = t.done; undone = t.undone }

abbrev pub timeline_of : Work → Timeline
timeline_of w = record { bytes = w.bytes; staged = w.staged; done = w.done; undone = w.undone }

-- a document for which nothing is bound, and before which nothing was
abbrev pub first_work : List ℕ → Work
first_work bytes = work_of [] (opened bytes)

-- after a change of the document or of what is staged; what is bound stays
abbrev pub changed_work : List ℕ → List Splice → Work → Work
changed_work bytes staged w = work_of w.bound (changed bytes staged (timeline_of w))

-- with another document, before which nothing was; what is bound stays
abbrev pub opened_work : List ℕ → Work → Work
opened_work bytes w = work_of w.bound (opened bytes)

-- the bytes that the staged splices make of the document
abbrev pub new_bytes : Work → List ℕ
new_bytes w = spliced w.bytes w.staged

-- a session, and the files beside it
pub record State : Type 0 where
  pub work : Work
  pub files : NameMap

abbrev pub state_of : Work → NameMap → State
state_of work files = record { work = work; files = files }

-- What a line answers: nothing, for an empty line; lines with the state after them; a refusal; or that a file is not
-- there.
pub data Answer : Type 0 where
  skipped : Answer
  printed : List ℕ → State → Answer
  refused : Refusal → Answer
  missing : Answer

-- the words of a refusal
abbrev pub refusal_words : Refusal → List ℕ
refusal_words no.LineLong = codes "line-long"
refusal_words no.LineUtf8 = codes "line-utf8"
refusal_words no.Command = codes "command"
refusal_words no.Escape = codes "escape"
refusal_words no.Name = codes "name"
refusal_words no.Staged = codes "staged"
refusal_words no.ExprLong = codes "expr-long"
refusal_words no.ExprSyntax = codes "expr-syntax"
refusal_words no.ExprDeep = codes "expr-deep"
refusal_words no.Axis = codes "axis"
refusal_words no.Variable = codes "variable"
refusal_words no.Function = codes "function"
refusal_words no.Arguments = codes "arguments"
refusal_words no.Prefix = codes "prefix"
refusal_words no.LiteralFraction = codes "literal-fraction"
refusal_words no.LiteralRange = codes "literal-range"
refusal_words no.NeedsNodes = codes "type"
refusal_words no.NotNodes = codes "not-nodes"
refusal_words no.Fraction = codes "fraction"
refusal_words no.Infinite = codes "infinite"
refusal_words no.Range = codes "range"
refusal_words (no.Kind at) = codes "kind " ++ decimal at
refusal_words (no.Overlap earlier later) = codes "overlap " ++ decimal earlier ++ codes " " ++ decimal later
refusal_words no.TextLong = codes "text-long"
refusal_words no.FileLong = codes "file-long"
refusal_words no.IndexLong = codes "index-long"
refusal_words no.NoUndo = codes "no-undo"
refusal_words no.NoRedo = codes "no-redo"
refusal_words (no.Utf8 at) = codes "utf8 " ++ decimal at
refusal_words (no.Syntax at) = codes "syntax " ++ decimal at
refusal_words (no.Entity at) = codes "entity " ++ decimal at
refusal_words (no.Encoding at) = codes "encoding " ++ decimal at
refusal_words (no.Nesting at) = codes "nesting " ++ decimal at
refusal_words (no.Depth at) = codes "depth " ++ decimal at
refusal_words (no.Width field at) = width_word field ++ decimal at
refusal_words (no.Twice at) = codes "twice " ++ decimal at
refusal_words (no.Namespace at) = codes "namespace " ++ decimal at
refusal_words no.Short = codes "short"
refusal_words no.Magic = codes "magic"
refusal_words no.Size = codes "size"
refusal_words (no.Padding at) = codes "padding " ++ decimal at
refusal_words (no.Records at) = codes "records " ++ decimal at
refusal_words (no.Caches level at) = codes "caches " ++ decimal level ++ codes " " ++ decimal at

unfoldable pub refused_line : Refusal → List ℕ
refused_line refusal = codes "refused " ++ refusal_words refusal ++ line_feed

-- the lines of an answer, and the state after it
abbrev pub lines_of : Answer → List ℕ
lines_of skipped = []
lines_of (printed lines after) = lines
lines_of (refused refusal) = refused_line refusal
lines_of missing = []

abbrev pub state_after : State → Answer → State
state_after s skipped = s
state_after s (printed lines after) = after
state_after s (refused refusal) = s
state_after s missing = s

abbrev pub is_refused : Answer → Bool
is_refused skipped = false
is_refused (printed lines after) = false
is_refused (refused refusal) = true
is_refused missing = false

-- Whether the next line is carried out after one with this answer: where refused commands are passed over, or none was
-- refused.
abbrev pub goes_on : Bool → Answer → Bool
goes_on keep skipped = true
goes_on keep (printed lines after) = true
goes_on keep (refused refusal) = keep
goes_on keep missing = false
