-- The two parts of a command, and the counts of faults at the end of a line (this project's own).
--
-- The first part reads and builds all that a command needs, takes all its memory, and changes the session by its last
-- call alone. The second takes no memory: it makes the change that is left, which is a file, and sends the lines.
use Rattle.std.specs.Prelude.{◌⊎◌, ◌≡◌, ℕ, ◌<◌, ◌≤◌, Bool, true, false, List, [], ◌++◌, length, Option, Some, None}
use Rattle.std.specs.Prelude.{Result, Ok, Err}
use Rattle.xml_model.specs.Items.{first_place}
use Rattle.xml_model.specs.Nest.{Forest}
use Rattle.xml_model.specs.Records.{records}
use Rattle.xml_model.specs.Accepted.{Accepted, IsRefusal}
use Rattle.xml_model.specs.declared.DocFault.{DocFault}
use Rattle.vtd_outside.specs.Causes.{Rose, RoseAlone}
use Rattle.vtd_outside.specs.Known.{NameMap, put_into}
use Rattle.vtd_outside.specs.Written.{LeavesPrefix}
use Rattle.vtd_index.specs.Index.{index_of, IsFault}
use Rattle.vtd_documents.specs.Loads.{IsFileOf}
use Rattle.vtd_held.specs.Holding.{opened_bytes}
use Rattle.vtd_index.specs.declared.faults.IndexFault.{IndexFault}
use Rattle.vtd_queries.specs.declared.faults.QueryFault.{QueryFault}
use Rattle.vtd_queries.specs.declared.faults.QueryFault.TheVariants as queries
use Rattle.vtd_queries.specs.declared.faults.OperationFault.{OperationFault}
use Rattle.vtd_queries.specs.declared.faults.OperationFault.TheVariants as operating
use Rattle.vtd_edits.specs.declared.splice.StageFault.{StageFault}
use Rattle.vtd_edits.specs.declared.splice.StageFault.TheVariants as staging
use Rattle.vtd_script.specs.Queries.{query_refusal}
use Rattle.vtd_script.specs.States.{Work, State, Answer, state_of, printed, refused, missing, refused_line, new_bytes}
use Rattle.vtd_script.specs.Steps.{Does, Opens, document_line, has_file, index_refusal, name_of}
use Rattle.vtd_script.specs.Steps.{refusal_of}
use Rattle.vtd_script.specs.Steps.{with_document, with_file}
use Rattle.vtd_script.specs.Runs.{IsPrefix}
use Rattle.vtd_lines.specs.declared.commands.Command.{Command}
use Rattle.vtd_script.specs.declared.refusals.Refusal.{Refusal}
use Rattle.vtd_script.specs.declared.refusals.Refusal.TheVariants as no
use Rattle.vtd_script.specs.declared.endings.End.{End}
use Rattle.vtd_script.specs.declared.endings.End.TheVariants as ends
use Rattle.vtd_script.specs.declared.endings.Ending.{Ending}
use Rattle.vtd_script.specs.declared.endings.Ending.TheVariants as endings
use Rattle.vtd_script.specs.declared.endings.StepFault.{StepFault}
use Rattle.vtd_script.specs.declared.endings.StepFault.TheVariants as faults
use Rattle.vtd_script.specs.declared.ready.Built.{Built}
use Rattle.vtd_script.specs.declared.ready.Made.{Made}
use Rattle.vtd_script.specs.declared.ready.Ready.{Ready}
use Rattle.vtd_script.specs.declared.ready.Change.{Change}
use Rattle.vtd_script.specs.declared.ready.Change.TheVariants as change
use Rattle.vtd_script.specs.declared.ready.Stop.{Stop}
use Rattle.vtd_script.specs.declared.ready.Stop.TheVariants as stop

-- whether the change that is left is a file
abbrev pub writes : Change → Bool
writes change.Nothing = false
writes (change.File name) = true
writes (change.Index name) = true

-- a file takes the index file of the document
abbrev pub PutsIndexOf : List ℕ → State → State → Type 0
PutsIndexOf name s after =
    (nest : Forest) × Accepted 8 s.work.bytes nest × (after ≡ with_file name (index_of s.work.bytes nest) s)

-- where the change that is left leads
abbrev pub Changes : Change → State → State → Type 0
Changes change.Nothing s after = after ≡ s
Changes (change.File name) s after = after ≡ with_file (name_of name) (new_bytes s.work) s
Changes (change.Index name) s after = PutsIndexOf (name_of name) s after

-- the lines of a command that changes nothing, or its refusal
abbrev pub Told : (Result (List ℕ) Refusal → Type 0) → Result (List ℕ) Stop → Type 0
Told P (Ok lines) = P (Ok lines)
Told P (Err (stop.Refused refusal)) = P (Err refusal)
Told P (Err stop.File) = ⊥
Told P (Err stop.NoMemory) = Unit {0}

-- why a command ends, by why its expression has no answer
abbrev pub query_stop : QueryFault → Stop
query_stop queries.NoMemory = stop.NoMemory
query_stop fault = stop.Refused (query_refusal fault)

-- why a command ends, by why an operation makes no splices
abbrev pub operation_stop : OperationFault → Stop
operation_stop (operating.Query fault) = query_stop fault
operation_stop operating.Name = stop.Refused no.Name
operation_stop (operating.Kind at) = stop.Refused (no.Kind at)

-- why a command ends, by why splices are not staged
abbrev pub stage_stop : StageFault → Stop
stage_stop (staging.Overlap earlier later) = stop.Refused (no.Overlap earlier later)
stage_stop staging.TextLong = stop.Refused no.TextLong
stage_stop staging.NoMemory = stop.NoMemory

-- The first part of a command that stages, which leaves nothing to the second.
abbrev pub PreparesStaging : (State → Answer → Type 0) → State → State → Result Ready Stop → Type 0
PreparesStaging answers s now (Ok ready) = (ready.change ≡ change.Nothing) × answers s (printed ready.lines now)
PreparesStaging answers s now (Err (stop.Refused refusal)) = (now ≡ s) × answers s (refused refusal)
PreparesStaging answers s now (Err stop.File) = ⊥
PreparesStaging answers s now (Err stop.NoMemory) = now ≡ s

-- The bytes of a file, where nothing is staged and they are not too many.
pub record GivesBytes (limit : ℕ) (s : State) (file bytes : List ℕ) : Type 0 where
  pub unstaged : s.work.staged ≡ []
  pub there : s.files (name_of file) ≡ Some bytes
  pub within : length bytes ≤ limit

-- They are too many.
pub record IsTooLong (limit : ℕ) (s : State) (file : List ℕ) (refusal : Refusal) : Type 0 where
  pub unstaged : s.work.staged ≡ []
  pub bytes : List ℕ
  pub there : s.files (name_of file) ≡ Some bytes
  pub long : limit < length bytes
  pub is : refusal ≡ no.FileLong

-- The bytes of a file were read, or why they were not.
abbrev pub ReadsFile : ℕ → Type 0 → State → List ℕ → Result (List ℕ) Stop → Type 0
ReadsFile limit file_rose s file (Ok bytes) = GivesBytes limit s file bytes
ReadsFile limit file_rose s file (Err (stop.Refused refusal)) =
    ((0 < length s.work.staged) × (refusal ≡ no.Staged)) ⊎ IsTooLong limit s file refusal
ReadsFile limit file_rose s file (Err stop.File) =
    ((s.work.staged ≡ []) × (s.files (name_of file) ≡ None)) ⊎ file_rose
ReadsFile limit file_rose s file (Err stop.NoMemory) = Unit {0}

-- Bytes that are not too many are read as a document, with its line, or refused.
abbrev pub ReadsDocument : List ℕ → Result Built Stop → Type 0
ReadsDocument bytes (Ok built) = (built.document.bytes ≡ bytes) × ((nest : Forest) × Accepted 8 bytes nest ×
    (built.lines ≡ document_line (length bytes) (length (records nest (first_place bytes)))))
ReadsDocument bytes (Err (stop.Refused refusal)) =
    (fault : DocFault) × IsRefusal bytes fault × (refusal ≡ refusal_of fault)
ReadsDocument bytes (Err stop.File) = ⊥
ReadsDocument bytes (Err stop.NoMemory) = Unit {0}

-- The document of an index file that is not too long was read, with its line, or the file is refused.
abbrev pub ReadsIndex : List ℕ → Result Made Stop → Type 0
ReadsIndex file (Ok made) = (i : IsFileOf file (opened_bytes made.document))
    × (made.lines ≡ document_line (length (opened_bytes made.document))
    (length (records i.nest (first_place (opened_bytes made.document)))))
ReadsIndex file (Err (stop.Refused refusal)) =
    (fault : IndexFault) × IsFault file fault × (refusal ≡ index_refusal fault)
ReadsIndex file (Err stop.File) = ⊥
ReadsIndex file (Err stop.NoMemory) = Unit {0}

-- A document was built with its line, which becomes the document in this way; or why none was.
abbrev pub MakesDocument : (State → Answer → Type 0) → (List ℕ → State → State) → Result Built Stop → Type 0
MakesDocument Gives become (Ok built) =
    (s : State) → Gives s (printed built.lines (become built.document.bytes s))
MakesDocument Gives become (Err (stop.Refused refusal)) = (s : State) → Gives s (refused refusal)
MakesDocument Gives become (Err stop.File) = ⊥
MakesDocument Gives become (Err stop.NoMemory) = Unit {0}

-- A file gave a document with its line, which becomes the document of a state; or why it does not.
abbrev pub OpensDocument :
    (List ℕ → State → Answer → Type 0) → Type 0 → State → List ℕ → Result Made Stop → Type 0
OpensDocument Gives file_rose s file (Ok made) = Opens Gives s.work.staged (s.files (name_of file)) s
    (printed made.lines (with_document (opened_bytes made.document) s))
OpensDocument Gives file_rose s file (Err (stop.Refused refusal)) =
    Opens Gives s.work.staged (s.files (name_of file)) s (refused refusal)
OpensDocument Gives file_rose s file (Err stop.File) =
    Opens Gives s.work.staged (s.files (name_of file)) s missing ⊎ file_rose
OpensDocument Gives file_rose s file (Err stop.NoMemory) = Unit {0}

-- The first part of a command, by the state before it and the state then: each state to which the change that is left
-- leads is that after the command, and where that is a file nothing changed before. Or the command is refused, its file
-- is not there or a count of faults rose, or there was no memory; the state is then as before.
abbrev pub Prepares : Type 0 → Command → State → State → Result Ready Stop → Type 0
Prepares file_rose command s now (Ok ready) =
    ((after : State) → Changes ready.change now after → Does command s (printed ready.lines after))
    × (writes ready.change ≡ true → (now ≡ s) × (has_file command ≡ true))
Prepares file_rose command s now (Err (stop.Refused refusal)) = (now ≡ s) × Does command s (refused refusal)
Prepares file_rose command s now (Err stop.File) =
    (now ≡ s) × (Does command s missing ⊎ ((has_file command ≡ true) × file_rose))
Prepares file_rose command s now (Err stop.NoMemory) = now ≡ s

-- the session after a first part that changed nothing of it
abbrev pub StaysUnlessReady : Result Ready Stop → Work → Work → Type 0
StaysUnlessReady (Ok ready) before now = writes ready.change ≡ true → now ≡ before
StaysUnlessReady (Err stop) before now = now ≡ before

-- The file of a change could not be written, where a count of faults rose.
pub record FailsChange (file_rose : Type 0) (left : Change) (s now : State) : Type 0 where
  pub writes_file : writes left ≡ true
  pub cause : file_rose
  pub work_stays : now.work ≡ s.work
  pub name : List ℕ
  pub bytes : List ℕ
  pub after : State
  pub changes : Changes left s after
  pub one_file : after.files ≡ put_into s.files name bytes
  pub prefix : LeavesPrefix s.files now.files name bytes

-- The second part, by the state before it and then, and by what was taken in it.
abbrev pub Completes : Type 0 → Type 0 → Ready → State → Result (Unit {0}) StepFault → State → List ℕ → Type 0
Completes file_rose out_rose ready s (Ok x) now more = Changes ready.change s now × (more ≡ ready.lines)
Completes file_rose out_rose ready s (Err faults.Write) now more =
    Changes ready.change s now × IsPrefix more ready.lines × out_rose
Completes file_rose out_rose ready s (Err faults.File) now more =
    FailsChange file_rose ready.change s now × (more ≡ [])
Completes file_rose out_rose ready s (Err faults.NoMemory) now more = ⊥

pub record CompletesKnown (file_rose out_rose : Type 0) (ready : Ready) (s : State)
    (result : Result (Unit {0}) StepFault) (work : Work) (files_after : Option NameMap) (before : List ℕ)
    (out_after : Option (List ℕ)) : Type 0 where
  pub files : NameMap
  pub more : List ℕ
  pub files_are : files_after ≡ Some files
  pub taken : out_after ≡ Some (before ++ more)
  pub completes : Completes file_rose out_rose ready s result (state_of work files) more

-- The change that is left is made, or could not be.
abbrev pub MakesChange : {T E : Type 0} → Type 0 → Change → State → Result T E → State → Type 0
MakesChange file_rose left s (Ok x) now = Changes left s now
MakesChange file_rose left s (Err e) now = FailsChange file_rose left s now

pub record ChangesKnown {T E : Type 0} (file_rose : Type 0) (left : Change) (s : State) (result : Result T E)
    (work : Work) (files_after : Option NameMap) : Type 0 where
  pub files : NameMap
  pub files_are : files_after ≡ Some files
  pub makes : MakesChange file_rose left s result (state_of work files)

-- a refusal that is known: its line is sent
abbrev pub Refuses : Type 0 → Refusal → Result Ending StepFault → List ℕ → Type 0
Refuses out_rose refusal (Ok ending) more = (ending ≡ endings.Refused refusal) × (more ≡ refused_line refusal)
Refuses out_rose refusal (Err faults.Write) more = IsPrefix more (refused_line refusal) × out_rose
Refuses out_rose refusal (Err faults.NoMemory) more = more ≡ []
Refuses out_rose refusal (Err faults.File) more = ⊥

pub record RefusesKnown (out_rose : Type 0) (refusal : Refusal) (result : Result Ending StepFault)
    (before : List ℕ) (out_after : Option (List ℕ)) : Type 0 where
  pub more : List ℕ
  pub taken : out_after ≡ Some (before ++ more)
  pub refuses : Refuses out_rose refusal result more

-- what was read of a line: nothing, its command, or why it has none
abbrev pub Asks : Result (Option Command) Stop → Option (Result Command Refusal) → Type 0
Asks (Ok None) asked = asked ≡ None
Asks (Ok (Some command)) asked = asked ≡ Some (Ok command)
Asks (Err (stop.Refused refusal)) asked = asked ≡ Some (Err refusal)
Asks (Err stop.File) asked = ⊥
Asks (Err stop.NoMemory) asked = Unit {0}

-- whether the first part of a command ended at a file
abbrev pub stops_at_file : {T : Type 0} → Result T Stop → Bool
stops_at_file (Ok x) = false
stops_at_file (Err (stop.Refused refusal)) = false
stops_at_file (Err stop.File) = true
stops_at_file (Err stop.NoMemory) = false

-- whether the first part of a command ended at a file, or leaves one to the second
abbrev pub touches_file : Result Ready Stop → Bool
touches_file (Ok ready) = writes ready.change
touches_file (Err (stop.Refused refusal)) = false
touches_file (Err stop.File) = true
touches_file (Err stop.NoMemory) = false

-- the counts of the files, by an answer that says that a file failed or not: then one of the two alone rose
abbrev pub fails_at_file : {T : Type 0} → Result T StepFault → Bool
fails_at_file (Ok x) = false
fails_at_file (Err faults.File) = true
fails_at_file (Err faults.Write) = false
fails_at_file (Err faults.NoMemory) = false

abbrev pub FileCounts : Bool → ℕ → ℕ → ℕ → ℕ → Type 0
FileCounts false missed_before missed proper_before proper = (missed ≡ missed_before) × (proper ≡ proper_before)
FileCounts true missed_before missed proper_before proper =
    RoseAlone true missed_before missed proper_before proper ⊎ RoseAlone false missed_before missed proper_before proper

-- The session is as before, but after a command that was carried out or whose lines were cut off.
abbrev pub StaysUnlessDone : Result Ending StepFault → Work → Work → Type 0
StaysUnlessDone (Ok endings.Skipped) before now = now ≡ before
StaysUnlessDone (Ok endings.Done) before now = Unit {0}
StaysUnlessDone (Ok (endings.Refused refusal)) before now = now ≡ before
StaysUnlessDone (Err faults.File) before now = now ≡ before
StaysUnlessDone (Err faults.Write) before now = Unit {0}
StaysUnlessDone (Err faults.NoMemory) before now = now ≡ before

-- the count of what was sent to, by the answer
abbrev pub SendCounts : {T : Type 0} → Result T StepFault → ℕ → ℕ → Type 0
SendCounts (Ok x) before now = now ≡ before
SendCounts (Err faults.File) before now = now ≡ before
SendCounts (Err faults.Write) before now = Rose before now
SendCounts (Err faults.NoMemory) before now = now ≡ before

-- the counts at the end of a run: one rose only where that is the cause
abbrev pub ends_at_file : End → Bool
ends_at_file ends.Done = false
ends_at_file ends.Stopped = false
ends_at_file ends.WriteFault = false
ends_at_file ends.FileFault = true
ends_at_file ends.NoMemory = false

abbrev pub EndFiles : End → ℕ → ℕ → ℕ → ℕ → Type 0
EndFiles end missed_before missed proper_before proper =
    FileCounts (ends_at_file end) missed_before missed proper_before proper

abbrev pub EndSends : End → ℕ → ℕ → Type 0
EndSends ends.WriteFault before now = Rose before now
EndSends ends.Done before now = now ≡ before
EndSends ends.Stopped before now = now ≡ before
EndSends ends.FileFault before now = now ≡ before
EndSends ends.NoMemory before now = now ≡ before

abbrev pub TurnFiles : Result Bool End → ℕ → ℕ → ℕ → ℕ → Type 0
TurnFiles (Ok refused_now) missed_before missed proper_before proper =
    (missed ≡ missed_before) × (proper ≡ proper_before)
TurnFiles (Err end) missed_before missed proper_before proper = EndFiles end missed_before missed proper_before proper

abbrev pub TurnSends : Result Bool End → ℕ → ℕ → Type 0
TurnSends (Ok refused_now) before now = now ≡ before
TurnSends (Err end) before now = EndSends end before now
