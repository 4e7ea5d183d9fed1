-- What private functions promise.
use Rattle.std.specs.Prelude.{◌≡◌, ℕ, ◌<◌, ◌≤◌, Bool, false, List, [], ◌++◌, length, Option, Some, Result, Ok, Err}
use Rattle.vtd_outside.specs.Causes.{RoseAlone}
use Rattle.vtd_outside.specs.Known.{NameMap}
use Rattle.xml_model.specs.Nest.{Forest}
use Rattle.xml_model.specs.Accepted.{Accepted, IsRefusal}
use Rattle.vtd_script.specs.States.{first_work, Work, State}
use Rattle.vtd_script.specs.Steps.{document_limit, index_limit}
use Rattle.vtd_words.specs.Numbers.{AreBytes}
use Rattle.vtd_index.specs.Index.{IsFault}
use Rattle.vtd_documents.specs.Loads.{IsFileOf}
use Rattle.vtd_generator.specs.Generated.{generated_script}
use Rattle.vtd_running.specs.Meaning.{Outcome, EndsWith, RunsGenerated, RunsScript, only_printed}
use Rattle.vtd_running.specs.declared.indexes.NoIndex.{NoIndex}
use Rattle.vtd_running.specs.declared.indexes.NoIndex.TheVariants as index
use Rattle.vtd_running.specs.declared.reading.NoDocument.{NoDocument}
use Rattle.vtd_running.specs.declared.reading.NoDocument.TheVariants as no
use Rattle.vtd_running.specs.declared.status.Status.{Status}

-- one line was sent that ends a run, or a prefix of it
pub record LineSent (rose : Type 0) (line : List ℕ) (status : Status) (before : List ℕ)
    (after : Option (List ℕ)) (result : Status) : Type 0 where
  pub sent : List ℕ
  pub taken : after ≡ Some (before ++ sent)
  pub ends : EndsWith rose line status sent result

-- a session that begins over the file of a name, whose bytes are accepted
pub record Begins (files : NameMap) (name : List ℕ) (work : Work) : Type 0 where
  pub bytes : List ℕ
  pub there : files name ≡ Some bytes
  pub within : length bytes ≤ document_limit
  pub nest : Forest
  pub accepted : Accepted 8 bytes nest
  pub first : work ≡ first_work bytes

-- Why no session begins over the file of a name, or that one does.
abbrev pub ReadsDocument : NameMap → List ℕ → Result Work NoDocument → Type 0
ReadsDocument files name (Ok work) = Begins files name work
ReadsDocument files name (Err no.Failed) = Unit {0}
ReadsDocument files name (Err no.NoMemory) = Unit {0}
ReadsDocument files name (Err no.Long) =
    (bytes : List ℕ) × (files name ≡ Some bytes) × (document_limit < length bytes)
ReadsDocument files name (Err (no.Unfit fault)) =
    (bytes : List ℕ) × (files name ≡ Some bytes) × (length bytes ≤ document_limit) × IsRefusal bytes fault

-- No document was read: one count of the files alone rose, by the name or proper. Else no count rose.
abbrev pub DocumentCause : Bool → ℕ → ℕ → ℕ → ℕ → Result Work NoDocument → Type 0
DocumentCause missing missed_before missed proper_before proper (Err no.Failed) =
    RoseAlone missing missed_before missed proper_before proper
DocumentCause missing missed_before missed proper_before proper result =
    (missed ≡ missed_before) × (proper ≡ proper_before)

-- a session that begins over the index file of a name
pub record BeginsIndex (files : NameMap) (name : List ℕ) (work : Work) : Type 0 where
  pub file : List ℕ
  pub there : files name ≡ Some file
  pub within : length file ≤ index_limit
  pub of_bytes : AreBytes file
  pub index : IsFileOf file work.bytes
  pub first : work ≡ first_work work.bytes

-- Why no session begins over the index file of a name, or that one does.
abbrev pub ReadsIndex : NameMap → List ℕ → Result Work NoIndex → Type 0
ReadsIndex files name (Ok work) = BeginsIndex files name work
ReadsIndex files name (Err index.Failed) = Unit {0}
ReadsIndex files name (Err index.NoMemory) = Unit {0}
ReadsIndex files name (Err index.Long) =
    (file : List ℕ) × (files name ≡ Some file) × (index_limit < length file)
ReadsIndex files name (Err (index.Unfit fault)) =
    (file : List ℕ) × (files name ≡ Some file) × (length file ≤ index_limit) × AreBytes file × IsFault file fault

abbrev pub IndexCause : Bool → ℕ → ℕ → ℕ → ℕ → Result Work NoIndex → Type 0
IndexCause missing missed_before missed proper_before proper (Err index.Failed) =
    RoseAlone missing missed_before missed proper_before proper
IndexCause missing missed_before missed proper_before proper result =
    (missed ≡ missed_before) × (proper ≡ proper_before)

-- What a run left that sent nothing to standard error.
pub record Left (kind : Outcome → Type 0) (files_after : Option NameMap) (left_after : Option (List ℕ))
    (before : List ℕ) (out_after : Option (List ℕ)) (status : Status) : Type 0 where
  pub m : Outcome
  pub is_kind : kind m
  pub files_are : files_after ≡ Some m.files
  pub script_left : left_after ≡ Some m.left
  pub taken : out_after ≡ Some (before ++ m.out)
  pub silent : m.err ≡ []
  pub status_is : status ≡ m.status

-- what the generated script printed over a state, and how it ended
pub record Carries (out_rose : Type 0) (s : State) (before : List ℕ) (out_after : Option (List ℕ)) (status : Status) :
    Type 0 where
  pub own : Outcome
  pub runs : RunsScript ⊥ ⊥ out_rose false s generated_script own
  pub taken : out_after ≡ Some (before ++ own.out)
  pub status_is : status ≡ own.status

-- what a generated run printed, and how it ended
pub record Generates (out_rose : Type 0) (count : ℕ) (before : List ℕ) (out_after : Option (List ℕ)) (status : Status) :
    Type 0 where
  pub sent : List ℕ
  pub taken : out_after ≡ Some (before ++ sent)
  pub runs : (files : NameMap) (script : List ℕ) →
      RunsGenerated out_rose count files script (only_printed sent files script status)
