-- How a run may end, and what it means (this project's own): what standard output and standard error took, the files,
-- what is left of the script, and the status, by the words after the program's name, the files and the script.
use Rattle.std.specs.Prelude.{◌⊎◌, ◌≡◌, ℕ, ◌+◌, ◌<◌, ◌≤◌, Bool, false, List, [], ◌++◌, length, drop, codes}
use Rattle.std.specs.Prelude.{Option, Some, None}
use Rattle.vtd_outside.specs.Known.{NameMap}
use Rattle.vtd_outside.specs.Gathered.{TakesUpTo}
use Rattle.xml_model.specs.declared.DocFault.{DocFault}
use Rattle.xml_model.specs.Nest.{Forest}
use Rattle.xml_model.specs.Accepted.{Accepted, IsRefusal}
use Rattle.vtd_words.specs.Numbers.{AreBytes}
use Rattle.vtd_index.specs.Index.{IsFault}
use Rattle.vtd_documents.specs.Loads.{IsFileOf}
use Rattle.vtd_index.specs.declared.faults.IndexFault.{IndexFault}
use Rattle.vtd_lines.specs.Lines.{lines}
use Rattle.vtd_listing.specs.Listing.{line_feed}
use Rattle.vtd_script.specs.Faults.{fault_line}
use Rattle.vtd_script.specs.States.{first_work, State, state_of, refused_line}
use Rattle.vtd_script.specs.Steps.{document_limit, index_limit, index_refusal}
use Rattle.vtd_script.specs.Runs.{Ends, IsPrefix}
use Rattle.vtd_script.specs.declared.endings.End.{End}
use Rattle.vtd_generator.specs.Generated.{generated, generated_script}
use Rattle.vtd_running.specs.Form.{Form, document, generation, index_file, no_form}
use Rattle.vtd_running.specs.Statuses.{status_of, IsMeant}
use Rattle.vtd_running.specs.declared.status.Status.{Status}
use Rattle.vtd_running.specs.declared.status.Status.TheVariants as statuses

pub record Outcome : Type 0 where
  pub out : List ℕ
  pub err : List ℕ
  pub files : NameMap
  pub left : List ℕ
  pub status : Status

abbrev pub script_limit : ℕ
script_limit = 16_777_216

abbrev pub usage_line : List ℕ
usage_line = codes "usage: vtd [-k] [-x] DOC | vtd -g N" ++ line_feed

abbrev pub document_long_line : List ℕ
document_long_line = codes "refused file-long" ++ line_feed

abbrev pub script_long_line : List ℕ
script_long_line = codes "refused script-long" ++ line_feed

-- a run in which nothing was sent, no file changed and no byte of the script was read
abbrev pub nothing_done : NameMap → List ℕ → Status → Outcome
nothing_done files script status = record { out = []; err = []; files = files; left = script; status = status }

-- a run that printed this alone
abbrev pub only_printed : List ℕ → NameMap → List ℕ → Status → Outcome
only_printed out files left status = record { out = out; err = []; files = files; left = left; status = status }

-- The one line that ends a run was sent, and the run ends with its status; or a prefix of it was, where the count of
-- faults rose.
abbrev pub EndsWith : Type 0 → List ℕ → Status → List ℕ → Status → Type 0
EndsWith rose line status sent result =
    ((sent ≡ line) × (result ≡ status)) ⊎ (IsPrefix sent line × rose × (result ≡ statuses.WriteFault))

-- a session that begins over a document: nothing but `xml` is bound, and nothing is staged
abbrev pub first_state : List ℕ → NameMap → State
first_state bytes files = state_of (first_work bytes) files

-- A script over a session, which is read to its end before its first line is carried out: it could not be read; there
-- was no memory for it; it is too long; or its lines were carried out, as their table of endings says.
pub data RunsScript (script_rose file_rose out_rose : Type 0) (keep : Bool) (s : State) (script : List ℕ) :
    Outcome → Type 0 where
  script_unread : (left : List ℕ) → TakesUpTo script_limit script left → script_rose →
      RunsScript script_rose file_rose out_rose keep s script (nothing_done s.files left statuses.ReadFault)
  script_unkept : (left : List ℕ) → TakesUpTo script_limit script left →
      RunsScript script_rose file_rose out_rose keep s script (nothing_done s.files left statuses.NoMemory)
  script_long : script_limit < length script → (sent : List ℕ) (status : Status) →
      EndsWith out_rose script_long_line statuses.Refused sent status →
      RunsScript script_rose file_rose out_rose keep s script
      (only_printed sent s.files (drop (script_limit + 1) script) status)
  carried : length script ≤ script_limit → (end : End) (out : List ℕ) (files : NameMap) →
      Ends file_rose out_rose keep s (lines script) end out files →
      RunsScript script_rose file_rose out_rose keep s script (only_printed out files [] (status_of end))

-- A file of these bytes as the document. The script is read only where the document is accepted.
pub data RunsDocument (script_rose file_rose out_rose : Type 0) (keep : Bool) (files : NameMap)
    (bytes script : List ℕ) : Outcome → Type 0 where
  document_long : document_limit < length bytes → (sent : List ℕ) (status : Status) →
      EndsWith out_rose document_long_line statuses.Refused sent status →
      RunsDocument script_rose file_rose out_rose keep files bytes script (only_printed sent files script status)
  document_unfit : length bytes ≤ document_limit → (fault : DocFault) → IsRefusal bytes fault →
      (sent : List ℕ) (status : Status) → EndsWith out_rose (fault_line fault) statuses.Refused sent status →
      RunsDocument script_rose file_rose out_rose keep files bytes script (only_printed sent files script status)
  accepted : length bytes ≤ document_limit → (nest : Forest) → Accepted 8 bytes nest → (m : Outcome) →
      RunsScript script_rose file_rose out_rose keep (first_state bytes files) script m →
      RunsDocument script_rose file_rose out_rose keep files bytes script m

-- A file of these bytes as an index file. The script is read only where it is the index file of a document, over which
-- the lines are carried out. What has a number above 255 is no file.
pub data RunsIndex (script_rose file_rose out_rose : Type 0) (keep : Bool) (files : NameMap)
    (file script : List ℕ) : Outcome → Type 0 where
  index_long : index_limit < length file → (sent : List ℕ) (status : Status) →
      EndsWith out_rose document_long_line statuses.Refused sent status →
      RunsIndex script_rose file_rose out_rose keep files file script (only_printed sent files script status)
  index_unfit : length file ≤ index_limit → AreBytes file → (fault : IndexFault) → IsFault file fault →
      (sent : List ℕ) (status : Status) →
      EndsWith out_rose (refused_line (index_refusal fault)) statuses.Refused sent status →
      RunsIndex script_rose file_rose out_rose keep files file script (only_printed sent files script status)
  index_accepted : length file ≤ index_limit → AreBytes file → (bytes : List ℕ) → IsFileOf file bytes →
      (m : Outcome) → RunsScript script_rose file_rose out_rose keep (first_state bytes files) script m →
      RunsIndex script_rose file_rose out_rose keep files file script m
  index_no_file : length file ≤ index_limit → (AreBytes file → ⊥) →
      RunsIndex script_rose file_rose out_rose keep files file script (nothing_done files script statuses.FileFault)

-- A file of this name: it is not there, or could not be read, or there was no memory for it; or it was read, and the run
-- goes on as its bytes have it.
pub data RunsFile (file_rose : Type 0) (GoesOn : List ℕ → Outcome → Type 0) (files : NameMap) (name script : List ℕ) :
    Outcome → Type 0 where
  document_missing : files name ≡ None →
      RunsFile file_rose GoesOn files name script (nothing_done files script statuses.FileFault)
  document_unread : file_rose →
      RunsFile file_rose GoesOn files name script (nothing_done files script statuses.FileFault)
  document_unkept : RunsFile file_rose GoesOn files name script (nothing_done files script statuses.NoMemory)
  there : (bytes : List ℕ) → files name ≡ Some bytes → (m : Outcome) → GoesOn bytes m →
      RunsFile file_rose GoesOn files name script m

-- a document of this name
abbrev pub RunsName : Type 0 → Type 0 → Type 0 → Bool → NameMap → List ℕ → List ℕ → Outcome → Type 0
RunsName script_rose file_rose out_rose keep files name script m =
    RunsFile file_rose (λ bytes. RunsDocument script_rose file_rose out_rose keep files bytes script) files name script m

-- an index file of this name
abbrev pub RunsIndexName : Type 0 → Type 0 → Type 0 → Bool → NameMap → List ℕ → List ℕ → Outcome → Type 0
RunsIndexName script_rose file_rose out_rose keep files name script m =
    RunsFile file_rose (λ file. RunsIndex script_rose file_rose out_rose keep files file script) files name script m

abbrev pub no_files : NameMap
no_files name = None

-- A generated run: there was no memory for its document; or it prints and ends as a run over the generated document
-- does that has the generated script, no -k and no file beside it, and in which standard output alone can fail. The
-- files and the script that the run was handed stay as they are.
pub data RunsGenerated (out_rose : Type 0) (count : ℕ) (files : NameMap) (script : List ℕ) : Outcome → Type 0 where
  generated_unkept : RunsGenerated out_rose count files script (nothing_done files script statuses.NoMemory)
  generated_run : (own : Outcome) →
      RunsDocument ⊥ ⊥ out_rose false no_files (generated count) generated_script own →
      RunsGenerated out_rose count files script (only_printed own.out files script own.status)

-- Words that are not of the form: standard error takes the usage line, or there was no memory to read them.
pub data RunsUsage (err_rose : Type 0) (files : NameMap) (script : List ℕ) : Outcome → Type 0 where
  words_unkept : RunsUsage err_rose files script (nothing_done files script statuses.NoMemory)
  told : (sent : List ℕ) (status : Status) → EndsWith err_rose usage_line statuses.Usage sent status →
      RunsUsage err_rose files script
      (record { out = []; err = sent; files = files; left = script; status = status })

-- How a run may end, by what its words ask for, its files and its script: the table of endings, whole. The first four
-- say that a count of faults rose: that of the script, of the files, of standard output, of standard error.
abbrev pub Runs : Type 0 → Type 0 → Type 0 → Type 0 → Form → NameMap → List ℕ → Outcome → Type 0
Runs script_rose file_rose out_rose err_rose (document name keep) files script m =
    RunsName script_rose file_rose out_rose keep files name script m
Runs script_rose file_rose out_rose err_rose (index_file name keep) files script m =
    RunsIndexName script_rose file_rose out_rose keep files name script m
Runs script_rose file_rose out_rose err_rose (generation count) files script m =
    RunsGenerated out_rose count files script m
Runs script_rose file_rose out_rose err_rose no_form files script m = RunsUsage err_rose files script m

-- What words, files and a script mean: how a run ends in which no count rose and for which there was memory.
pub record Means (asked : Form) (files : NameMap) (script : List ℕ) (m : Outcome) : Type 0 where
  pub meant : IsMeant m.status
  pub runs : Runs ⊥ ⊥ ⊥ ⊥ asked files script m

-- What a run left, where the bytes of all objects are known: an outcome of a kind.
pub record Ran (kind : Outcome → Type 0) (files_after : Option NameMap) (left_after : Option (List ℕ))
    (out_before : List ℕ) (out_after : Option (List ℕ)) (err_before : List ℕ) (err_after : Option (List ℕ))
    (status : Status) : Type 0 where
  pub m : Outcome
  pub is_kind : kind m
  pub files_are : files_after ≡ Some m.files
  pub script_left : left_after ≡ Some m.left
  pub out_taken : out_after ≡ Some (out_before ++ m.out)
  pub err_taken : err_after ≡ Some (err_before ++ m.err)
  pub status_is : status ≡ m.status
