-- What a line answers in a state, by the command that it asks for (this project's own).
use Rattle.std.specs.Prelude.{◌≡◌, ℕ, ◌<◌, ◌≤◌, Bool, true, false, List, [], ◌∷◌, ◌++◌, length, codes, encode_utf8_all}
use Rattle.std.specs.Prelude.{Option, Some, None, Result, Ok, Err}
use Rattle.std.specs.Borrow.{Bor}
use Rattle.std.specs.List.{list_any, All}
use Rattle.std.specs.Fmt.{decimal}
use Rattle.xml_model.specs.Items.{first_place}
use Rattle.xml_model.specs.Nest.{Forest}
use Rattle.xml_model.specs.Records.{records}
use Rattle.xml_model.specs.Accepted.{Accepted, IsRefusal}
use Rattle.xml_model.specs.declared.DocFault.{DocFault}
use Rattle.xml_model.specs.declared.DocFault.TheVariants as faults
use Rattle.vtd_outside.specs.Known.{put_into}
use Rattle.vtd_edits.specs.declared.splice.Splice.{Splice}
use Rattle.vtd_words.specs.Numbers.{AreBytes}
use Rattle.vtd_index.specs.Index.{index_of, IsFault}
use Rattle.vtd_documents.specs.Loads.{IsFileOf}
use Rattle.vtd_index.specs.declared.faults.IndexFault.{IndexFault}
use Rattle.vtd_index.specs.declared.faults.IndexFault.TheVariants as index
use Rattle.xpath_grammar.specs.Bindings.{can_bind, bound_in}
use Rattle.vtd_listing.specs.Listing.{line_feed, listed}
use Rattle.vtd_script.specs.States.{State, Answer, skipped, printed, refused, missing, new_bytes}
use Rattle.vtd_script.specs.States.{changed_work, opened_work, timeline_of, work_of}
use Rattle.vtd_revisions.specs.Timelines.{Revision, Timeline, UndoneTo, RedoneTo}
use Rattle.vtd_edits.specs.Splices.{AreApart, HasFirstOverlap, text_limit, text_size}
use Rattle.vtd_modifier.specs.declared.operation.Operation.{Operation}
use Rattle.vtd_modifier.specs.declared.operation.Operation.TheVariants as operations
use Rattle.vtd_queries.specs.Operations.{Operates}
use Rattle.vtd_queries.specs.declared.faults.OperationFault.{OperationFault}
use Rattle.vtd_queries.specs.declared.operating.Operated.{Operated}
use Rattle.vtd_script.specs.Queries.{Selects, Values}
use Rattle.vtd_script.specs.Staging.{borrowed, operation_refusal, staged_line}
use Rattle.vtd_lines.specs.Commands.{Wrong, line_too_long, line_no_text, no_such_command, no_such_escape, read}
use Rattle.vtd_lines.specs.declared.commands.Command.{Command}
use Rattle.vtd_lines.specs.declared.commands.Command.TheVariants.{Elements, Ns, Select, Value, Remove, Replace}
use Rattle.vtd_lines.specs.declared.commands.Command.TheVariants.{Before, After, First, Last, Attr, Set, Rename}
use Rattle.vtd_lines.specs.declared.commands.Command.TheVariants.{Discard, Apply, Undo, Redo, Save, Index, Open, Load}
use Rattle.vtd_script.specs.declared.refusals.Refusal.{Refusal}
use Rattle.vtd_script.specs.declared.refusals.Refusal.TheVariants as no

-- each of these revisions has a document that is accepted whole
abbrev pub HaveDocuments : List Revision → Type 0
HaveDocuments revisions = All (λ r. (nest : Forest) × Accepted 8 r.bytes nest) revisions

-- the bytes of a state are a document that is accepted whole, and so are those of each revision to which it can go
pub record HasDocument (s : State) : Type 0 where
  pub nest : Forest
  pub accepted : Accepted 8 s.work.bytes nest
  pub done : HaveDocuments s.work.done
  pub undone : HaveDocuments s.work.undone

-- the state with a prefix bound to a URI, in place of an earlier binding
abbrev pub with_binding : List ℕ → List ℕ → State → State
with_binding prefix uri s =
    record { work = work_of (bound_in s.work.bound prefix uri) (timeline_of s.work); files = s.files }

-- the state with these splices staged: one change
abbrev pub with_staged : List Splice → State → State
with_staged staged s = record { work = changed_work s.work.bytes staged s.work; files = s.files }

-- the state with its new bytes as the document, for which nothing is staged: one change
abbrev pub with_applied : List ℕ → State → State
with_applied bytes s = record { work = changed_work bytes [] s.work; files = s.files }

-- the state with another document, for which nothing is staged, and before which nothing was; what is bound stays
abbrev pub with_document : List ℕ → State → State
with_document bytes s = record { work = opened_work bytes s.work; files = s.files }

-- the state with a file of these bytes
abbrev pub with_file : List ℕ → List ℕ → State → State
with_file name bytes s = record { work = s.work; files = put_into s.files name bytes }

-- the name of a file, by the characters of a field: their UTF-8
abbrev pub name_of : List ℕ → List ℕ
name_of field = encode_utf8_all field

-- the line of a command that succeeds and has nothing to tell
abbrev pub ok_line : List ℕ
ok_line = codes "ok" ++ line_feed

-- the lines of a change that was undone, and of one that was redone
abbrev pub undone_line : List ℕ
undone_line = codes "undone" ++ line_feed

abbrev pub redone_line : List ℕ
redone_line = codes "redone" ++ line_feed

-- the line of a file that was written, by how many bytes it has
abbrev pub saved_line : ℕ → List ℕ
saved_line count = codes "saved " ++ decimal count ++ line_feed

-- the line of an index file that was written, by how many bytes it has
abbrev pub indexed_line : ℕ → List ℕ
indexed_line count = codes "indexed " ++ decimal count ++ line_feed

-- the line of a new document, by how many bytes and records it has
abbrev pub document_line : ℕ → ℕ → List ℕ
document_line count recorded = codes "document " ++ decimal count ++ codes " " ++ decimal recorded ++ line_feed

-- how many bytes a document has at most
abbrev pub document_limit : ℕ
document_limit = 1_073_741_823

-- how many bytes an index file has at most
abbrev pub index_limit : ℕ
index_limit = 4_294_967_295

-- the refusal of a command by a document that is refused
abbrev pub refusal_of : DocFault → Refusal
refusal_of (faults.Utf8 at) = no.Utf8 at
refusal_of (faults.Syntax at) = no.Syntax at
refusal_of (faults.Entity at) = no.Entity at
refusal_of (faults.Encoding at) = no.Encoding at
refusal_of (faults.Nesting at) = no.Nesting at
refusal_of (faults.Depth at) = no.Depth at
refusal_of (faults.Width field at) = no.Width field at
refusal_of (faults.Twice at) = no.Twice at
refusal_of (faults.Namespace at) = no.Namespace at

-- the refusal of a command by a file that is no index file
abbrev pub index_refusal : IndexFault → Refusal
index_refusal index.Short = no.Short
index_refusal index.Magic = no.Magic
index_refusal index.Size = no.Size
index_refusal (index.Padding at) = no.Padding at
index_refusal (index.Doc fault) = refusal_of fault
index_refusal (index.Records at) = no.Records at
index_refusal (index.Caches level at) = no.Caches level at

-- The elements of the document are listed.
abbrev pub Lists : State → Answer → Type 0
Lists s a = (nest : Forest) × Accepted 8 s.work.bytes nest × (a ≡ printed (listed nest (first_place s.work.bytes)) s)

-- lines of a command that changes nothing, or its refusal
abbrev pub shown : State → Result (List ℕ) Refusal → Answer
shown s (Ok lines) = printed lines s
shown s (Err refusal) = refused refusal

-- Something is told, and nothing changes.
abbrev pub Tells : (Result (List ℕ) Refusal → Type 0) → State → Answer → Type 0
Tells P s a = (told : Result (List ℕ) Refusal) × P told × (a ≡ shown s told)

-- A prefix is bound where it can be.
abbrev pub Binds : Bool → List ℕ → List ℕ → State → Answer → Type 0
Binds true prefix uri s a = a ≡ printed ok_line (with_binding prefix uri s)
Binds false prefix uri s a = a ≡ refused no.Name

-- These splices are to be staged: one overlaps an earlier one, their texts are too long, or they are staged.
pub data Puts (splices : List Splice) (count : ℕ) (s : State) : Answer → Type 0 where
  overlaps : (earlier later : ℕ) → HasFirstOverlap splices earlier later →
      Puts splices count s (refused (no.Overlap earlier later))
  text_long : AreApart splices → text_limit < text_size splices → Puts splices count s (refused no.TextLong)
  put : AreApart splices → text_size splices ≤ text_limit →
      Puts splices count s (printed (staged_line count) (with_staged splices s))

-- What an operation made is staged after what is staged already, or the operation is refused.
abbrev pub StagesMade : Result Operated OperationFault → State → Answer → Type 0
StagesMade (Ok made) s a = Puts (s.work.staged ++ made.splices) made.count s a
StagesMade (Err fault) s a = a ≡ refused (operation_refusal fault)

-- An operation on the nodes of an expression is staged. The text of the expression is seen as its UTF-8.
pub record Stages (text : List ℕ) (operation : Operation) (s : State) (a : Answer) : Type 0 where
  pub nest : Forest
  pub accepted : Accepted 8 s.work.bytes nest
  pub found : Result Operated OperationFault
  pub operates : Operates s.work.bytes nest s.work.bound text operation found
  pub stages : StagesMade found s a

-- an operation that takes a text
abbrev pub StagesText : List ℕ → (Bor (List ℕ) → Operation) → List ℕ → State → Answer → Type 0
StagesText expr operation text s a = Stages (encode_utf8_all expr) (operation (borrowed (encode_utf8_all text))) s a

-- Bytes are to be the document: they are too many, or refused, or become it, in this way.
pub data Takes (become : List ℕ → State → State) (bytes : List ℕ) (s : State) : Answer → Type 0 where
  too_long : document_limit < length bytes → Takes become bytes s (refused no.FileLong)
  unfit : length bytes ≤ document_limit → (fault : DocFault) → IsRefusal bytes fault →
      Takes become bytes s (refused (refusal_of fault))
  accepted : length bytes ≤ document_limit → (nest : Forest) → Accepted 8 bytes nest →
      Takes become bytes s (printed (document_line (length bytes) (length (records nest (first_place bytes))))
      (become bytes s))

-- The last change is undone, or none is kept; files and bindings stay.
pub data Undoing (s : State) : Answer → Type 0 where
  none_done : s.work.done ≡ [] → Undoing s (refused no.NoUndo)
  undone_one : (t : Timeline) → UndoneTo (timeline_of s.work) t →
      Undoing s (printed undone_line (record { work = work_of s.work.bound t; files = s.files }))

-- The change that was undone last is redone, or none is kept.
pub data Redoing (s : State) : Answer → Type 0 where
  none_undone : s.work.undone ≡ [] → Redoing s (refused no.NoRedo)
  redone_one : (t : Timeline) → RedoneTo (timeline_of s.work) t →
      Redoing s (printed redone_line (record { work = work_of s.work.bound t; files = s.files }))

-- The document of an index file is to be the document: the file is too long, or has a fault, or its document becomes
-- it. What has a number above 255 is no file.
pub data TakesIndex (file : List ℕ) (s : State) : Answer → Type 0 where
  index_too_long : index_limit < length file → TakesIndex file s (refused no.FileLong)
  index_unfit : length file ≤ index_limit → AreBytes file → (fault : IndexFault) → IsFault file fault →
      TakesIndex file s (refused (index_refusal fault))
  index_taken : length file ≤ index_limit → AreBytes file → (bytes : List ℕ) → (i : IsFileOf file bytes) →
      TakesIndex file s (printed (document_line (length bytes) (length (records i.nest (first_place bytes))))
      (with_document bytes s))
  index_no_file : length file ≤ index_limit → (AreBytes file → ⊥) → TakesIndex file s missing

-- What a file gives is to be the document, where nothing is staged and the file is there.
abbrev pub Opens : (List ℕ → State → Answer → Type 0) → List Splice → Option (List ℕ) → State → Answer → Type 0
Opens Gives (splice ∷ staged) file s a = a ≡ refused no.Staged
Opens Gives [] None s a = a ≡ missing
Opens Gives [] (Some bytes) s a = Gives bytes s a

-- A file takes the new bytes; document and staging stay.
abbrev pub Saves : List ℕ → List ℕ → State → Answer → Type 0
Saves name bytes s a = a ≡ printed (saved_line (length bytes)) (with_file name bytes s)

-- A file takes an index file, if that is not too long; document and staging stay.
pub data PutsIndex (name file : List ℕ) (s : State) : Answer → Type 0 where
  not_put : index_limit < length file → PutsIndex name file s (refused no.IndexLong)
  index_put : length file ≤ index_limit →
      PutsIndex name file s (printed (indexed_line (length file)) (with_file name file s))

-- A file takes the index file of the document, in which what is staged plays no part.
abbrev pub Indexes : List ℕ → State → Answer → Type 0
Indexes name s a =
    (nest : Forest) × Accepted 8 s.work.bytes nest × PutsIndex name (index_of s.work.bytes nest) s a

-- what a command answers
abbrev pub Does : Command → State → Answer → Type 0
Does Elements s a = Lists s a
Does (Ns prefix uri) s a = Binds (can_bind prefix uri) prefix uri s a
Does (Select expr) s a = Tells (Selects s.work.bytes s.work.bound (encode_utf8_all expr)) s a
Does (Value expr) s a = Tells (Values s.work.bytes s.work.bound (encode_utf8_all expr)) s a
Does (Remove expr) s a = Stages (encode_utf8_all expr) operations.Remove s a
Does (Replace expr text) s a = StagesText expr (λ t. operations.Replace t) text s a
Does (Before expr text) s a = StagesText expr (λ t. operations.Before t) text s a
Does (After expr text) s a = StagesText expr (λ t. operations.After t) text s a
Does (First expr text) s a = StagesText expr (λ t. operations.First t) text s a
Does (Last expr text) s a = StagesText expr (λ t. operations.Last t) text s a
Does (Attr expr text) s a = StagesText expr (λ t. operations.Attr t) text s a
Does (Set expr text) s a = StagesText expr (λ t. operations.Set t) text s a
Does (Rename expr name) s a = StagesText expr (λ t. operations.Rename t) name s a
Does Discard s a = a ≡ printed ok_line (with_staged [] s)
Does Apply s a = Takes with_applied (new_bytes s.work) s a
Does Undo s a = Undoing s a
Does Redo s a = Redoing s a
Does (Save file) s a = Saves (name_of file) (new_bytes s.work) s a
Does (Index file) s a = Indexes (name_of file) s a
Does (Open file) s a = Opens (Takes with_document) s.work.staged (s.files (name_of file)) s a
Does (Load file) s a = Opens TakesIndex s.work.staged (s.files (name_of file)) s a

-- the refusal of a line that asks for no command
abbrev pub line_refusal : Wrong → Refusal
line_refusal line_too_long = no.LineLong
line_refusal line_no_text = no.LineUtf8
line_refusal no_such_command = no.Command
line_refusal no_such_escape = no.Escape

abbrev pub asked_by : Option (Result Command Wrong) → Option (Result Command Refusal)
asked_by None = None
asked_by (Some (Ok command)) = Some (Ok command)
asked_by (Some (Err wrong)) = Some (Err (line_refusal wrong))

-- what a line asks for: nothing, a command, or a refusal
unfoldable pub asks_for : List ℕ → Option (Result Command Refusal)
asks_for line = asked_by (read line)

abbrev pub Answers : Option (Result Command Refusal) → State → Answer → Type 0
Answers None s a = a ≡ skipped
Answers (Some (Err refusal)) s a = a ≡ refused refusal
Answers (Some (Ok command)) s a = Does command s a

-- what a line answers in a state
unfoldable pub Step : State → List ℕ → Answer → Type 0
Step s line a = Answers (asks_for line) s a

-- the commands that read or write a file
abbrev pub has_file : Command → Bool
has_file Elements = false
has_file (Ns prefix uri) = false
has_file (Select expr) = false
has_file (Value expr) = false
has_file (Remove expr) = false
has_file (Replace expr text) = false
has_file (Before expr text) = false
has_file (After expr text) = false
has_file (First expr text) = false
has_file (Last expr text) = false
has_file (Attr expr text) = false
has_file (Set expr text) = false
has_file (Rename expr name) = false
has_file Discard = false
has_file Apply = false
has_file Undo = false
has_file Redo = false
has_file (Save file) = true
has_file (Index file) = true
has_file (Open file) = true
has_file (Load file) = true

abbrev pub asks_file : Option (Result Command Refusal) → Bool
asks_file None = false
asks_file (Some (Err refusal)) = false
asks_file (Some (Ok command)) = has_file command

-- whether some line asks for a file
abbrev pub asks_any_file : List (List ℕ) → Bool
asks_any_file lines = list_any (λ line. asks_file (asks_for line)) lines
