-- Documents that are made of bytes, by the calls that make them, and commands that read a file.
use Rattle.std.proofs.Common.{◌⊎◌, ◌≡◌, ◌≤◌, ◌<◌, ◌+◌, ℕ, true, List, [], ◌∷◌, length, Option, Some, None}
use Rattle.std.proofs.Common.{Result, Ok, Err, refl, sym, ap, subst, ◌∙◌, inl, inr, arith}
use Rattle.std.specs.Prelude.{is_none}
use Rattle.xml_model.specs.Items.{first_place}
use Rattle.xml_model.specs.Records.{records}
use Rattle.xml_model.specs.Nest.{Forest}
use Rattle.xml_model.specs.Accepted.{Accepted, IsRefusal}
use Rattle.xml_model.specs.declared.DocFault.{DocFault}
use Rattle.xml_acceptance.proofs.OneAnswer as documents
use Rattle.vtd_words.specs.Numbers.{AreBytes}
use Rattle.vtd_index.specs.Index.{IsFault}
use Rattle.vtd_held.specs.Holding.{opened_bytes}
use Rattle.vtd_documents.specs.Loads.{IsFileOf}
use Rattle.vtd_index.specs.declared.faults.IndexFault.{IndexFault}
use Rattle.vtd_outside.specs.declared.GatherFault.{GatherFault}
use Rattle.vtd_outside.specs.declared.GatherFault.TheVariants.{Long}
use Rattle.vtd_outside.specs.Causes.{Rose, RoseAlone, is_missing}
use Rattle.vtd_outside.specs.Known.{NameMap, OpenFile}
use Rattle.vtd_outside.specs.Gathered.{GathersFile, GathersFilePrefix}
use Rattle.vtd_edits.specs.declared.splice.Splice.{Splice}
use Rattle.vtd_script.specs.States.{Work, State, state_of, Answer, printed, refused, missing}
use Rattle.vtd_script.specs.Steps.{Does, Opens, Takes, TakesIndex, accepted, document_limit, document_line, has_file, index_limit, index_refusal}
use Rattle.vtd_script.specs.Steps.{index_taken, index_unfit, name_of, refusal_of, unfit, with_applied, with_document}
use Rattle.vtd_script.specs.Changes.{GivesBytes, IsTooLong, MakesDocument, OpensDocument, Prepares, ReadsDocument, ReadsFile, ReadsIndex}
use Rattle.vtd_lines.specs.declared.commands.Command.{Command}
use Rattle.vtd_script.specs.declared.refusals.Refusal.{Refusal}
use Rattle.vtd_script.specs.declared.refusals.Refusal.TheVariants as no
use Rattle.vtd_script.specs.declared.ready.Built.{Built}
use Rattle.vtd_script.specs.declared.ready.Made.{Made}
use Rattle.vtd_script.specs.declared.ready.Stop.{Stop}
use Rattle.vtd_script.specs.declared.ready.Stop.TheVariants as stop

-- a document with its line, of the bytes that it was built of
abbrev pub IsLined : List ℕ → List ℕ → Type 0
IsLined bytes lines = (nest : Forest) × Accepted 8 bytes nest × (lines ≡ document_line (length bytes) (length (records nest (first_place bytes))))

pub lined_as : (bytes built lines : List ℕ) → built ≡ bytes → IsLined built lines → IsLined bytes lines
lined_as bytes built lines b h = let P : List ℕ → Type 0 = λ x. IsLined x lines in subst P b h

-- and of the index file that it lies in
pub index_lined : (file bytes lines : List ℕ) → IsFileOf file bytes → IsLined bytes lines
    → (i : IsFileOf file bytes) × (lines ≡ document_line (length bytes) (length (records i.nest (first_place bytes))))
index_lined file bytes lines i h =
    let same : h.0 ≡ i.nest = documents.one_document bytes h.0 i.nest h.1.document i.accepted.document in
    (i, h.2 ∙ ap (λ (n : Forest). document_line (length bytes) (length (records n (first_place bytes)))) same)

-- a document that was read, which becomes the document in this way
takes_made : (become : List ℕ → State → State) (bytes built lines : List ℕ) (s : State) → length bytes ≤ document_limit → built ≡ bytes
    → IsLined bytes lines → Takes become bytes s (printed lines (become built s))
takes_made become bytes built lines s l b h =
    let P : List ℕ → Type 0 = λ ls. Takes become bytes s (printed ls (become built s)) in
    let Q : List ℕ → Type 0 = λ x. Takes become bytes s (printed (document_line (length bytes) (length (records h.0 (first_place bytes)))) (become x s)) in
    subst P (sym h.2) (subst Q (sym b) (accepted l h.0 h.1))

takes_unfit : (become : List ℕ → State → State) (bytes : List ℕ) (s : State) (refusal : Refusal) → length bytes ≤ document_limit
    → ((fault : DocFault) × IsRefusal bytes fault × (refusal ≡ refusal_of fault)) → Takes become bytes s (refused refusal)
takes_unfit become bytes s refusal l h = let P : Refusal → Type 0 = λ x. Takes become bytes s (refused x) in subst P (sym h.2) (unfit l h.0 h.1)

pub made_document : (become : List ℕ → State → State) (bytes : List ℕ) (result : Result Built Stop) → length bytes ≤ document_limit
    → ReadsDocument bytes result → MakesDocument (Takes become bytes) become result
made_document become bytes (Ok built) l h = λ s. takes_made become bytes built.document.bytes built.lines s l h.0 h.1
made_document become bytes (Err (stop.Refused refusal)) l h = λ s. takes_unfit become bytes s refusal l h
made_document become bytes (Err stop.File) l h = absurd h
made_document become bytes (Err stop.NoMemory) l h = tt

pub made_from : (bytes given : List ℕ) (result : Result Built Stop) → given ≡ bytes → length given ≤ document_limit → ReadsDocument given result
    → MakesDocument (Takes with_applied bytes) with_applied result
made_from bytes given result e l h =
    let P : List ℕ → Type 0 = λ b. MakesDocument (Takes with_applied b) with_applied result in subst P e (made_document with_applied given result l h)

-- A document was read with its line, which becomes the document of any state; or why none was.
abbrev pub GivesMade : (State → Answer → Type 0) → Result Made Stop → Type 0
GivesMade Gives (Ok made) = (s : State) → Gives s (printed made.lines (with_document (opened_bytes made.document) s))
GivesMade Gives (Err (stop.Refused refusal)) = (s : State) → Gives s (refused refusal)
GivesMade Gives (Err stop.File) = ⊥
GivesMade Gives (Err stop.NoMemory) = Unit {0}

-- the document of bytes that were read
pub document_made : (bytes given : List ℕ) (built : Built) (made : Made) → given ≡ bytes → length bytes ≤ document_limit
    → opened_bytes made.document ≡ built.document.bytes → made.lines ≡ built.lines → ReadsDocument given (Ok built)
    → GivesMade (Takes with_document bytes) (Ok made)
document_made bytes given built made e l d r h =
    let P : List ℕ → Type 0 = λ x. IsLined given x in
    λ s. takes_made with_document bytes (opened_bytes made.document) made.lines s l (d ∙ h.0 ∙ e)
    (lined_as bytes given made.lines e (subst P (sym r) h.1))

pub document_stop : (bytes given : List ℕ) (x : Stop) → given ≡ bytes → length bytes ≤ document_limit → ReadsDocument given (Err x)
    → GivesMade (Takes with_document bytes) (Err x)
document_stop bytes given x e l h = let P : List ℕ → Type 0 = λ b. ReadsDocument b (Err x) in by x (subst P e h)
  where
    by : (y : Stop) → ReadsDocument bytes (Err y) → GivesMade (Takes with_document bytes) (Err y)
    by (stop.Refused refusal) h = λ s. takes_unfit with_document bytes s refusal l h
    by stop.File h = absurd h
    by stop.NoMemory h = tt

-- the document of an index file
index_made : (file bytes lines : List ℕ) (s : State) → length file ≤ index_limit → AreBytes file
    → ((i : IsFileOf file bytes) × (lines ≡ document_line (length bytes) (length (records i.nest (first_place bytes)))))
    → TakesIndex file s (printed lines (with_document bytes s))
index_made file bytes lines s l y h =
    let P : List ℕ → Type 0 = λ ls. TakesIndex file s (printed ls (with_document bytes s)) in
    subst P (sym h.1) (index_taken l y bytes h.0)

unfit_index : (file : List ℕ) (s : State) (refusal : Refusal) → length file ≤ index_limit → AreBytes file
    → ((fault : IndexFault) × IsFault file fault × (refusal ≡ index_refusal fault)) → TakesIndex file s (refused refusal)
unfit_index file s refusal l y h =
    let P : Refusal → Type 0 = λ x. TakesIndex file s (refused x) in subst P (sym h.2) (index_unfit l y h.0 h.1)

made_index : (file : List ℕ) (result : Result Made Stop) → length file ≤ index_limit → AreBytes file → ReadsIndex file result
    → GivesMade (TakesIndex file) result
made_index file (Ok made) l y h = λ s. index_made file (opened_bytes made.document) made.lines s l y h
made_index file (Err (stop.Refused refusal)) l y h = λ s. unfit_index file s refusal l y h
made_index file (Err stop.File) l y h = absurd h
made_index file (Err stop.NoMemory) l y h = tt

-- the same, where the bytes are given elsewhere
pub index_given : (file given : List ℕ) (result : Result Made Stop) → given ≡ file → length file ≤ index_limit → AreBytes given → ReadsIndex given result
    → GivesMade (TakesIndex file) result
index_given file given result e l y h =
    let P : List ℕ → Type 0 = λ b. ReadsIndex b result in
    let Q : List ℕ → Type 0 = λ b. AreBytes b in
    made_index file result l (subst Q e y) (subst P e h)

-- the bytes of a file that was read
none_staged : (staged : List Splice) → length staged ≤ 0 → staged ≡ []
none_staged [] l = refl
none_staged (splice ∷ staged) l = absurd (omega arith)

pub reads_bytes : (limit : ℕ) (rose : Type 0) (file named bytes : List ℕ) (work : Work) (map : NameMap) (contents : Option NameMap)
    (opened : Option OpenFile) → length work.staged ≤ 0 → contents ≡ Some map → named ≡ name_of file → GathersFile contents named opened bytes
    → length bytes ≤ limit → ReadsFile limit rose (state_of work map) file (Ok bytes)
reads_bytes limit rose file named bytes work map contents opened l c n g w =
    let Q : Option NameMap → Type 0 = λ o. GathersFile o named opened bytes in
    record { unstaged = none_staged work.staged l; there = ap map (sym n) ∙ (subst Q c g).0; within = w }

pub reads_long : (limit : ℕ) (rose : Type 0) (file named : List ℕ) (work : Work) (map : NameMap) (contents : Option NameMap)
    (opened : Option OpenFile) (fault : GatherFault) → length work.staged ≤ 0 → contents ≡ Some map → named ≡ name_of file → fault ≡ Long
    → GathersFilePrefix limit contents named opened fault → ReadsFile limit rose (state_of work map) file (Err (stop.Refused no.FileLong))
reads_long limit rose file named work map contents opened fault l c n f g =
    let Q : Option NameMap → Type 0 = λ o. GathersFilePrefix limit o named opened fault in
    let R : GatherFault → Type 0 = λ x. GathersFilePrefix limit (Some map) named opened x in
    let t = subst R f (subst Q c g) in
    let e : limit + 1 ≤ length t.bytes = t.enough in
    inr (record { unstaged = none_staged work.staged l; bytes = t.bytes; there = ap map (sym n) ∙ t.there; long = omega (arith, e); is = refl })

reads_by : (staged : List Splice) (file : Option (List ℕ)) (mb ma pb pa : ℕ) → length staged ≤ 0 → RoseAlone (is_none file) mb ma pb pa
    → ((staged ≡ []) × (file ≡ None)) ⊎ Rose pb pa
reads_by staged None mb ma pb pa l h = inl (none_staged staged l, refl)
reads_by staged (Some bytes) mb ma pb pa l h = inr h.1

pub reads_failed : (limit mb ma pb pa : ℕ) (file named : List ℕ) (work : Work) (map : NameMap) (contents : Option NameMap) → length work.staged ≤ 0
    → contents ≡ Some map → named ≡ name_of file → RoseAlone (is_missing contents named) mb ma pb pa
    → ReadsFile limit (Rose pb pa) (state_of work map) file (Err stop.File)
reads_failed limit mb ma pb pa file named work map contents l c n r =
    let Q : Option NameMap → Type 0 = λ o. RoseAlone (is_missing o named) mb ma pb pa in
    let R : List ℕ → Type 0 = λ x. RoseAlone (is_none (map x)) mb ma pb pa in
    reads_by work.staged (map (name_of file)) mb ma pb pa l (subst R n (subst Q c r))

-- what a file gives becomes the document
unstaged : (Gives : List ℕ → State → Answer → Type 0) (staged : List Splice) (file : Option (List ℕ)) (bytes : List ℕ) (s : State) (a : Answer)
    → staged ≡ [] → file ≡ Some bytes → Gives bytes s a → Opens Gives staged file s a
unstaged Gives staged file bytes s a u e t =
    let P : Option (List ℕ) → Type 0 = λ o. Opens Gives [] o s a in
    let Q : List Splice → Type 0 = λ xs. Opens Gives xs file s a in
    subst Q (sym u) (subst P (sym e) t)

pub opens_made : (Gives : List ℕ → State → Answer → Type 0) (rose : Type 0) (limit : ℕ) (file bytes : List ℕ) (s : State) (result : Result Made Stop)
    → GivesBytes limit s file bytes → GivesMade (Gives bytes) result → OpensDocument Gives rose s file result
opens_made Gives rose limit file bytes s (Ok made) g h = unstaged Gives s.work.staged (s.files (name_of file)) bytes s _ g.unstaged g.there (h s)
opens_made Gives rose limit file bytes s (Err (stop.Refused refusal)) g h =
    unstaged Gives s.work.staged (s.files (name_of file)) bytes s _ g.unstaged g.there (h s)
opens_made Gives rose limit file bytes s (Err stop.File) g h = absurd h
opens_made Gives rose limit file bytes s (Err stop.NoMemory) g h = tt

opens_staged : (Gives : List ℕ → State → Answer → Type 0) (staged : List Splice) (file : Option (List ℕ)) (s : State) → 0 < length staged
    → Opens Gives staged file s (refused no.Staged)
opens_staged Gives [] file s l = absurd (omega arith)
opens_staged Gives (splice ∷ staged) file s l = refl

opens_none : (Gives : List ℕ → State → Answer → Type 0) (staged : List Splice) (file : Option (List ℕ)) (s : State) → staged ≡ [] → file ≡ None
    → Opens Gives staged file s missing
opens_none Gives staged file s u e =
    let P : Option (List ℕ) → Type 0 = λ o. Opens Gives [] o s missing in
    let Q : List Splice → Type 0 = λ xs. Opens Gives xs file s missing in
    subst Q (sym u) (subst P (sym e) refl)

opens_refused : (Gives : List ℕ → State → Answer → Type 0) (limit : ℕ) (file : List ℕ) (s : State) (refusal : Refusal)
    → ((bytes : List ℕ) → limit < length bytes → Gives bytes s (refused no.FileLong))
    → (((0 < length s.work.staged) × (refusal ≡ no.Staged)) ⊎ IsTooLong limit s file refusal)
    → Opens Gives s.work.staged (s.files (name_of file)) s (refused refusal)
opens_refused Gives limit file s refusal long h =
    let P : Refusal → Type 0 = λ x. Opens Gives s.work.staged (s.files (name_of file)) s (refused x) in
    elim h [
      | inl q ↦ subst P (sym q.1) (opens_staged Gives s.work.staged (s.files (name_of file)) s q.0)
      | inr q ↦ subst P (sym q.is) (unstaged Gives s.work.staged (s.files (name_of file)) q.bytes s _ q.unstaged q.there (long q.bytes q.long))
    ]

pub opens_stop : (Gives : List ℕ → State → Answer → Type 0) (rose : Type 0) (limit : ℕ) (file : List ℕ) (s : State) (x : Stop)
    → ((bytes : List ℕ) → limit < length bytes → Gives bytes s (refused no.FileLong)) → ReadsFile limit rose s file (Err x)
    → OpensDocument Gives rose s file (Err x)
opens_stop Gives rose limit file s (stop.Refused refusal) long h = opens_refused Gives limit file s refusal long h
opens_stop Gives rose limit file s stop.File long h = elim h [
  | inl q ↦ inl (opens_none Gives s.work.staged (s.files (name_of file)) s q.0 q.1)
  | inr q ↦ inr q
]
opens_stop Gives rose limit file s stop.NoMemory long h = tt

-- a command that reads a file
pub stops_opened : (Gives : List ℕ → State → Answer → Type 0) (rose : Type 0) (command : Command) (file : List ℕ) (work : Work) (files : NameMap)
    (x : Stop) → has_file command ≡ true
    → ((a : Answer) → Opens Gives work.staged (files (name_of file)) (state_of work files) a → Does command (state_of work files) a)
    → OpensDocument Gives rose (state_of work files) file (Err x) → Prepares rose command (state_of work files) (state_of work files) (Err x)
stops_opened Gives rose command file work files (stop.Refused refusal) f to h = (refl, to _ h)
stops_opened Gives rose command file work files stop.File f to h = (refl, elim h [ inl q ↦ inl (to _ q) | inr q ↦ inr (f, q) ])
stops_opened Gives rose command file work files stop.NoMemory f to h = refl
