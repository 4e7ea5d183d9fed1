-- The first parts of commands that change the document or what is staged, by the calls that make the change.
use Rattle.std.proofs.Common.{◌≡◌, ℕ, false, List, [], Result, Ok, Err, OnErr, OnOk, IfErr, IfOk, refl, sym, ap, subst, ◌∙◌}
use Rattle.vtd_outside.specs.Known.{NameMap}
use Rattle.vtd_edits.specs.declared.splice.Splice.{Splice}
use Rattle.vtd_revisions.specs.Timelines.{Timeline, changed, opened, UndoneTo, RedoneTo}
use Rattle.vtd_documents.specs.Loads.{IsFileOf}
use Rattle.vtd_held.specs.Holding.{opened_bytes}
use Rattle.vtd_script.specs.States.{Answer, State, Work, changed_work, first_work, new_bytes, opened_work, printed, state_of, work_of}
use Rattle.vtd_script.specs.Steps.{Does, Opens, Redoing, Takes, Undoing, name_of, none_done, none_undone, ok_line, redone_line, redone_one}
use Rattle.vtd_script.specs.Steps.{undone_line, undone_one, with_applied, with_staged}
use Rattle.vtd_script.specs.Changes.{FileCounts, MakesDocument, OpensDocument, Prepares, StaysUnlessReady, stops_at_file}
use Rattle.vtd_lines.specs.declared.commands.Command.{Command}
use Rattle.vtd_lines.specs.declared.commands.Command.TheVariants.{Apply, Discard, Redo, Undo}
use Rattle.vtd_script.specs.declared.refusals.Refusal.TheVariants as no
use Rattle.vtd_script.specs.declared.ready.Built.{Built}
use Rattle.vtd_script.specs.declared.ready.Made.{Made}
use Rattle.vtd_script.specs.declared.ready.Ready.{Ready}
use Rattle.vtd_script.specs.declared.ready.Change.TheVariants as change
use Rattle.vtd_script.specs.declared.ready.Stop.{Stop}
use Rattle.vtd_script.specs.declared.ready.Stop.TheVariants as stop
use Rattle.vtd_script.proofs.Parts.{prepares_nothing, stays_taken}

-- what a session holds, after a change of its document or of what is staged for it
pub staged_as : (bound : List (List ℕ × List ℕ)) (old new : Timeline) (work : Work) (staged : List Splice) → work_of bound old ≡ work
    → new ≡ changed old.bytes staged old → work_of bound new ≡ changed_work work.bytes staged work
staged_as bound old new work staged v e = ap (λ (t : Timeline). work_of bound t) e ∙ ap (λ (w : Work). changed_work w.bytes staged w) v

pub applied_as : (bound : List (List ℕ × List ℕ)) (old new : Timeline) (work : Work) (bytes : List ℕ) → work_of bound old ≡ work
    → new ≡ changed bytes [] old → work_of bound new ≡ changed_work bytes [] work
applied_as bound old new work bytes v e = ap (λ (t : Timeline). work_of bound t) e ∙ ap (λ (w : Work). changed_work bytes [] w) v

pub opened_as : (bound : List (List ℕ × List ℕ)) (old new : Timeline) (work : Work) (bytes : List ℕ) → work_of bound old ≡ work
    → new ≡ opened bytes → work_of bound new ≡ opened_work bytes work
opened_as bound old new work bytes v e = ap (λ (t : Timeline). work_of bound t) e ∙ ap (λ (w : Work). opened_work bytes w) v

pub same_as : (bound : List (List ℕ × List ℕ)) (old new : Timeline) (work : Work) → work_of bound old ≡ work → new ≡ old → work_of bound new ≡ work
same_as bound old new work v e = ap (λ (t : Timeline). work_of bound t) e ∙ v

-- nothing is staged
pub prepares_discard : (work now : Work) (files : NameMap) (ready : Ready) (lines : List ℕ) → now ≡ changed_work work.bytes [] work
    → ready.change ≡ change.Nothing → ready.lines ≡ lines → lines ≡ ok_line
    → Prepares ⊥ Discard (state_of work files) (state_of now files) (Ok ready)
prepares_discard work now files ready lines w n l o =
    let s : State = state_of work files in
    let P : Work → Type 0 = λ x. printed ok_line (state_of x files) ≡ printed ok_line (with_staged [] s) in
    prepares_nothing ⊥ Discard s (state_of now files) ready ok_line n (l ∙ o) (subst P (sym w) refl)

-- the new bytes are the document
pub prepares_apply : (work now : Work) (files : NameMap) (built : Built) (ready : Ready)
    → MakesDocument (Takes with_applied (new_bytes work)) with_applied (Ok built) → now ≡ changed_work built.document.bytes [] work
    → ready.change ≡ change.Nothing → ready.lines ≡ built.lines → Prepares ⊥ Apply (state_of work files) (state_of now files) (Ok ready)
prepares_apply work now files built ready h w n l =
    let P : Work → Type 0 = λ x. Takes with_applied (new_bytes work) (state_of work files) (printed built.lines (state_of x files)) in
    prepares_nothing ⊥ Apply (state_of work files) (state_of now files) ready built.lines n l (subst P (sym w) (h (state_of work files)))

pub stops_apply : (work : Work) (files : NameMap) (x : Stop) → MakesDocument (Takes with_applied (new_bytes work)) with_applied (Err x)
    → Prepares ⊥ Apply (state_of work files) (state_of work files) (Err x)
stops_apply work files (stop.Refused refusal) h = (refl, h (state_of work files))
stops_apply work files stop.File h = absurd h
stops_apply work files stop.NoMemory h = refl

pub makes_no_file : (bytes : List ℕ) (x : Stop) → MakesDocument (Takes with_applied bytes) with_applied (Err x)
    → stops_at_file {T = Ready} (Err x) ≡ false
makes_no_file bytes (stop.Refused refusal) h = refl
makes_no_file bytes stop.File h = absurd h
makes_no_file bytes stop.NoMemory h = refl

-- the last change is undone
pub prepares_undo : (bound : List (List ℕ × List ℕ)) (old new : Timeline) (work : Work) (files : NameMap) (ready : Ready) (lines : List ℕ)
    → work_of bound old ≡ work → UndoneTo old new → ready.change ≡ change.Nothing → ready.lines ≡ lines → lines ≡ undone_line
    → Prepares ⊥ Undo (state_of work files) (state_of (work_of bound new) files) (Ok ready)
prepares_undo bound old new work files ready lines v u n l o =
    let P : Work → Type 0 = λ w. Undoing (state_of w files) (printed undone_line (state_of (work_of bound new) files)) in
    prepares_nothing ⊥ Undo (state_of work files) (state_of (work_of bound new) files) ready undone_line n (l ∙ o) (subst P v (undone_one new u))

pub stops_undo : (bound : List (List ℕ × List ℕ)) (old new : Timeline) (work : Work) (files : NameMap) → work_of bound old ≡ work
    → old.done ≡ [] → new ≡ old → Prepares ⊥ Undo (state_of work files) (state_of (work_of bound new) files) (Err (stop.Refused no.NoUndo))
stops_undo bound old new work files v e k = (
  ap (λ (w : Work). state_of w files) (same_as bound old new work v k),
  none_done (sym (ap (λ (w : Work). w.done) v) ∙ e),
)

-- the change that was undone last is redone
pub prepares_redo : (bound : List (List ℕ × List ℕ)) (old new : Timeline) (work : Work) (files : NameMap) (ready : Ready) (lines : List ℕ)
    → work_of bound old ≡ work → RedoneTo old new → ready.change ≡ change.Nothing → ready.lines ≡ lines → lines ≡ redone_line
    → Prepares ⊥ Redo (state_of work files) (state_of (work_of bound new) files) (Ok ready)
prepares_redo bound old new work files ready lines v u n l o =
    let P : Work → Type 0 = λ w. Redoing (state_of w files) (printed redone_line (state_of (work_of bound new) files)) in
    prepares_nothing ⊥ Redo (state_of work files) (state_of (work_of bound new) files) ready redone_line n (l ∙ o) (subst P v (redone_one new u))

pub stops_redo : (bound : List (List ℕ × List ℕ)) (old new : Timeline) (work : Work) (files : NameMap) → work_of bound old ≡ work
    → old.undone ≡ [] → new ≡ old → Prepares ⊥ Redo (state_of work files) (state_of (work_of bound new) files) (Err (stop.Refused no.NoRedo))
stops_redo bound old new work files v e k = (
  ap (λ (w : Work). state_of w files) (same_as bound old new work v k),
  none_undone (sym (ap (λ (w : Work). w.undone) v) ∙ e),
)

-- what a file gives becomes the document, or there is no memory for it
prepares_opened : (Gives : List ℕ → State → Answer → Type 0) (rose : Type 0) (command : Command) (file : List ℕ) (work now : Work) (files : NameMap)
    (made : Made) (ready : Ready)
    → ((a : Answer) → Opens Gives work.staged (files (name_of file)) (state_of work files) a → Does command (state_of work files) a)
    → OpensDocument Gives rose (state_of work files) file (Ok made) → now ≡ opened_work (opened_bytes made.document) work
    → ready.change ≡ change.Nothing → ready.lines ≡ made.lines → Prepares rose command (state_of work files) (state_of now files) (Ok ready)
prepares_opened Gives rose command file work now files made ready to h w n l =
    let P : Work → Type 0 = λ x. Opens Gives work.staged (files (name_of file)) (state_of work files) (printed made.lines (state_of x files)) in
    prepares_nothing rose command (state_of work files) (state_of now files) ready made.lines n l (to _ (subst P (sym w) h))

pub prepares_taken : (Gives : List ℕ → State → Answer → Type 0) (rose : Type 0) (command : Command) (file : List ℕ) (work now : Work)
    (files : NameMap) (made : Made) (result : Result Ready Stop)
    → ((a : Answer) → Opens Gives work.staged (files (name_of file)) (state_of work files) a → Does command (state_of work files) a)
    → OpensDocument Gives rose (state_of work files) file (Ok made) → OnOk result (now ≡ opened_work (opened_bytes made.document) work)
    → IfOk result (λ ready. ready.change ≡ change.Nothing) → IfOk result (λ ready. ready.lines ≡ made.lines)
    → IfErr result (λ x. x ≡ stop.NoMemory) → OnErr result (now ≡ work) → Prepares rose command (state_of work files) (state_of now files) result
prepares_taken Gives rose command file work now files made (Ok ready) to h w n l m k =
    prepares_opened Gives rose command file work now files made ready to h w n l
prepares_taken Gives rose command file work now files made (Err x) to h w n l m k =
    let P : Stop → Type 0 = λ y. Prepares rose command (state_of work files) (state_of now files) (Err y) in
    subst P (sym m) (ap (λ (v : Work). state_of v files) k)

pub stays_made : (result : Result Ready Stop) (work now : Work) → IfOk result (λ ready. ready.change ≡ change.Nothing) → OnErr result (now ≡ work)
    → StaysUnlessReady result work now
stays_made (Ok ready) work now n k = stays_taken ready work now n
stays_made (Err x) work now n k = k

pub counts_taken : (result : Result Ready Stop) (mb ma pb pa : ℕ) → IfErr result (λ x. x ≡ stop.NoMemory) → FileCounts false mb ma pb pa
    → FileCounts (stops_at_file result) mb ma pb pa
counts_taken (Ok ready) mb ma pb pa m h = h
counts_taken (Err x) mb ma pb pa m h =
    let P : Stop → Type 0 = λ y. FileCounts (stops_at_file {T = Ready} (Err y)) mb ma pb pa in subst P (sym m) h

-- a session that begins over the document of an index file
pub first_of : (work : Work) (held : Timeline) (bytes : List ℕ) → work ≡ work_of [] held → held ≡ opened bytes → work ≡ first_work bytes
first_of work held bytes v h = v ∙ ap (λ (t : Timeline). work_of [] t) h

pub first_as : (work : Work) (held : Timeline) (bytes : List ℕ) → work ≡ work_of [] held → held ≡ opened bytes → work ≡ first_work work.bytes
first_as work held bytes v h =
    let e : work ≡ first_work bytes = first_of work held bytes v h in
    e ∙ ap (λ (b : List ℕ). first_work b) (sym (ap (λ (w : Work). w.bytes) e))

pub begun_index : (file bytes : List ℕ) (work : Work) (held : Timeline) → work ≡ work_of [] held → held ≡ opened bytes → IsFileOf file bytes
    → IsFileOf file work.bytes
begun_index file bytes work held v h i =
    let P : List ℕ → Type 0 = λ b. IsFileOf file b in subst P (sym (ap (λ (w : Work). w.bytes) (first_of work held bytes v h))) i
