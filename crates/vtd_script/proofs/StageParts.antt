-- The first part of a command that stages, by the calls that it makes.
use Rattle.std.proofs.Common.{◌≡◌, ℕ, List, ◌++◌, Result, Ok, Err, refl, sym, ap, subst, ◌∙◌}
use Rattle.std.specs.Prelude.{encode_utf8_all}
use Rattle.xml_model.specs.Nest.{Forest}
use Rattle.vtd_documents.specs.Held.{OfNest}
use Rattle.vtd_outside.specs.Known.{NameMap}
use Rattle.vtd_edits.specs.Splices.{AreEdits, Refuses, Staged}
use Rattle.vtd_edits.specs.declared.splice.Splice.{Splice}
use Rattle.vtd_edits.specs.declared.splice.StageFault.{StageFault}
use Rattle.vtd_edits.specs.declared.splice.StageFault.TheVariants as staging
use Rattle.vtd_modifier.specs.declared.operation.Operation.{Operation}
use Rattle.vtd_queries.specs.Meets.{Makes}
use Rattle.vtd_queries.specs.Operations.{Operates}
use Rattle.vtd_queries.specs.declared.faults.OperationFault.{OperationFault}
use Rattle.vtd_queries.specs.declared.faults.OperationFault.TheVariants as operating
use Rattle.vtd_queries.specs.declared.faults.QueryFault.TheVariants as queries
use Rattle.vtd_queries.specs.declared.operating.Operated.{Operated}
use Rattle.vtd_script.specs.Changes.{PreparesStaging, operation_stop, stage_stop}
use Rattle.vtd_script.specs.Staging.{operation_refusal, staged_line}
use Rattle.vtd_revisions.specs.Timelines.{Timeline, changed}
use Rattle.vtd_script.specs.States.{Answer, State, Work, printed, refused, state_of, work_of}
use Rattle.vtd_script.specs.Steps.{Puts, Stages, overlaps, put, text_long, with_staged}
use Rattle.vtd_script.specs.declared.ready.Change.TheVariants as change
use Rattle.vtd_script.specs.declared.ready.Ready.{Ready}
use Rattle.vtd_script.specs.declared.ready.Stop.{Stop}

-- an operation that is refused
fault_by : (work : Work) (files : NameMap) (nest : Forest) (text : List ℕ) (operation : Operation) (fault : OperationFault)
    → (Operates work.bytes nest work.bound text operation (Err fault) → Stages text operation (state_of work files) (refused (operation_refusal fault)))
    → Makes (Operates work.bytes nest work.bound text operation) (Err fault)
    → PreparesStaging (λ s a. Stages text operation s a) (state_of work files) (state_of work files) (Err (operation_stop fault))
fault_by work files nest text operation (operating.Query queries.Long) to h = (refl, to h)
fault_by work files nest text operation (operating.Query queries.Deep) to h = (refl, to h)
fault_by work files nest text operation (operating.Query queries.Syntax) to h = (refl, to h)
fault_by work files nest text operation (operating.Query queries.Axis) to h = (refl, to h)
fault_by work files nest text operation (operating.Query queries.Variable) to h = (refl, to h)
fault_by work files nest text operation (operating.Query queries.Function) to h = (refl, to h)
fault_by work files nest text operation (operating.Query queries.Arguments) to h = (refl, to h)
fault_by work files nest text operation (operating.Query queries.Prefix) to h = (refl, to h)
fault_by work files nest text operation (operating.Query queries.LiteralFraction) to h = (refl, to h)
fault_by work files nest text operation (operating.Query queries.LiteralRange) to h = (refl, to h)
fault_by work files nest text operation (operating.Query queries.NeedsNodes) to h = (refl, to h)
fault_by work files nest text operation (operating.Query queries.NotNodes) to h = (refl, to h)
fault_by work files nest text operation (operating.Query queries.Fraction) to h = (refl, to h)
fault_by work files nest text operation (operating.Query queries.Infinite) to h = (refl, to h)
fault_by work files nest text operation (operating.Query queries.Range) to h = (refl, to h)
fault_by work files nest text operation (operating.Query queries.NoMemory) to h = refl
fault_by work files nest text operation operating.Name to h = (refl, to h)
fault_by work files nest text operation (operating.Kind at) to h = (refl, to h)

fault_staged : (bound : List (List ℕ × List ℕ)) (old : Timeline) (text : List ℕ) (operation : Operation) (fault : OperationFault) (files : NameMap)
    → OfNest old.bytes (λ nest. Makes (Operates old.bytes nest bound text operation) (Err fault))
    → PreparesStaging (λ s a. Stages text operation s a) (state_of (work_of bound old) files) (state_of (work_of bound old) files)
    (Err (operation_stop fault))
fault_staged bound old text operation fault files o =
    fault_by (work_of bound old) files o.0 text operation fault
    (λ h. record { nest = o.0; accepted = o.1; found = Err fault; operates = h; stages = refl })
    o.2

-- splices that are staged
done_staged : (bound : List (List ℕ × List ℕ)) (old new : Timeline) (text : List ℕ) (operation : Operation) (made : Operated) (edits : Staged)
    (lines : List ℕ) (ready : Ready) (files : NameMap) → OfNest old.bytes (λ nest. Makes (Operates old.bytes nest bound text operation) (Ok made))
    → new ≡ changed old.bytes (old.staged ++ made.splices) old → edits.splices ≡ new.staged → AreEdits edits → lines ≡ staged_line made.count
    → ready.change ≡ change.Nothing → ready.lines ≡ lines
    → PreparesStaging (λ s a. Stages text operation s a) (state_of (work_of bound old) files) (state_of (work_of bound new) files) (Ok ready)
done_staged bound old new text operation made edits lines ready files o e k a l n r =
    let s : State = state_of (work_of bound old) files in
    let all : List Splice = old.staged ++ made.splices in
    let g : edits.splices ≡ all = k ∙ ap (λ (t : Timeline). t.staged) e in
    let P : List Splice → Type 0 = λ xs. Puts xs made.count s (printed (staged_line made.count) (with_staged xs s)) in
    let p : P edits.splices = put a.apart a.short in
    let Q : List ℕ → Type 0 = λ xs. Puts all made.count s (printed xs (with_staged all s)) in
    let R : Timeline → Type 0 = λ t. Puts all made.count s (printed ready.lines (state_of (work_of bound t) files)) in (
      n,
      record {
        nest = o.0;
        accepted = o.1;
        found = Ok made;
        operates = o.2;
        stages = subst R (sym e) (subst Q (sym (r ∙ l)) (subst P g p));
      },
    )

-- splices that are not
refused_by : (all : List Splice) (count : ℕ) (s : State) (text : List ℕ) (operation : Operation) (fault : StageFault)
    → ((a : Answer) → Puts all count s a → Stages text operation s a) → Refuses all fault
    → PreparesStaging (λ t a. Stages text operation t a) s s (Err (stage_stop fault))
refused_by all count s text operation (staging.Overlap earlier later) to h = (refl, to _ (overlaps earlier later h))
refused_by all count s text operation staging.TextLong to h = (refl, to _ (text_long h.0 h.1))
refused_by all count s text operation staging.NoMemory to h = refl

refused_staged : (bound : List (List ℕ × List ℕ)) (old : Timeline) (text : List ℕ) (operation : Operation) (made : Operated) (fault : StageFault)
    (files : NameMap) → OfNest old.bytes (λ nest. Makes (Operates old.bytes nest bound text operation) (Ok made))
    → Refuses (old.staged ++ made.splices) fault
    → PreparesStaging (λ s a. Stages text operation s a) (state_of (work_of bound old) files) (state_of (work_of bound old) files)
    (Err (stage_stop fault))
refused_staged bound old text operation made fault files o h =
    refused_by (old.staged ++ made.splices) made.count (state_of (work_of bound old) files) text operation fault
    (λ a p. record { nest = o.0; accepted = o.1; found = Ok made; operates = o.2; stages = p }) h

-- what an operation answers on a document that is lent
pub answers_as : (document bytes : List ℕ) (bound : List (List ℕ × List ℕ)) (text : List ℕ) (operation : Operation)
    (found : Result Operated OperationFault) → document ≡ bytes
    → OfNest document (λ nest. Makes (Operates document nest bound text operation) found)
    → OfNest bytes (λ nest. Makes (Operates bytes nest bound text operation) found)
answers_as document bytes bound text operation found e h =
    let P : List ℕ → Type 0 = λ b. OfNest b (λ nest. Makes (Operates b nest bound text operation) found) in subst P e h

-- the same, of the session and the expression as the method has them
pub stage_fault : (bound : List (List ℕ × List ℕ)) (old : Timeline) (text expr : List ℕ) (operation : Operation) (fault : OperationFault) (work : Work)
    (stop : Stop) (files : NameMap) → OfNest old.bytes (λ nest. Makes (Operates old.bytes nest bound text operation) (Err fault))
    → work_of bound old ≡ work → text ≡ encode_utf8_all expr → stop ≡ operation_stop fault
    → PreparesStaging (λ s a. Stages (encode_utf8_all expr) operation s a) (state_of work files) (state_of work files) (Err stop)
stage_fault bound old text expr operation fault work stop files o h t e =
    let P : Work → Type 0 = λ x. PreparesStaging (λ s a. Stages text operation s a) (state_of x files) (state_of x files) (Err (operation_stop fault)) in
    let Q : List ℕ → Type 0 = λ x. PreparesStaging (λ s a. Stages x operation s a) (state_of work files) (state_of work files) (Err (operation_stop fault)) in
    let R : Stop → Type 0 = λ x. PreparesStaging (λ s a. Stages (encode_utf8_all expr) operation s a) (state_of work files) (state_of work files) (Err x) in
    subst R (sym e) (subst Q t (subst P h (fault_staged bound old text operation fault files o)))

pub stage_refused : (bound : List (List ℕ × List ℕ)) (old new : Timeline) (text expr : List ℕ) (operation : Operation) (made : Operated)
    (fault : StageFault) (work : Work) (stop : Stop) (files : NameMap) → OfNest old.bytes (λ nest. Makes (Operates old.bytes nest bound text operation) (Ok made))
    → Refuses (old.staged ++ made.splices) fault → work_of bound old ≡ work → text ≡ encode_utf8_all expr → stop ≡ stage_stop fault → new ≡ old
    → PreparesStaging (λ s a. Stages (encode_utf8_all expr) operation s a) (state_of work files) (state_of (work_of bound new) files) (Err stop)
stage_refused bound old new text expr operation made fault work stop files o q h t e k =
    let P : Work → Type 0 = λ x. PreparesStaging (λ s a. Stages text operation s a) (state_of x files) (state_of x files) (Err (stage_stop fault)) in
    let Q : List ℕ → Type 0 = λ x. PreparesStaging (λ s a. Stages x operation s a) (state_of work files) (state_of work files) (Err (stage_stop fault)) in
    let R : Stop → Type 0 = λ x. PreparesStaging (λ s a. Stages (encode_utf8_all expr) operation s a) (state_of work files) (state_of work files) (Err x) in
    let S : Work → Type 0 = λ x. PreparesStaging (λ s a. Stages (encode_utf8_all expr) operation s a) (state_of work files) (state_of x files) (Err stop) in
    let same : work_of bound new ≡ work = ap (λ (x : Timeline). work_of bound x) k ∙ h in
    subst S (sym same) (subst R (sym e) (subst Q t (subst P h (refused_staged bound old text operation made fault files o q))))

pub stage_done : (bound : List (List ℕ × List ℕ)) (old new : Timeline) (text expr : List ℕ) (operation : Operation) (made : Operated) (edits : Staged)
    (lines : List ℕ) (ready : Ready) (work : Work) (files : NameMap) → OfNest old.bytes (λ nest. Makes (Operates old.bytes nest bound text operation) (Ok made))
    → new ≡ changed old.bytes (old.staged ++ made.splices) old → edits.splices ≡ new.staged → AreEdits edits → lines ≡ staged_line made.count
    → ready.change ≡ change.Nothing → ready.lines ≡ lines → work_of bound old ≡ work → text ≡ encode_utf8_all expr
    → PreparesStaging (λ s a. Stages (encode_utf8_all expr) operation s a) (state_of work files) (state_of (work_of bound new) files) (Ok ready)
stage_done bound old new text expr operation made edits lines ready work files o g k a l n r h t =
    let now : State = state_of (work_of bound new) files in
    let P : Work → Type 0 = λ x. PreparesStaging (λ s a. Stages text operation s a) (state_of x files) now (Ok ready) in
    let Q : List ℕ → Type 0 = λ x. PreparesStaging (λ s a. Stages x operation s a) (state_of work files) now (Ok ready) in
    subst Q t (subst P h (done_staged bound old new text operation made edits lines ready files o g k a l n r))
