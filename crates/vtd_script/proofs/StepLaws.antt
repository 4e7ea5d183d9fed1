-- A line has one answer in a state, and some where the state has a document, and leaves such a state.
use Rattle.std.proofs.Common.{◌≡◌, ◌++◌, ◌≤◌, ℕ, Bool, true, false, List, [], ◌∷◌, length, Option, Some, None, Result, Ok, Err, refl, sym, ap, subst}
use Rattle.std.proofs.Common.{◌∙◌, inl, inr, arith}
use Rattle.std.specs.Prelude.{encode_utf8_all}
use Rattle.std.proofs.lemmas.Bool.{cases_lt}
use Rattle.xml_model.specs.Items.{first_place}
use Rattle.xml_model.specs.Nest.{Forest}
use Rattle.xml_model.specs.Records.{records}
use Rattle.xml_model.specs.Accepted.{Accepted, IsRefusal, layer}
use Rattle.xml_model.specs.declared.DocFault.{DocFault}
use Rattle.xml_model.specs.declared.DocFault.TheVariants as docs
use Rattle.xml_acceptance.proofs.OneAnswer.{one_document, one_refusal}
use Rattle.xml_acceptance.proofs.OneAnswer as answers
use Rattle.xml_acceptance.proofs.SomeAnswer.{some_answer}
use Rattle.vtd_edits.specs.declared.splice.Splice.{Splice}
use Rattle.xpath_grammar.specs.Bindings.{can_bind}
use Rattle.vtd_listing.specs.Listing.{listed}
use Rattle.vtd_queries.specs.Questions.{Asks, AsksNodes}
use Rattle.vtd_queries.specs.Operations.{Operates}
use Rattle.vtd_queries.specs.declared.faults.OperationFault.{OperationFault}
use Rattle.vtd_queries.specs.declared.operating.Operated.{Operated}
use Rattle.vtd_modifier.specs.declared.operation.Operation.{Operation}
use Rattle.vtd_modifier.specs.declared.operation.Operation.TheVariants as operations
use Rattle.vtd_queries.proofs.Answers.{one_list, one_operation, one_value, some_list, some_operation, some_value}
use Rattle.vtd_script.specs.Staging.{borrowed, operation_refusal}
use Rattle.vtd_script.proofs.StageLemmas.{one_puts, some_puts}
use Rattle.vtd_script.specs.Queries.{Selects, Values, selected, valued}
use Rattle.vtd_script.specs.States.{State, Answer, skipped, printed, refused, missing, state_after, new_bytes}
use Rattle.vtd_script.specs.Steps.{HasDocument, asks_for, Lists, Tells, shown, Puts, overlaps, text_long, put, StagesMade, Stages, Binds, Does, Answers, Step, ok_line, with_binding, name_of}
use Rattle.vtd_script.proofs.IndexLaws.{kept_indexes, kept_takes_index, one_indexes, one_takes_index, some_indexes, some_takes_index}
use Rattle.vtd_script.specs.Steps.{Takes, TakesIndex, too_long, unfit, accepted, Opens, document_limit, document_line, refusal_of}
use Rattle.vtd_script.specs.Steps.{with_applied, with_document}
use Rattle.vtd_script.proofs.UndoLaws.{kept_bound, kept_changed, kept_files, kept_opened, kept_redoing, kept_undoing, one_redoing, one_undoing}
use Rattle.vtd_script.proofs.UndoLaws.{some_redoing, some_undoing}
use Rattle.vtd_lines.specs.declared.commands.Command.{Command}
use Rattle.vtd_lines.specs.declared.commands.Command.TheVariants.{Elements, Ns, Select, Value, Remove, Replace, Before, After, First, Last, Attr, Set, Rename, Discard, Apply, Undo, Redo}
use Rattle.vtd_lines.specs.declared.commands.Command.TheVariants.{Save, Index, Open, Load}
use Rattle.vtd_script.specs.declared.refusals.Refusal.{Refusal}
use Rattle.vtd_script.specs.declared.refusals.Refusal.TheVariants as no

one_lists : (s : State) (a b : Answer) → Lists s a → Lists s b → a ≡ b
one_lists s a b h k =
    let same : h.0 ≡ k.0 = one_document s.work.bytes h.0 k.0 h.1.document k.1.document in
    h.2 ∙ ap (λ (n : Forest). printed (listed n (first_place s.work.bytes)) s) same ∙ sym k.2

one_tells : (P : Result (List ℕ) Refusal → Type 0) (s : State) (a b : Answer) → ((x y : Result (List ℕ) Refusal) → P x → P y → x ≡ y)
    → Tells P s a → Tells P s b → a ≡ b
one_tells P s a b one h k = h.2 ∙ ap (λ (x : Result (List ℕ) Refusal). shown s x) (one h.0 k.0 h.1 k.1) ∙ sym k.2

one_selects : (bytes : List ℕ) (bound : List (List ℕ × List ℕ)) (text : List ℕ) (x y : Result (List ℕ) Refusal) → Selects bytes bound text x
    → Selects bytes bound text y → x ≡ y
one_selects bytes bound text x y h k =
    let same : h.nest ≡ k.nest = one_document bytes h.nest k.nest h.accepted.document k.accepted.document in
    let P : Forest → Type 0 = λ n. AsksNodes bytes n bound text h.found in
    h.is ∙ ap selected (one_list bytes k.nest bound text h.found k.found (subst P same h.asked) k.asked) ∙ sym k.is

one_told : (bytes : List ℕ) (bound : List (List ℕ × List ℕ)) (text : List ℕ) (x y : Result (List ℕ) Refusal) → Values bytes bound text x
    → Values bytes bound text y → x ≡ y
one_told bytes bound text x y h k =
    let same : h.nest ≡ k.nest = one_document bytes h.nest k.nest h.accepted.document k.accepted.document in
    let P : Forest → Type 0 = λ n. Asks bytes n bound text h.found in
    h.is ∙ ap valued (one_value bytes k.nest bound text h.found k.found (subst P same h.asked) k.asked) ∙ sym k.is

one_made : (found : Result Operated OperationFault) (s : State) (a b : Answer) → StagesMade found s a → StagesMade found s b → a ≡ b
one_made (Ok made) s a b h k = one_puts (s.work.staged ++ made.splices) made.count s a b h k
one_made (Err fault) s a b h k = h ∙ sym k

one_stages : (text : List ℕ) (operation : Operation) (s : State) (a b : Answer) → Stages text operation s a → Stages text operation s b → a ≡ b
one_stages text operation s a b h k =
    let nests : h.nest ≡ k.nest = one_document s.work.bytes h.nest k.nest h.accepted.document k.accepted.document in
    let P : Forest → Type 0 = λ n. Operates s.work.bytes n s.work.bound text operation h.found in
    let same : h.found ≡ k.found = one_operation s.work.bytes k.nest s.work.bound text operation h.found k.found (subst P nests h.operates) k.operates in
    let Q : Result Operated OperationFault → Type 0 = λ x. StagesMade x s a in
    one_made k.found s a b (subst Q same h.stages) k.stages

one_binds : (can : Bool) (prefix uri : List ℕ) (s : State) (a b : Answer) → Binds can prefix uri s a → Binds can prefix uri s b → a ≡ b
one_binds true prefix uri s a b h k = h ∙ sym k
one_binds false prefix uri s a b h k = h ∙ sym k

-- there are eight layers
last_layer : (fault : DocFault) → layer fault ≤ 8
last_layer (docs.Utf8 at) = omega arith
last_layer (docs.Syntax at) = omega arith
last_layer (docs.Entity at) = omega arith
last_layer (docs.Encoding at) = omega arith
last_layer (docs.Nesting at) = omega arith
last_layer (docs.Depth at) = omega arith
last_layer (docs.Width field at) = omega arith
last_layer (docs.Twice at) = omega arith
last_layer (docs.Namespace at) = omega arith

not_both : (bytes : List ℕ) (nest : Forest) (fault : DocFault) → Accepted 8 bytes nest → IsRefusal bytes fault → ⊥
not_both bytes nest fault a r = answers.not_both 8 bytes nest fault a (last_layer fault) r

one_takes : (become : List ℕ → State → State) (bytes : List ℕ) (s : State) (a b : Answer) → Takes become bytes s a → Takes become bytes s b → a ≡ b
one_takes become bytes s a b (too_long l) (too_long m) = refl
one_takes become bytes s a b (too_long l) (unfit m fault r) = absurd (omega arith)
one_takes become bytes s a b (too_long l) (accepted m nest r) = absurd (omega arith)
one_takes become bytes s a b (unfit l fault q) (too_long m) = absurd (omega arith)
one_takes become bytes s a b (unfit l fault q) (unfit m other r) = ap (λ (f : DocFault). refused (refusal_of f)) (one_refusal bytes fault other q r)
one_takes become bytes s a b (unfit l fault q) (accepted m nest r) = absurd (not_both bytes nest fault r q)
one_takes become bytes s a b (accepted l nest q) (too_long m) = absurd (omega arith)
one_takes become bytes s a b (accepted l nest q) (unfit m fault r) = absurd (not_both bytes nest fault q r)
one_takes become bytes s a b (accepted l nest q) (accepted m other r) =
    ap (λ (n : Forest). printed (document_line (length bytes) (length (records n (first_place bytes)))) (become bytes s))
    (one_document bytes nest other q.document r.document)

one_opens : (Gives : List ℕ → State → Answer → Type 0) (staged : List Splice) (file : Option (List ℕ)) (s : State) (a b : Answer)
    → ((bytes : List ℕ) → Gives bytes s a → Gives bytes s b → a ≡ b) → Opens Gives staged file s a → Opens Gives staged file s b → a ≡ b
one_opens Gives [] None s a b one h k = h ∙ sym k
one_opens Gives [] (Some bytes) s a b one h k = one bytes h k
one_opens Gives (splice ∷ staged) file s a b one h k = h ∙ sym k

one_does : (command : Command) (s : State) (a b : Answer) → Does command s a → Does command s b → a ≡ b
one_does Elements s a b h k = one_lists s a b h k
one_does (Ns prefix uri) s a b h k = one_binds (can_bind prefix uri) prefix uri s a b h k
one_does (Select expr) s a b h k = one_tells _ s a b (one_selects s.work.bytes s.work.bound (encode_utf8_all expr)) h k
one_does (Value expr) s a b h k = one_tells _ s a b (one_told s.work.bytes s.work.bound (encode_utf8_all expr)) h k
one_does (Remove expr) s a b h k = one_stages _ _ s a b h k
one_does (Replace expr text) s a b h k = one_stages _ _ s a b h k
one_does (Before expr text) s a b h k = one_stages _ _ s a b h k
one_does (After expr text) s a b h k = one_stages _ _ s a b h k
one_does (First expr text) s a b h k = one_stages _ _ s a b h k
one_does (Last expr text) s a b h k = one_stages _ _ s a b h k
one_does (Attr expr text) s a b h k = one_stages _ _ s a b h k
one_does (Set expr text) s a b h k = one_stages _ _ s a b h k
one_does (Rename expr name) s a b h k = one_stages _ _ s a b h k
one_does Discard s a b h k = h ∙ sym k
one_does Apply s a b h k = one_takes with_applied (new_bytes s.work) s a b h k
one_does Undo s a b h k = one_undoing s a b h k
one_does Redo s a b h k = one_redoing s a b h k
one_does (Save file) s a b h k = h ∙ sym k
one_does (Index file) s a b h k = one_indexes (name_of file) s a b h k
one_does (Open file) s a b h k =
    one_opens (Takes with_document) s.work.staged (s.files (name_of file)) s a b (λ bytes x y. one_takes with_document bytes s a b x y) h k
one_does (Load file) s a b h k = one_opens TakesIndex s.work.staged (s.files (name_of file)) s a b (λ bytes x y. one_takes_index bytes s a b x y) h k

one_answers : (asked : Option (Result Command Refusal)) (s : State) (a b : Answer) → Answers asked s a → Answers asked s b → a ≡ b
one_answers None s a b h k = h ∙ sym k
one_answers (Some (Err refusal)) s a b h k = h ∙ sym k
one_answers (Some (Ok command)) s a b h k = one_does command s a b h k

pub one_step : (s : State) (line : List ℕ) (a b : Answer) → Step s line a → Step s line b → a ≡ b
unfolding Step
one_step s line a b h k = one_answers (asks_for line) s a b h k

-- there is an answer
some_binds : (can : Bool) (prefix uri : List ℕ) (s : State) → (a : Answer) × Binds can prefix uri s a
some_binds true prefix uri s = (printed ok_line (with_binding prefix uri s), refl)
some_binds false prefix uri s = (refused no.Name, refl)

some_selects : (bytes : List ℕ) (bound : List (List ℕ × List ℕ)) (text : List ℕ) (nest : Forest) → Accepted 8 bytes nest
    → (x : Result (List ℕ) Refusal) × Selects bytes bound text x
some_selects bytes bound text nest w =
    let h = some_list bytes nest bound text in (selected h.0, record { nest = nest; accepted = w; found = h.0; asked = h.1; is = refl })

some_told : (bytes : List ℕ) (bound : List (List ℕ × List ℕ)) (text : List ℕ) (nest : Forest) → Accepted 8 bytes nest
    → (x : Result (List ℕ) Refusal) × Values bytes bound text x
some_told bytes bound text nest w =
    let h = some_value bytes nest bound text in (valued h.0, record { nest = nest; accepted = w; found = h.0; asked = h.1; is = refl })

some_tells : (P : Result (List ℕ) Refusal → Type 0) (s : State) → ((x : Result (List ℕ) Refusal) × P x) → (a : Answer) × Tells P s a
some_tells P s h = (shown s h.0, (h.0, h.1, refl))

some_made : (found : Result Operated OperationFault) (s : State) → (a : Answer) × StagesMade found s a
some_made (Ok made) s = some_puts (s.work.staged ++ made.splices) made.count s
some_made (Err fault) s = (refused (operation_refusal fault), refl)

some_stages : (text : List ℕ) (operation : Operation) (s : State) → HasDocument s → (a : Answer) × Stages text operation s a
some_stages text operation s w =
    let h = some_operation s.work.bytes w.nest s.work.bound text operation in
    let m = some_made h.0 s in
    (m.0, record { nest = w.nest; accepted = w.accepted; found = h.0; operates = h.1; stages = m.1 })

some_takes : (become : List ℕ → State → State) (bytes : List ℕ) (s : State) → (a : Answer) × Takes become bytes s a
some_takes become bytes s = elim (cases_lt document_limit (length bytes)) [
  | inl l ↦ (refused no.FileLong, too_long l)
  | inr l ↦ (elim (some_answer bytes 8 (omega arith)) [
    | inl n ↦ (printed (document_line (length bytes) (length (records n.0 (first_place bytes)))) (become bytes s), accepted l n.0 n.1)
    | inr f ↦ (refused (refusal_of f.0), unfit l f.0 f.2)
  ])
]

some_opens : (Gives : List ℕ → State → Answer → Type 0) (staged : List Splice) (file : Option (List ℕ)) (s : State)
    → ((bytes : List ℕ) → (a : Answer) × Gives bytes s a) → (a : Answer) × Opens Gives staged file s a
some_opens Gives [] None s some = (missing, refl)
some_opens Gives [] (Some bytes) s some = some bytes
some_opens Gives (splice ∷ staged) file s some = (refused no.Staged, refl)

some_does : (command : Command) (s : State) → HasDocument s → (a : Answer) × Does command s a
some_does Elements s w = (printed (listed w.nest (first_place s.work.bytes)) s, (w.nest, w.accepted, refl))
some_does (Ns prefix uri) s w = some_binds (can_bind prefix uri) prefix uri s
some_does (Select expr) s w = some_tells _ s (some_selects s.work.bytes s.work.bound (encode_utf8_all expr) w.nest w.accepted)
some_does (Value expr) s w = some_tells _ s (some_told s.work.bytes s.work.bound (encode_utf8_all expr) w.nest w.accepted)
some_does (Remove expr) s w = some_stages (encode_utf8_all expr) operations.Remove s w
some_does (Replace expr text) s w = some_stages (encode_utf8_all expr) (operations.Replace (borrowed (encode_utf8_all text))) s w
some_does (Before expr text) s w = some_stages (encode_utf8_all expr) (operations.Before (borrowed (encode_utf8_all text))) s w
some_does (After expr text) s w = some_stages (encode_utf8_all expr) (operations.After (borrowed (encode_utf8_all text))) s w
some_does (First expr text) s w = some_stages (encode_utf8_all expr) (operations.First (borrowed (encode_utf8_all text))) s w
some_does (Last expr text) s w = some_stages (encode_utf8_all expr) (operations.Last (borrowed (encode_utf8_all text))) s w
some_does (Attr expr text) s w = some_stages (encode_utf8_all expr) (operations.Attr (borrowed (encode_utf8_all text))) s w
some_does (Set expr text) s w = some_stages (encode_utf8_all expr) (operations.Set (borrowed (encode_utf8_all text))) s w
some_does (Rename expr name) s w = some_stages (encode_utf8_all expr) (operations.Rename (borrowed (encode_utf8_all name))) s w
some_does Discard s w = (_, refl)
some_does Apply s w = some_takes with_applied (new_bytes s.work) s
some_does Undo s w = some_undoing s
some_does Redo s w = some_redoing s
some_does (Save file) s w = (_, refl)
some_does (Index file) s w = some_indexes (name_of file) s w
some_does (Open file) s w = some_opens (Takes with_document) s.work.staged (s.files (name_of file)) s (λ bytes. some_takes with_document bytes s)
some_does (Load file) s w = some_opens TakesIndex s.work.staged (s.files (name_of file)) s (λ bytes. some_takes_index bytes s)

some_answers : (asked : Option (Result Command Refusal)) (s : State) → HasDocument s → (a : Answer) × Answers asked s a
some_answers None s w = (skipped, refl)
some_answers (Some (Err refusal)) s w = (refused refusal, refl)
some_answers (Some (Ok command)) s w = some_does command s w

pub some_step : (s : State) (line : List ℕ) → HasDocument s → (a : Answer) × Step s line a
unfolding Step
some_step s line w = some_answers (asks_for line) s w

-- the state after an answer has a document too
kept_by : (s : State) (a b : Answer) → a ≡ b → HasDocument (state_after s b) → HasDocument (state_after s a)
kept_by s a b e w = let P : Answer → Type 0 = λ x. HasDocument (state_after s x) in subst P (sym e) w

kept_binds : (can : Bool) (prefix uri : List ℕ) (s : State) (a : Answer) → Binds can prefix uri s a → HasDocument s → HasDocument (state_after s a)
kept_binds true prefix uri s a h w = kept_by s a _ h (kept_bound s _ s.files w)
kept_binds false prefix uri s a h w = kept_by s a _ h w

kept_shown : (s : State) (told : Result (List ℕ) Refusal) → HasDocument s → HasDocument (state_after s (shown s told))
kept_shown s (Ok lines) w = w
kept_shown s (Err refusal) w = w

kept_tells : (P : Result (List ℕ) Refusal → Type 0) (s : State) (a : Answer) → Tells P s a → HasDocument s → HasDocument (state_after s a)
kept_tells P s a h w = kept_by s a _ h.2 (kept_shown s h.0 w)

kept_puts : (splices : List Splice) (count : ℕ) (s : State) (a : Answer) → Puts splices count s a → HasDocument s → HasDocument (state_after s a)
kept_puts splices count s a (overlaps earlier later h) w = w
kept_puts splices count s a (text_long p l) w = w
kept_puts splices count s a (put p l) w = kept_changed s s.work.bytes splices w.nest w.accepted w

kept_made : (found : Result Operated OperationFault) (s : State) (a : Answer) → StagesMade found s a → HasDocument s → HasDocument (state_after s a)
kept_made (Ok made) s a h w = kept_puts (s.work.staged ++ made.splices) made.count s a h w
kept_made (Err fault) s a h w = kept_by s a _ h w

kept_applied : (bytes : List ℕ) (s : State) (a : Answer) → Takes with_applied bytes s a → HasDocument s → HasDocument (state_after s a)
kept_applied bytes s a (too_long l) w = w
kept_applied bytes s a (unfit l fault r) w = w
kept_applied bytes s a (accepted l nest r) w = kept_changed s bytes [] nest r w

kept_takes : (bytes : List ℕ) (s : State) (a : Answer) → Takes with_document bytes s a → HasDocument s → HasDocument (state_after s a)
kept_takes bytes s a (too_long l) w = w
kept_takes bytes s a (unfit l fault r) w = w
kept_takes bytes s a (accepted l nest r) w = kept_opened s bytes nest r

kept_opens : (Gives : List ℕ → State → Answer → Type 0) (staged : List Splice) (file : Option (List ℕ)) (s : State) (a : Answer)
    → ((bytes : List ℕ) → Gives bytes s a → HasDocument (state_after s a)) → Opens Gives staged file s a → HasDocument s → HasDocument (state_after s a)
kept_opens Gives [] None s a kept h w = kept_by s a _ h w
kept_opens Gives [] (Some bytes) s a kept h w = kept bytes h
kept_opens Gives (splice ∷ staged) file s a kept h w = kept_by s a _ h w

kept_does : (command : Command) (s : State) (a : Answer) → Does command s a → HasDocument s → HasDocument (state_after s a)
kept_does Elements s a h w = kept_by s a _ h.2 w
kept_does (Ns prefix uri) s a h w = kept_binds (can_bind prefix uri) prefix uri s a h w
kept_does (Select expr) s a h w = kept_tells _ s a h w
kept_does (Value expr) s a h w = kept_tells _ s a h w
kept_does (Remove expr) s a h w = kept_made h.found s a h.stages w
kept_does (Replace expr text) s a h w = kept_made h.found s a h.stages w
kept_does (Before expr text) s a h w = kept_made h.found s a h.stages w
kept_does (After expr text) s a h w = kept_made h.found s a h.stages w
kept_does (First expr text) s a h w = kept_made h.found s a h.stages w
kept_does (Last expr text) s a h w = kept_made h.found s a h.stages w
kept_does (Attr expr text) s a h w = kept_made h.found s a h.stages w
kept_does (Set expr text) s a h w = kept_made h.found s a h.stages w
kept_does (Rename expr name) s a h w = kept_made h.found s a h.stages w
kept_does Discard s a h w = kept_by s a _ h (kept_changed s s.work.bytes [] w.nest w.accepted w)
kept_does Apply s a h w = kept_applied (new_bytes s.work) s a h w
kept_does Undo s a h w = kept_undoing s a h w
kept_does Redo s a h w = kept_redoing s a h w
kept_does (Save file) s a h w = kept_by s a _ h (kept_files s _ w)
kept_does (Index file) s a h w = kept_indexes (name_of file) s a h w
kept_does (Open file) s a h w = kept_opens (Takes with_document) s.work.staged (s.files (name_of file)) s a (λ bytes t. kept_takes bytes s a t w) h w
kept_does (Load file) s a h w = kept_opens TakesIndex s.work.staged (s.files (name_of file)) s a (λ bytes t. kept_takes_index bytes s a t w) h w

kept_answers : (asked : Option (Result Command Refusal)) (s : State) (a : Answer) → Answers asked s a → HasDocument s → HasDocument (state_after s a)
kept_answers None s a h w = kept_by s a _ h w
kept_answers (Some (Err refusal)) s a h w = kept_by s a _ h w
kept_answers (Some (Ok command)) s a h w = kept_does command s a h w

pub kept_step : (s : State) (line : List ℕ) (a : Answer) → Step s line a → HasDocument s → HasDocument (state_after s a)
unfolding Step
kept_step s line a h w = kept_answers (asks_for line) s a h w
