-- Words, files and a script mean one outcome, and a run without a fault ends with it or for want of memory.
use Rattle.std.proofs.Common.{◌≡◌, ℕ, ◌≤◌, ◌<◌, ◌⊎◌, inl, inr, Bool, false, List, [], length, drop, Option, Some, None}
use Rattle.std.proofs.Common.{refl, sym, ap, ◌∙◌, subst, arith}
use Rattle.std.proofs.lemmas.Option.{same_Some, none-some}
use Rattle.vtd_outside.specs.Known.{NameMap}
use Rattle.xml_model.specs.declared.DocFault.{DocFault}
use Rattle.xml_model.specs.declared.DocFault.TheVariants as faults
use Rattle.xml_model.specs.Nest.{Forest}
use Rattle.xml_model.specs.Accepted.{Accepted, IsRefusal, layer}
use Rattle.xml_acceptance.proofs.OneAnswer as answers
use Rattle.xml_acceptance.proofs.SomeAnswer as some
use Rattle.vtd_lines.specs.Lines.{lines}
use Rattle.vtd_script.specs.Faults.{fault_line}
use Rattle.vtd_script.specs.States.{State}
use Rattle.vtd_script.specs.Runs as script
use Rattle.vtd_script.specs.declared.endings.End.{End}
use Rattle.vtd_script.specs.declared.endings.End.TheVariants as ends
use Rattle.vtd_script.proofs.RunLaws as laws
use Rattle.vtd_generator.specs.Generated.{generated, generated_script}
use Rattle.vtd_running.specs.Form.{Form, document, generation, index_file, no_form}
use Rattle.vtd_running.specs.Statuses.{status_of, IsMeant}
use Rattle.std.proofs.lemmas.List.Elements.{All-nil}
use Rattle.vtd_script.specs.Steps.{HasDocument, document_limit}
use Rattle.vtd_running.specs.Meaning.{Outcome, EndsWith, RunsScript, RunsDocument, RunsGenerated, RunsUsage, Runs, Ran, Means}
use Rattle.vtd_running.specs.Meaning.{script_limit, script_long_line, document_long_line, usage_line, first_state}
use Rattle.vtd_running.specs.Meaning.{script_unread, script_unkept, script_long, carried, document_long, document_unfit, accepted}
use Rattle.vtd_running.specs.Meaning.{document_missing, document_unread, document_unkept, there, words_unkept, told, only_printed}
use Rattle.vtd_running.specs.Meaning.{generated_unkept, generated_run, no_files}
use Rattle.vtd_running.specs.Meaning.{RunsFile, RunsIndex, index_accepted, index_long, index_no_file, index_unfit}
use Rattle.vtd_words.specs.Numbers.{AreBytes}
use Rattle.vtd_documents.specs.Loads.{IsFileOf}
use Rattle.vtd_documents.proofs.Loading.{loaded_no_fault, one_loaded, some_load}
use Rattle.vtd_index.specs.declared.faults.IndexFault.{IndexFault}
use Rattle.vtd_index.proofs.Verdicts as indexes
use Rattle.vtd_script.proofs.IndexLaws.{are_bytes}
use Rattle.vtd_script.specs.States.{refused_line}
use Rattle.vtd_script.specs.Steps.{index_limit, index_refusal}
use Rattle.vtd_running.specs.declared.status.Status.{Status}
use Rattle.vtd_running.specs.declared.status.Status.TheVariants as statuses

-- ---- the last line of a run

-- without a fault all of it was sent
record WholeLine (line : List ℕ) (status : Status) (sent : List ℕ) (result : Status) : Type 0 where
  pub same_line : sent ≡ line
  pub same_status : result ≡ status

whole_line : (rose : Type 0) (line : List ℕ) (status : Status) (sent : List ℕ) (result : Status) → (rose → ⊥) → EndsWith rose line status sent result
    → WholeLine line status sent result
whole_line rose line status sent result n e = elim e [ inl q ↦ record { same_line = q.0; same_status = q.1 } | inr q ↦ absurd (n q.1) ]

-- a meaning of a kind, unless there was no memory
abbrev pub MeansOr : (Outcome → Type 0) → Outcome → Type 0
MeansOr kind m = (m.status ≡ statuses.NoMemory) ⊎ (IsMeant m.status × kind m)

meant_line : (rose : Type 0) (line : List ℕ) (status : Status) (sent : List ℕ) (result : Status) → (rose → ⊥) → IsMeant status
    → EndsWith rose line status sent result → IsMeant result × EndsWith ⊥ line status sent result
meant_line rose line status sent result n i e =
    let w = whole_line rose line status sent result n e in
    (subst IsMeant (sym w.same_status) i, inl (w.same_line, w.same_status))

-- ---- exactly what is meant

meant_end : (end : End) → script.IsMeant end → IsMeant (status_of end)
meant_end ends.Done h = tt
meant_end ends.Stopped h = tt
meant_end ends.WriteFault h = absurd h
meant_end ends.FileFault h = tt
meant_end ends.NoMemory h = absurd h

end_meant : (end : End) → IsMeant (status_of end) → script.IsMeant end
end_meant ends.Done h = tt
end_meant ends.Stopped h = tt
end_meant ends.WriteFault h = absurd h
end_meant ends.FileFault h = tt
end_meant ends.NoMemory h = absurd h

exact_script : (sr fr or : Type 0) (keep : Bool) (s : State) (text : List ℕ) (m : Outcome) → (sr → ⊥) → (fr → ⊥) → (or → ⊥)
    → RunsScript sr fr or keep s text m
    → MeansOr (RunsScript ⊥ ⊥ ⊥ keep s text) m
exact_script sr fr or keep s text m ns nf nw (script_unread left t r) = absurd (ns r)
exact_script sr fr or keep s text m ns nf nw (script_unkept left t) = inl refl
exact_script sr fr or keep s text m ns nf nw (script_long l sent status e) =
    let w = meant_line or script_long_line statuses.Refused sent status nw tt e in
    inr (w.0, script_long l sent status w.1)
exact_script sr fr or keep s text m ns nf nw (carried l end out files e) = elim (laws.exact fr or keep s (lines text) end out files nf nw e) [
  | inl q ↦ inl (ap status_of q)
  | inr q ↦ inr (meant_end end q.meant, carried l end out files q.ends)
]

exact_document : (sr fr or : Type 0) (keep : Bool) (files : NameMap) (bytes text : List ℕ) (m : Outcome) → (sr → ⊥) → (fr → ⊥) → (or → ⊥)
    → RunsDocument sr fr or keep files bytes text m → MeansOr (RunsDocument ⊥ ⊥ ⊥ keep files bytes text) m
exact_document sr fr or keep files bytes text m ns nf nw (document_long l sent status e) =
    let w = meant_line or document_long_line statuses.Refused sent status nw tt e in
    inr (w.0, document_long l sent status w.1)
exact_document sr fr or keep files bytes text m ns nf nw (document_unfit l fault r sent status e) =
    let w = meant_line or (fault_line fault) statuses.Refused sent status nw tt e in
    inr (w.0, document_unfit l fault r sent status w.1)
exact_document sr fr or keep files bytes text m ns nf nw (accepted l nest a x h) =
    elim (exact_script sr fr or keep (first_state bytes files) text x ns nf nw h) [ inl q ↦ inl q | inr q ↦ inr (q.0, accepted l nest a x q.1) ]

exact_index : (sr fr or : Type 0) (keep : Bool) (files : NameMap) (file text : List ℕ) (m : Outcome) → (sr → ⊥) → (fr → ⊥) → (or → ⊥)
    → RunsIndex sr fr or keep files file text m → MeansOr (RunsIndex ⊥ ⊥ ⊥ keep files file text) m
exact_index sr fr or keep files file text m ns nf nw (index_long l sent status e) =
    let w = meant_line or document_long_line statuses.Refused sent status nw tt e in
    inr (w.0, index_long l sent status w.1)
exact_index sr fr or keep files file text m ns nf nw (index_unfit l y fault r sent status e) =
    let w = meant_line or (refused_line (index_refusal fault)) statuses.Refused sent status nw tt e in
    inr (w.0, index_unfit l y fault r sent status w.1)
exact_index sr fr or keep files file text m ns nf nw (index_accepted l y bytes i x h) =
    elim (exact_script sr fr or keep (first_state bytes files) text x ns nf nw h) [ inl q ↦ inl q | inr q ↦ inr (q.0, index_accepted l y bytes i x q.1) ]
exact_index sr fr or keep files file text m ns nf nw (index_no_file l n) = inr (tt, index_no_file l n)

exact_file : (fr : Type 0) (GoesOn Meant : List ℕ → Outcome → Type 0) (files : NameMap) (name text : List ℕ) (m : Outcome) → (fr → ⊥)
    → ((bytes : List ℕ) (x : Outcome) → GoesOn bytes x → MeansOr (Meant bytes) x) → RunsFile fr GoesOn files name text m
    → MeansOr (RunsFile ⊥ Meant files name text) m
exact_file fr GoesOn Meant files name text m nf on (document_missing e) = inr (tt, document_missing e)
exact_file fr GoesOn Meant files name text m nf on (document_unread r) = absurd (nf r)
exact_file fr GoesOn Meant files name text m nf on document_unkept = inl refl
exact_file fr GoesOn Meant files name text m nf on (there bytes e x h) =
    elim (on bytes x h) [ inl q ↦ inl q | inr q ↦ inr (q.0, there bytes e x q.1) ]

exact_generated : (or : Type 0) (count : ℕ) (files : NameMap) (text : List ℕ) (m : Outcome) → (or → ⊥) → RunsGenerated or count files text m
    → MeansOr (RunsGenerated ⊥ count files text) m
exact_generated or count files text m nw generated_unkept = inl refl
exact_generated or count files text m nw (generated_run own h) =
    elim (exact_document ⊥ ⊥ or false no_files (generated count) generated_script own (λ x. x) (λ x. x) nw h) [
      | inl q ↦ inl q
      | inr q ↦ inr (q.0, generated_run own q.1)
    ]

exact_usage : (er : Type 0) (files : NameMap) (text : List ℕ) (m : Outcome) → (er → ⊥) → RunsUsage er files text m → MeansOr (RunsUsage ⊥ files text) m
exact_usage er files text m ne words_unkept = inl refl
exact_usage er files text m ne (told sent status e) =
    let w = meant_line er usage_line statuses.Usage sent status ne tt e in
    inr (w.0, told sent status w.1)

exact_runs : (sr fr or er : Type 0) (asked : Form) (files : NameMap) (text : List ℕ) (m : Outcome) → (sr → ⊥) → (fr → ⊥) → (or → ⊥) → (er → ⊥)
    → Runs sr fr or er asked files text m → MeansOr (Runs ⊥ ⊥ ⊥ ⊥ asked files text) m
exact_runs sr fr or er (document name keep) files text m ns nf nw ne h =
    exact_file fr (λ bytes. RunsDocument sr fr or keep files bytes text) (λ bytes. RunsDocument ⊥ ⊥ ⊥ keep files bytes text) files name text m nf
    (λ bytes x r. exact_document sr fr or keep files bytes text x ns nf nw r) h
exact_runs sr fr or er (index_file name keep) files text m ns nf nw ne h =
    exact_file fr (λ file. RunsIndex sr fr or keep files file text) (λ file. RunsIndex ⊥ ⊥ ⊥ keep files file text) files name text m nf
    (λ file x r. exact_index sr fr or keep files file text x ns nf nw r) h
exact_runs sr fr or er (generation count) files text m ns nf nw ne h = exact_generated or count files text m nw h
exact_runs sr fr or er no_form files text m ns nf nw ne h = exact_usage er files text m ne h

pub exact_ran : (sr fr or er : Type 0) (asked : Form) (files : NameMap) (text : List ℕ) (files_after : Option NameMap) (left_after : Option (List ℕ))
    (out : List ℕ) (out_after : Option (List ℕ)) (err : List ℕ) (err_after : Option (List ℕ)) (status : Status) → (sr → ⊥) → (fr → ⊥) → (or → ⊥) → (er → ⊥)
    → Ran (Runs sr fr or er asked files text) files_after left_after out out_after err err_after status
    → (status ≡ statuses.NoMemory) ⊎ Ran (Means asked files text) files_after left_after out out_after err err_after status
exact_ran sr fr or er asked files text fa la out oa err ea status ns nf nw ne r = elim (exact_runs sr fr or er asked files text r.m ns nf nw ne r.is_kind) [
  | inl q ↦ inl (r.status_is ∙ q)
  | inr q ↦ inr (record {
    m = r.m;
    is_kind = record { meant = q.0; runs = q.1 };
    files_are = r.files_are;
    script_left = r.script_left;
    out_taken = r.out_taken;
    err_taken = r.err_taken;
    status_is = r.status_is;
  })
]

-- ---- one outcome

silent : ⊥ → ⊥
silent h = h

same_line : (line : List ℕ) (status : Status) (kind : List ℕ → Status → Outcome) (a b : List ℕ) (x y : Status) → EndsWith ⊥ line status a x
    → EndsWith ⊥ line status b y → kind a x ≡ kind b y
same_line line status kind a b x y e f =
    let v = whole_line ⊥ line status a x silent e in
    let w = whole_line ⊥ line status b y silent f in
    ap (λ (s : List ℕ). kind s x) (v.same_line ∙ sym w.same_line) ∙ ap (λ (s : Status). kind b s) (v.same_status ∙ sym w.same_status)

one_script : (keep : Bool) (s : State) (text : List ℕ) (m n : Outcome) → IsMeant m.status → IsMeant n.status → RunsScript ⊥ ⊥ ⊥ keep s text m
    → RunsScript ⊥ ⊥ ⊥ keep s text n → m ≡ n
one_script keep s text m n p q (script_unread left t r) y = absurd r
one_script keep s text m n p q (script_unkept left t) y = absurd p
one_script keep s text m n p q (script_long l a x e) (script_unread left t r) = absurd r
one_script keep s text m n p q (script_long l a x e) (script_unkept left t) = absurd q
one_script keep s text m n p q (script_long l a x e) (script_long k b y f) =
    same_line script_long_line statuses.Refused (λ sent status. only_printed sent s.files (drop 16_777_217 text) status) a b x y e f
one_script keep s text m n p q (script_long l a x e) (carried k end out files f) = absurd (omega arith)
one_script keep s text m n p q (carried k end out files f) (script_unread left t r) = absurd r
one_script keep s text m n p q (carried k end out files f) (script_unkept left t) = absurd q
one_script keep s text m n p q (carried k end out files f) (script_long l a x e) = absurd (omega arith)
one_script keep s text m n p q (carried k end out files f) (carried j other bytes map g) =
    ap (λ (o : script.Outcome). only_printed o.out o.files [] (status_of o.end)) (laws.one_meaning keep s (lines text) _ _
    (record { meant = end_meant end p; ends = f }) (record { meant = end_meant other q; ends = g }))

-- there are eight layers
last_layer : (fault : DocFault) → layer fault ≤ 8
last_layer (faults.Utf8 at) = omega arith
last_layer (faults.Syntax at) = omega arith
last_layer (faults.Entity at) = omega arith
last_layer (faults.Encoding at) = omega arith
last_layer (faults.Nesting at) = omega arith
last_layer (faults.Depth at) = omega arith
last_layer (faults.Width field at) = omega arith
last_layer (faults.Twice at) = omega arith
last_layer (faults.Namespace at) = omega arith

not_both : (bytes : List ℕ) (nest : Forest) (fault : DocFault) → Accepted 8 bytes nest → IsRefusal bytes fault → ⊥
not_both bytes nest fault a r = answers.not_both 8 bytes nest fault a (last_layer fault) r

one_document : (keep : Bool) (files : NameMap) (bytes text : List ℕ) (m n : Outcome) → IsMeant m.status → IsMeant n.status
    → RunsDocument ⊥ ⊥ ⊥ keep files bytes text m → RunsDocument ⊥ ⊥ ⊥ keep files bytes text n → m ≡ n
one_document keep files bytes text m n p q (document_long l a x e) (document_long k b y f) =
    same_line document_long_line statuses.Refused (λ sent status. only_printed sent files text status) a b x y e f
one_document keep files bytes text m n p q (document_long l a x e) (document_unfit k fault r b y f) = absurd (omega arith)
one_document keep files bytes text m n p q (document_long l a x e) (accepted k nest d o h) = absurd (omega arith)
one_document keep files bytes text m n p q (document_unfit k fault r b y f) (document_long l a x e) = absurd (omega arith)
one_document keep files bytes text m n p q (document_unfit l fault r a x e) (document_unfit k other t b y f) =
    let P : DocFault → Type 0 = λ z. EndsWith ⊥ (fault_line z) statuses.Refused a x in
    same_line (fault_line other) statuses.Refused (λ sent status. only_printed sent files text status) a b x y
    (subst P (answers.one_refusal bytes fault other r t) e) f
one_document keep files bytes text m n p q (document_unfit k fault r b y f) (accepted l nest d o h) = absurd (not_both bytes nest fault d r)
one_document keep files bytes text m n p q (accepted k nest d o h) (document_long l a x e) = absurd (omega arith)
one_document keep files bytes text m n p q (accepted l nest d o h) (document_unfit k fault r b y f) = absurd (not_both bytes nest fault d r)
one_document keep files bytes text m n p q (accepted l nest d o h) (accepted k other c x g) = one_script keep (first_state bytes files) text o x p q h g

one_taken : (keep : Bool) (files : NameMap) (file text : List ℕ) (m n : Outcome) (a b : List ℕ) → IsMeant m.status → IsMeant n.status
    → IsFileOf file a → IsFileOf file b → RunsScript ⊥ ⊥ ⊥ keep (first_state a files) text m → RunsScript ⊥ ⊥ ⊥ keep (first_state b files) text n
    → m ≡ n
one_taken keep files file text m n a b p q i j h k =
    let P : List ℕ → Type 0 = λ x. RunsScript ⊥ ⊥ ⊥ keep (first_state x files) text m in
    one_script keep (first_state b files) text m n p q (subst P (one_loaded file a b i j) h) k

one_index : (keep : Bool) (files : NameMap) (file text : List ℕ) (m n : Outcome) → IsMeant m.status → IsMeant n.status
    → RunsIndex ⊥ ⊥ ⊥ keep files file text m → RunsIndex ⊥ ⊥ ⊥ keep files file text n → m ≡ n
one_index keep files file text m n p q (index_long l a x e) (index_long k b y f) =
    same_line document_long_line statuses.Refused (λ sent status. only_printed sent files text status) a b x y e f
one_index keep files file text m n p q (index_long l a x e) (index_unfit k z g r b y f) = absurd (omega arith)
one_index keep files file text m n p q (index_long l a x e) (index_accepted k z d j o h) = absurd (omega arith)
one_index keep files file text m n p q (index_long l a x e) (index_no_file k z) = absurd (omega arith)
one_index keep files file text m n p q (index_unfit l w g r a x e) (index_long k b y f) = absurd (omega arith)
one_index keep files file text m n p q (index_unfit l w g r a x e) (index_unfit k z other t b y f) =
    let P : IndexFault → Type 0 = λ v. EndsWith ⊥ (refused_line (index_refusal v)) statuses.Refused a x in
    same_line (refused_line (index_refusal other)) statuses.Refused (λ sent status. only_printed sent files text status) a b x y
    (subst P (indexes.one_fault file g other r t) e) f
one_index keep files file text m n p q (index_unfit l w g r a x e) (index_accepted k z d j o h) = absurd (loaded_no_fault file d g j r)
one_index keep files file text m n p q (index_unfit l w g r a x e) (index_no_file k z) = absurd (z w)
one_index keep files file text m n p q (index_accepted l w c i o h) (index_long k b y f) = absurd (omega arith)
one_index keep files file text m n p q (index_accepted l w c i o h) (index_unfit k z g r b y f) = absurd (loaded_no_fault file c g i r)
one_index keep files file text m n p q (index_accepted l w c i o h) (index_accepted k z d j v u) = one_taken keep files file text o v c d p q i j h u
one_index keep files file text m n p q (index_accepted l w c i o h) (index_no_file k z) = absurd (z w)
one_index keep files file text m n p q (index_no_file l w) (index_long k b y f) = absurd (omega arith)
one_index keep files file text m n p q (index_no_file l w) (index_unfit k z g r b y f) = absurd (w z)
one_index keep files file text m n p q (index_no_file l w) (index_accepted k z d j o h) = absurd (w z)
one_index keep files file text m n p q (index_no_file l w) (index_no_file k z) = refl

one_file : (Meant : List ℕ → Outcome → Type 0) (files : NameMap) (name text : List ℕ) (m n : Outcome) → IsMeant m.status → IsMeant n.status
    → ((bytes : List ℕ) (x y : Outcome) → IsMeant x.status → IsMeant y.status → Meant bytes x → Meant bytes y → x ≡ y)
    → RunsFile ⊥ Meant files name text m → RunsFile ⊥ Meant files name text n → m ≡ n
one_file Meant files name text m n p q one (document_unread r) y = absurd r
one_file Meant files name text m n p q one document_unkept y = absurd p
one_file Meant files name text m n p q one (document_missing e) (document_unread r) = absurd r
one_file Meant files name text m n p q one (document_missing e) document_unkept = absurd q
one_file Meant files name text m n p q one (document_missing e) (document_missing f) = refl
one_file Meant files name text m n p q one (document_missing e) (there bytes f o h) = absurd (none-some bytes (sym e ∙ f))
one_file Meant files name text m n p q one (there bytes f o h) (document_unread r) = absurd r
one_file Meant files name text m n p q one (there bytes f o h) document_unkept = absurd q
one_file Meant files name text m n p q one (there bytes f o h) (document_missing e) = absurd (none-some bytes (sym e ∙ f))
one_file Meant files name text m n p q one (there bytes f o h) (there other g x k) =
    let P : List ℕ → Type 0 = λ b. Meant b x in
    one bytes o x p q h (subst P (same_Some other bytes (sym g ∙ f)) k)

one_generated : (count : ℕ) (files : NameMap) (text : List ℕ) (m n : Outcome) → IsMeant m.status → IsMeant n.status → RunsGenerated ⊥ count files text m
    → RunsGenerated ⊥ count files text n → m ≡ n
one_generated count files text m n p q generated_unkept y = absurd p
one_generated count files text m n p q (generated_run own h) generated_unkept = absurd q
one_generated count files text m n p q (generated_run own h) (generated_run other k) =
    ap (λ (o : Outcome). only_printed o.out files text o.status) (one_document false no_files (generated count) generated_script own other p q h k)

one_usage : (files : NameMap) (text : List ℕ) (m n : Outcome) → IsMeant m.status → IsMeant n.status → RunsUsage ⊥ files text m
    → RunsUsage ⊥ files text n → m ≡ n
one_usage files text m n p q words_unkept y = absurd p
one_usage files text m n p q (told a x e) words_unkept = absurd q
one_usage files text m n p q (told a x e) (told b y f) =
    same_line usage_line statuses.Usage (λ sent status. record { out = []; err = sent; files = files; left = text; status = status }) a b x y e f

one_run : (asked : Form) (files : NameMap) (text : List ℕ) (m n : Outcome) → IsMeant m.status → IsMeant n.status → Runs ⊥ ⊥ ⊥ ⊥ asked files text m
    → Runs ⊥ ⊥ ⊥ ⊥ asked files text n → m ≡ n
one_run (document name keep) files text m n p q h k =
    one_file (λ bytes. RunsDocument ⊥ ⊥ ⊥ keep files bytes text) files name text m n p q (λ bytes x y. one_document keep files bytes text x y) h k
one_run (index_file name keep) files text m n p q h k =
    one_file (λ file. RunsIndex ⊥ ⊥ ⊥ keep files file text) files name text m n p q (λ file x y. one_index keep files file text x y) h k
one_run (generation count) files text m n p q h k = one_generated count files text m n p q h k
one_run no_form files text m n p q h k = one_usage files text m n p q h k

pub one_outcome : (asked : Form) (files : NameMap) (text : List ℕ) (m n : Outcome) → Means asked files text m → Means asked files text n → m ≡ n
one_outcome asked files text m n h k = one_run asked files text m n h.meant k.meant h.runs k.runs

-- ---- some outcome

abbrev pub Some' : (Outcome → Type 0) → Type 0
Some' kind = (m : Outcome) × IsMeant m.status × kind m

within_or_not : (limit n : ℕ) → (n ≤ limit) ⊎ (limit < n)
within_or_not limit n = grind arith

some_script : (keep : Bool) (s : State) (text : List ℕ) → ((m : script.Outcome) × script.Means keep s (lines text) m) → Some' (RunsScript ⊥ ⊥ ⊥ keep s text)
some_script keep s text meaning = elim (within_or_not script_limit (length text)) [
  | inl l ↦ (_, meant_end meaning.0.end meaning.1.meant, carried l meaning.0.end meaning.0.out meaning.0.files meaning.1.ends)
  | inr l ↦ (_, tt, script_long l script_long_line statuses.Refused (inl (refl, refl)))
]

-- a session that begins has no revision but the document
first_has : (bytes : List ℕ) (files : NameMap) (nest : Forest) → Accepted 8 bytes nest → HasDocument (first_state bytes files)
first_has bytes files nest a = record { nest = nest; accepted = a; done = All-nil _; undone = All-nil _ }

some_document : (keep : Bool) (files : NameMap) (bytes text : List ℕ) → Some' (RunsDocument ⊥ ⊥ ⊥ keep files bytes text)
some_document keep files bytes text = elim (within_or_not document_limit (length bytes)) [
  | inl l ↦ elim (some.some_answer bytes 8 (omega arith)) [
    | inl a ↦
        let r = some_script keep (first_state bytes files) text (laws.some_meaning keep (first_state bytes files) (lines text)
        (first_has bytes files a.0 a.1)) in
        (r.0, r.1, accepted l a.0 a.1 r.0 r.2)
    | inr r ↦ (_, tt, document_unfit l r.0 r.2 (fault_line r.0) statuses.Refused (inl (refl, refl)))
  ]
  | inr l ↦ (_, tt, document_long l document_long_line statuses.Refused (inl (refl, refl)))
]

some_index_answer : (keep : Bool) (files : NameMap) (file text : List ℕ) → length file ≤ index_limit → AreBytes file
    → Some' (RunsIndex ⊥ ⊥ ⊥ keep files file text)
some_index_answer keep files file text l y = elim (some_load file y) [
  | inl i ↦
      let r = some_script keep (first_state i.0 files) text (laws.some_meaning keep (first_state i.0 files) (lines text)
      (first_has i.0 files i.1.nest i.1.accepted)) in
      (r.0, r.1, index_accepted l y i.0 i.1 r.0 r.2)
  | inr f ↦ (_, tt, index_unfit l y f.0 f.1 (refused_line (index_refusal f.0)) statuses.Refused (inl (refl, refl)))
]

some_index : (keep : Bool) (files : NameMap) (file text : List ℕ) → Some' (RunsIndex ⊥ ⊥ ⊥ keep files file text)
some_index keep files file text = elim (within_or_not index_limit (length file)) [
  | inl l ↦ (elim (are_bytes file) [
    | inl y ↦ some_index_answer keep files file text l y
    | inr n ↦ (_, tt, index_no_file l n)
  ])
  | inr l ↦ (_, tt, index_long l document_long_line statuses.Refused (inl (refl, refl)))
]

some_file : (Meant : List ℕ → Outcome → Type 0) (files : NameMap) (name text : List ℕ) (file : Option (List ℕ)) → files name ≡ file
    → ((bytes : List ℕ) → Some' (Meant bytes)) → Some' (RunsFile ⊥ Meant files name text)
some_file Meant files name text None e some = (_, tt, document_missing e)
some_file Meant files name text (Some bytes) e some =
    let r = some bytes in
    (r.0, r.1, there bytes e r.0 r.2)

some_generated : (count : ℕ) (files : NameMap) (text : List ℕ) → Some' (RunsGenerated ⊥ count files text)
some_generated count files text =
    let r = some_document false no_files (generated count) generated_script in
    (only_printed r.0.out files text r.0.status, r.1, generated_run r.0 r.2)

some_run : (asked : Form) (files : NameMap) (text : List ℕ) → Some' (Runs ⊥ ⊥ ⊥ ⊥ asked files text)
some_run (document name keep) files text =
    some_file (λ bytes. RunsDocument ⊥ ⊥ ⊥ keep files bytes text) files name text (files name) refl (λ bytes. some_document keep files bytes text)
some_run (index_file name keep) files text =
    some_file (λ file. RunsIndex ⊥ ⊥ ⊥ keep files file text) files name text (files name) refl (λ file. some_index keep files file text)
some_run (generation count) files text = some_generated count files text
some_run no_form files text = (_, tt, told usage_line statuses.Usage (inl (refl, refl)))

pub some_meaning : (asked : Form) (files : NameMap) (text : List ℕ) → (m : Outcome) × Means asked files text m
some_meaning asked files text =
    let r = some_run asked files text in
    (r.0, record { meant = r.1; runs = r.2 })
