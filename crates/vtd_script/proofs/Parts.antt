-- The two parts of a command, joined.
use Rattle.std.proofs.Common.{◌⊎◌, ◌≡◌, ◌↔◌, ℕ, Bool, true, false, List, [], ◌++◌, length, take, drop, Option, Some, None}
use Rattle.std.proofs.Common.{Result, Ok, Err, OnErr, refl, sym, ap, ap₂, subst, ◌∙◌, inl, inr}
use Rattle.std.proofs.lemmas.List.{append-nil, take-append-drop}
use Rattle.xml_model.specs.Items.{first_place}
use Rattle.xml_model.specs.Nest.{Forest}
use Rattle.xml_model.specs.Accepted.{Accepted}
use Rattle.vtd_outside.specs.declared.Failed.{Failed}
use Rattle.vtd_outside.specs.declared.GatherFault.{GatherFault}
use Rattle.vtd_outside.specs.declared.GatherFault.TheVariants.{Long}
use Rattle.vtd_outside.specs.declared.GatherFault.TheVariants as gather
use Rattle.vtd_outside.specs.Causes.{Rose, RoseAlone, HasFileCause, GatherFileCause}
use Rattle.vtd_outside.specs.Known.{NameMap, put_into}
use Rattle.vtd_outside.specs.Gathered.{Sends}
use Rattle.vtd_outside.specs.Written.{Writes}
use Rattle.vtd_script.specs.States.{Work, State, state_of, Answer, skipped, printed, refused, missing, refused_line, new_bytes}
use Rattle.vtd_script.specs.Steps.{Binds, Tells, Answers, Does, Step, asked_by, asks_for, ok_line, with_binding, with_file, has_file, asks_file, name_of}
use Rattle.vtd_script.specs.Steps.{saved_line}
use Rattle.vtd_listing.specs.Listing.{listed}
use Rattle.vtd_script.specs.Queries.{query_refusal}
use Rattle.vtd_queries.specs.Meets.{IsRefused}
use Rattle.vtd_queries.specs.declared.faults.QueryFault.{QueryFault}
use Rattle.vtd_queries.specs.declared.faults.QueryFault.TheVariants as queries
use Rattle.vtd_script.specs.Runs.{IsPrefix, StepsKnown}
use Rattle.vtd_script.specs.Changes.{Asks, Changes, ChangesKnown, Prepares, CompletesKnown, Told, query_stop, PreparesStaging}
use Rattle.vtd_script.specs.Changes.{RefusesKnown, stops_at_file, touches_file}
use Rattle.vtd_script.specs.Changes.{StaysUnlessDone, StaysUnlessReady, FileCounts, fails_at_file, writes}
use Rattle.vtd_lines.specs.Commands.{Wrong, line_too_long, line_no_text, no_such_command, no_such_escape, read}
use Rattle.vtd_lines.specs.Readings.{Reads}
use Rattle.vtd_lines.specs.declared.commands.LineFault.{LineFault}
use Rattle.vtd_lines.specs.declared.commands.LineFault.TheVariants as why
use Rattle.vtd_lines.specs.declared.commands.Command.{Command}
use Rattle.vtd_lines.specs.declared.commands.Command.TheVariants.{Elements, Save}
use Rattle.xpath_grammar.specs.declared.bindings.BindFault.{BindFault}
use Rattle.xpath_grammar.specs.declared.bindings.BindFault.TheVariants.{Name}
use Rattle.vtd_script.specs.declared.refusals.Refusal.{Refusal}
use Rattle.vtd_script.specs.declared.refusals.Refusal.TheVariants as no
use Rattle.vtd_script.specs.declared.ready.Made.{Made}
use Rattle.vtd_script.specs.declared.ready.Ready.{Ready}
use Rattle.vtd_script.specs.declared.ready.Change.{Change}
use Rattle.vtd_script.specs.declared.ready.Change.TheVariants as change
use Rattle.vtd_script.specs.declared.ready.Stop.{Stop}
use Rattle.vtd_script.specs.declared.ready.Stop.TheVariants as stop
use Rattle.vtd_script.specs.declared.endings.Ending.{Ending}
use Rattle.vtd_script.specs.declared.endings.Ending.TheVariants as endings
use Rattle.vtd_script.specs.declared.endings.StepFault.{StepFault}
use Rattle.vtd_script.specs.declared.endings.StepFault.TheVariants as faults

nothing_more : (taken : Option (List ℕ)) (sent : List ℕ) → taken ≡ Some sent → taken ≡ Some (sent ++ [])
nothing_more taken sent e = e ∙ ap (λ (xs : List ℕ). Some xs) (sym (append-nil sent))

-- a file that takes bytes
make_file : (rose : Type 0) (name : List ℕ) (work : Work) (map : NameMap) (after : Option NameMap) (result : Result (Unit {0}) Failed)
    → Writes (Some map) after (name_of name) (new_bytes work) result → OnErr result rose
    → ChangesKnown rose (change.File name) (state_of work map) result work after
make_file rose name work map None result w o = absurd w
make_file rose name work map (Some a) (Ok x) w o = record { files = a; files_are = refl; makes = ap (λ (f : NameMap). state_of work f) w }
make_file rose name work map (Some a) (Err x) w o = record {
  files = a;
  files_are = refl;
  makes = record {
    writes_file = refl;
    cause = o;
    work_stays = refl;
    name = name_of name;
    bytes = new_bytes work;
    after = state_of work (put_into map (name_of name) (new_bytes work));
    changes = refl;
    one_file = refl;
    prefix = w;
  };
}

pub change_file : (rose : Type 0) (left : Change) (name : List ℕ) (work : Work) (map : NameMap) (before after : Option NameMap) (named bytes : List ℕ)
    (result : Result (Unit {0}) Failed) → left ≡ change.File name → named ≡ name_of name → bytes ≡ new_bytes work → before ≡ Some map
    → Writes before after named bytes result → OnErr result rose → ChangesKnown rose left (state_of work map) result work after
change_file rose left name work map before after named bytes result e n b f w o =
    let P : Change → Type 0 = λ c. ChangesKnown rose c (state_of work map) result work after in
    let Q : Option NameMap → Type 0 = λ o. Writes o after named bytes result in
    let R : List ℕ → Type 0 = λ x. Writes (Some map) after x bytes result in
    let S : List ℕ → Type 0 = λ x. Writes (Some map) after (name_of name) x result in
    subst P (sym e) (make_file rose name work map after result (subst S b (subst R n (subst Q f w))) o)

pub rose_by : (mb ma pb pa : ℕ) (result : Result (Unit {0}) Failed) → HasFileCause false mb ma pb pa result → OnErr result (Rose pb pa)
rose_by mb ma pb pa (Ok x) h = tt
rose_by mb ma pb pa (Err x) h = h.failed.1

pub missed_by : (mb ma pb pa : ℕ) (result : Result (Unit {0}) Failed) → HasFileCause false mb ma pb pa result → ma ≡ mb
missed_by mb ma pb pa (Ok x) h = h.missed_kept
missed_by mb ma pb pa (Err x) h = h.failed.0

-- the second part, where the change failed, and where the lines were sent or not
pub complete_failed : (file_rose out_rose : Type 0) (ready : Ready) (s : State) (e : Failed) (work : Work) (files : Option NameMap) (sent : List ℕ) (taken : Option (List ℕ)) → ChangesKnown {T = Unit {0}} file_rose ready.change s (Err e) work files → taken ≡ Some sent
    → CompletesKnown file_rose out_rose ready s (Err faults.File) work files sent taken
complete_failed file_rose out_rose ready s e work files sent taken h t = record { files = h.files; more = []; files_are = h.files_are; taken = nothing_more taken sent t; completes = (h.makes, refl) }

pub complete_sent : (file_rose out_rose : Type 0) (ready : Ready) (s : State) (x y : Unit {0}) (work : Work) (files : Option NameMap) (sent lines : List ℕ) (before after : Option (List ℕ)) → ChangesKnown {E = Failed} file_rose ready.change s (Ok x) work files
    → before ≡ Some sent → lines ≡ ready.lines → Sends {E = Failed} before after lines (Ok y) → CompletesKnown file_rose out_rose ready s (Ok tt) work files sent after
complete_sent file_rose out_rose ready s x y work files sent lines before after h t l w =
    let Q : Option (List ℕ) → Type 0 = λ o. Sends {E = Failed} o after lines (Ok y) in
    by after (subst Q t w)
  where
    by : (after : Option (List ℕ)) → Sends {E = Failed} (Some sent) after lines (Ok y) → CompletesKnown file_rose out_rose ready s (Ok tt) work files sent after
    by None w = absurd w
    by (Some a) w = record { files = h.files; more = lines; files_are = h.files_are; taken = ap (λ (xs : List ℕ). Some xs) w; completes = (h.makes, l) }

pub prefix_of : (count : ℕ) (lines whole : List ℕ) → lines ≡ whole → IsPrefix (take count lines) whole
prefix_of count lines whole e = record { more = drop count lines; split = sym e ∙ sym (take-append-drop count lines) }

pub complete_unsent : (file_rose out_rose : Type 0) (ready : Ready) (s : State) (x : Unit {0}) (y : Failed) (work : Work) (files : Option NameMap) (sent lines : List ℕ) (before after : Option (List ℕ)) → ChangesKnown {E = Failed} file_rose ready.change s (Ok x) work files
    → before ≡ Some sent → lines ≡ ready.lines → Sends {T = Unit {0}} before after lines (Err y) → out_rose → CompletesKnown file_rose out_rose ready s (Err faults.Write) work files sent after
complete_unsent file_rose out_rose ready s x y work files sent lines before after h t l w o =
    let Q : Option (List ℕ) → Type 0 = λ o. Sends {T = Unit {0}} o after lines (Err y) in
    by after (subst Q t w)
  where
    by : (after : Option (List ℕ)) → Sends {T = Unit {0}} (Some sent) after lines (Err y) → CompletesKnown file_rose out_rose ready s (Err faults.Write) work files sent after
    by None w = absurd w
    by (Some a) w = record { files = h.files; more = take w.count lines; files_are = h.files_are; taken = ap (λ (xs : List ℕ). Some xs) w.taken; completes = (h.makes, prefix_of w.count lines ready.lines l, o) }

-- a refusal whose line could not be sent
pub refuse_unsent : (out_rose : Type 0) (refusal : Refusal) (sent line : List ℕ) (y : Failed) (before after : Option (List ℕ)) → before ≡ Some sent
    → line ≡ refused_line refusal → Sends {T = Unit {0}} before after line (Err y) → out_rose
    → RefusesKnown out_rose refusal (Err faults.Write) sent after
refuse_unsent out_rose refusal sent line y before after t l w o =
    let Q : Option (List ℕ) → Type 0 = λ o. Sends {T = Unit {0}} o after line (Err y) in
    by after (subst Q t w)
  where
    by : (after : Option (List ℕ)) → Sends {T = Unit {0}} (Some sent) after line (Err y) → RefusesKnown out_rose refusal (Err faults.Write) sent after
    by None w = absurd w
    by (Some a) w = record {
      more = take w.count line;
      taken = ap (λ (xs : List ℕ). Some xs) w.taken;
      refuses =
          (prefix_of w.count line (refused_line refusal) l, o);
    }

no_write : (b : Bool) → b ≡ false → b ≡ true → ⊥
no_write b e f = cc

pub writes_nothing : (left : Change) → left ≡ change.Nothing → writes left ≡ true → ⊥
writes_nothing left e w = no_write (writes left) (ap writes e) w

-- a command that changes no file: its state is the session's
pub prepares_nothing : (rose : Type 0) (command : Command) (s now : State) (ready : Ready) (lines : List ℕ) → ready.change ≡ change.Nothing → ready.lines ≡ lines
    → Does command s (printed lines now) → Prepares rose command s now (Ok ready)
prepares_nothing rose command s now ready lines n l d =
    let N : Change → State → Type 0 = λ x after. Changes x now after in (
      λ after e. let same : after ≡ now = (let P : Change → Type 0 = λ x. Changes x now after in subst P n e) in
          let D : List ℕ → Type 0 = λ ls. Does command s (printed ls now) in
          let S : State → Type 0 = λ t. Does command s (printed ready.lines t) in
          subst S (sym same) (subst D (sym l) d),
      λ w. absurd (writes_nothing ready.change n w),
    )

-- a command whose file is left to the second part
pub prepares_file : (rose : Type 0) (name : List ℕ) (s : State) (ready : Ready) (lines : List ℕ) → ready.change ≡ change.File name → ready.lines ≡ lines
    → lines ≡ saved_line (length (new_bytes s.work)) → Prepares rose (Save name) s s (Ok ready)
prepares_file rose name s ready lines n l d = (
  λ after e. let same : after ≡ with_file (name_of name) (new_bytes s.work) s = (let P : Change → Type 0 = λ x. Changes x s after in subst P n e) in
      ap₂ (λ (x : List ℕ) (y : State). printed x y) (l ∙ d) same,
  λ w. (refl, refl),
)

pub counts_same : (x : Stop) (mb ma pb pa : ℕ) → FileCounts (stops_at_file {T = Made} (Err x)) mb ma pb pa
    → FileCounts (stops_at_file {T = Ready} (Err x)) mb ma pb pa
counts_same (stop.Refused refusal) mb ma pb pa h = h
counts_same stop.File mb ma pb pa h = h
counts_same stop.NoMemory mb ma pb pa h = h

pub stays_taken : (ready : Ready) (work now : Work) → ready.change ≡ change.Nothing → StaysUnlessReady (Ok ready) work now
stays_taken ready work now n = λ w. absurd (writes_nothing ready.change n w)

-- a command that needs no file, where one may fail
pub prepares_more : (rose : Type 0) (command : Command) (s now : State) (result : Result Ready Stop) → Prepares ⊥ command s now result → Prepares rose command s now result
prepares_more rose command s now (Ok ready) h = h
prepares_more rose command s now (Err (stop.Refused refusal)) h = h
prepares_more rose command s now (Err stop.File) h = (h.0, elim h.1 [ inl q ↦ inl q | inr q ↦ absurd q.1 ])
prepares_more rose command s now (Err stop.NoMemory) h = h

-- the same command, by its case
pub prepares_as : (rose : Type 0) (command given : Command) (s now : State) (result : Result Ready Stop) → command ≡ given → Prepares ⊥ given s now result → Prepares rose command s now result
prepares_as rose command given s now result e h = let P : Command → Type 0 = λ c. Prepares rose c s now result in subst P (sym e) (prepares_more rose given s now result h)

pub prepares_stop : (rose : Type 0) (command : Command) (s now : State) (known given : Stop) → known ≡ given → Prepares rose command s now (Err known) → Prepares rose command s now (Err given)
prepares_stop rose command s now known given e h = let P : Stop → Type 0 = λ x. Prepares rose command s now (Err x) in subst P e h

-- what was read, by its case
pub read_none : (x : Option Command) (asked : Option (Result Command Refusal)) → x ≡ None → Asks (Ok x) asked → asked ≡ None
read_none x asked e h = let P : Option Command → Type 0 = λ y. Asks (Ok y) asked in subst P e h

pub read_some : (x : Option Command) (command : Command) (asked : Option (Result Command Refusal)) → x ≡ Some command → Asks (Ok x) asked
    → asked ≡ Some (Ok command)
read_some x command asked e h = let P : Option Command → Type 0 = λ y. Asks (Ok y) asked in subst P e h

pub read_refused : (x : Stop) (refusal : Refusal) (asked : Option (Result Command Refusal)) → x ≡ stop.Refused refusal → Asks (Err x) asked
    → asked ≡ Some (Err refusal)
read_refused x refusal asked e h = let P : Stop → Type 0 = λ y. Asks (Err y) asked in subst P e h

-- A line is read, and so it answers.
step_by : (s : State) (line : List ℕ) (asked : Option (Result Command Refusal)) (a : Answer) → asks_for line ≡ asked → Answers asked s a → Step s line a
unfolding Step
step_by s line asked a e h = let P : Option (Result Command Refusal) → Type 0 = λ x. Answers x s a in subst P (sym e) h

pub step_skipped : (file_rose out_rose : Type 0) (line : List ℕ) (work : Work) (map : NameMap) (sent : List ℕ) (files : Option NameMap) (taken : Option
    (List ℕ)) → asks_for line ≡ None → files ≡ Some map → taken ≡ Some sent
    → StepsKnown file_rose out_rose (state_of work map) line (Ok endings.Skipped) work files sent taken
step_skipped file_rose out_rose line work map sent files taken e f t = record {
  files = map;
  more = [];
  files_are = f;
  taken = nothing_more taken sent t;
  steps = record { answer = skipped; step = step_by (state_of work map) line None skipped e refl; known = refl; state_is = refl; lines_are = refl };
}

-- a refused line
known_refusal : (file_rose out_rose : Type 0) (line : List ℕ) (work now : Work) (map : NameMap) (sent : List ℕ) (files : Option NameMap) (taken : Option
    (List ℕ)) (refusal : Refusal) (result : Result Ending StepFault) → Step (state_of work map) line (refused refusal)
    → state_of now map ≡ state_of work map → files ≡ Some map → RefusesKnown out_rose refusal result sent taken
    → StepsKnown file_rose out_rose (state_of work map) line result now files sent taken
known_refusal file_rose out_rose line work now map sent files taken refusal (Ok ending) h w f t =
    let P : Ending → Type 0 = λ x. StepsKnown file_rose out_rose (state_of work map) line (Ok x) now files sent taken in
    subst P (sym t.refuses.0) (record {
      files = map;
      more = t.more;
      files_are = f;
      taken = t.taken;
      steps = record {
        answer = refused refusal;
        step =
            h;
        known = refl;
        state_is = w;
        lines_are = t.refuses.1;
      };
    })
known_refusal file_rose out_rose line work now map sent files taken refusal (Err faults.Write) h w f t = record {
  files = map;
  more = t.more;
  files_are = f;
  taken = t.taken;
  steps = (record { cause = t.refuses.1; answer = refused refusal; step = h; prefix = t.refuses.0; left = refl }, w);
}
known_refusal file_rose out_rose line work now map sent files taken refusal (Err faults.NoMemory) h w f t = record {
  files = map;
  more =
      t.more;
  files_are = f;
  taken = t.taken;
  steps = (t.refuses, w);
}
known_refusal file_rose out_rose line work now map sent files taken refusal (Err faults.File) h w f t = absurd t.refuses

pub step_unread : (file_rose out_rose : Type 0) (line : List ℕ) (work : Work) (map : NameMap) (sent : List ℕ) (files : Option NameMap) (taken : Option
    (List ℕ)) (refusal : Refusal) (result : Result Ending StepFault) → asks_for line ≡ Some (Err refusal) → files ≡ Some map
    → RefusesKnown out_rose refusal result sent taken → StepsKnown file_rose out_rose (state_of work map) line result work files sent taken
step_unread file_rose out_rose line work map sent files taken refusal result e f t =
    known_refusal file_rose out_rose line work work map sent files taken refusal result (step_by (state_of work map) line (Some (Err refusal))
    (refused refusal) e refl) refl f t

pub step_refused : (rose file_rose out_rose : Type 0) (line : List ℕ) (command : Command) (work now : Work) (map : NameMap) (sent : List ℕ)
    (files : Option NameMap) (taken : Option (List ℕ)) (refusal : Refusal) (result : Result Ending StepFault) → asks_for line ≡ Some (Ok command)
    → Prepares rose command (state_of work map) (state_of now map) (Err (stop.Refused refusal)) → files ≡ Some map
    → RefusesKnown out_rose refusal result sent taken → StepsKnown file_rose out_rose (state_of work map) line result now files sent taken
step_refused rose file_rose out_rose line command work now map sent files taken refusal result e p f t =
    known_refusal file_rose out_rose line work now map sent files taken refusal result (step_by (state_of work map) line (Some (Ok command))
    (refused refusal) e p.1) p.0 f t

asks : (line : List ℕ) (command : Command) → asks_for line ≡ Some (Ok command) → has_file command ≡ true → asks_file (asks_for line) ≡ true
asks line command e h = ap asks_file e ∙ h

-- a file that could not be read, or is not there
pub step_unopened : (file_rose out_rose : Type 0) (line : List ℕ) (command : Command) (work now : Work) (map : NameMap) (sent : List ℕ) (files : Option NameMap) (taken : Option (List ℕ)) → asks_for line ≡ Some (Ok command)
    → Prepares file_rose command (state_of work map) (state_of now map) (Err stop.File) → files ≡ Some map → taken ≡ Some sent → StepsKnown file_rose out_rose (state_of work map) line (Err faults.File) now files sent taken
step_unopened file_rose out_rose line command work now map sent files taken e p f t = record {
  files = map;
  more = [];
  files_are = f;
  taken = nothing_more taken sent t;
  steps = (
    refl,
    ap (λ (x : State). x.work) p.0,
    elim p.1 [
      | inl q ↦ inl (step_by (state_of work map) line (Some (Ok command)) missing e q, refl)
      | inr q ↦ inr (record { asks = asks line command e q.0; cause = q.1; left = inl refl })
    ],
  );
}

-- a command whose two parts were carried out
pub step_done : (rose other_rose file_rose out_rose : Type 0) (line : List ℕ) (command : Command) (ready : Ready) (work mid now : Work) (map : NameMap) (sent : List ℕ) (files : Option NameMap) (taken : Option (List ℕ)) (x : Unit {0}) → asks_for line ≡ Some (Ok command)
    → Prepares rose command (state_of work map) (state_of mid map) (Ok ready) → CompletesKnown other_rose out_rose ready (state_of mid map) (Ok x) now files sent taken → StepsKnown file_rose out_rose (state_of work map) line (Ok endings.Done) now files sent taken
step_done rose other_rose file_rose out_rose line command ready work mid now map sent files taken x e p c = record {
  files = c.files;
  more = c.more;
  files_are = c.files_are;
  taken = c.taken;
  steps = record {
    answer = printed ready.lines (state_of now c.files);
    step = step_by (state_of work map) line (Some (Ok command)) _ e (p.0 _ c.completes.0);
    known = (ready.lines, state_of now c.files, refl);
    state_is = refl;
    lines_are = c.completes.1;
  };
}

-- a command whose second part failed
pub step_undone : (rose other_rose file_rose out_rose : Type 0) (line : List ℕ) (command : Command) (ready : Ready) (work mid now : Work) (map : NameMap) (sent : List ℕ) (files : Option NameMap) (taken : Option (List ℕ)) (fault : StepFault) → (other_rose → file_rose)
    → asks_for line ≡ Some (Ok command) → Prepares rose command (state_of work map) (state_of mid map) (Ok ready) → CompletesKnown other_rose out_rose ready (state_of mid map) (Err fault) now files sent taken
    → StepsKnown file_rose out_rose (state_of work map) line (Err fault) now files sent taken
step_undone rose other_rose file_rose out_rose line command ready work mid now map sent files taken faults.Write r e p c = record {
  files = c.files;
  more = c.more;
  files_are = c.files_are;
  taken = c.taken;
  steps = (record { cause = c.completes.2; answer = printed ready.lines (state_of now c.files); step = step_by (state_of work map) line (Some (Ok command)) _ e (p.0 _ c.completes.0); prefix = c.completes.1; left = refl }, refl);
}
step_undone rose other_rose file_rose out_rose line command ready work mid now map sent files taken faults.File r e p c =
    let f = c.completes.0 in
    let q = p.1 f.writes_file in
    record {
      files = c.files;
      more = c.more;
      files_are = c.files_are;
      taken = c.taken;
      steps = (
        c.completes.1,
        f.work_stays ∙ ap (λ (x : State). x.work) q.0,
        inr (record {
          asks = asks line command e q.1;
          cause = r f.cause;
          left = inr (record {
            lines = ready.lines;
            after = f.after;
            step = step_by (state_of work map) line (Some (Ok command)) _ e (p.0 f.after f.changes);
            name = f.name;
            bytes = f.bytes;
            writes = f.one_file;
            leaves = f.prefix;
          });
        }),
      );
    }
step_undone rose other_rose file_rose out_rose line command ready work mid now map sent files taken faults.NoMemory r e p c = absurd c.completes

-- a command for which there was no memory
pub step_no_memory : (file_rose out_rose : Type 0) (line : List ℕ) (work now : Work) (map : NameMap) (sent : List ℕ) (files : Option NameMap)
    (taken : Option (List ℕ)) → state_of now map ≡ state_of work map → files ≡ Some map → taken ≡ Some sent
    → StepsKnown file_rose out_rose (state_of work map) line (Err faults.NoMemory) now files sent taken
step_no_memory file_rose out_rose line work now map sent files taken w f t = record {
  files = map;
  more = [];
  files_are = f;
  taken =
      nothing_more taken sent t;
  steps = (refl, w);
}

-- a prefix that is bound, and one that cannot be
pub binds_as : (can : Bool) (prefix uri lines : List ℕ) (s now : State) → (can ≡ false → ⊥) → lines ≡ ok_line → now ≡ with_binding prefix uri s
    → Binds can prefix uri s (printed lines now)
binds_as true prefix uri lines s now n l w = ap₂ (λ (x : List ℕ) (y : State). printed x y) l w
binds_as false prefix uri lines s now n l w = absurd (n refl)

pub refuses_name : (can : Bool) (prefix uri : List ℕ) (s : State) → can ≡ false → Binds can prefix uri s (refused no.Name)
refuses_name true prefix uri s e = absurd cc
refuses_name false prefix uri s e = refl

pub no_fault : (r : Result (Unit {0}) BindFault) (x : Unit {0}) (can : Bool) → r ≡ Ok x → (r ≡ Err Name) ↔ (can ≡ false) → can ≡ false → ⊥
no_fault r x can e h f = let n = h.1 f in absurd cc

-- a session that is as before
pub stays : (result : Result Ending StepFault) (work now : Work) → now ≡ work → StaysUnlessDone result work now
stays (Ok endings.Skipped) work now e = e
stays (Ok endings.Done) work now e = tt
stays (Ok (endings.Refused refusal)) work now e = e
stays (Err faults.File) work now e = e
stays (Err faults.Write) work now e = tt
stays (Err faults.NoMemory) work now e = e

pub stays_cut_off : (fault : StepFault) (work now : Work) → fault ≡ faults.Write → StaysUnlessDone (Err fault) work now
stays_cut_off fault work now e = let P : StepFault → Type 0 = λ x. StaysUnlessDone (Err x) work now in subst P (sym e) tt

pub same_work : (work now : Work) → ((files : NameMap) → state_of now files ≡ state_of work files) → now ≡ work
same_work work now e = ap (λ (s : State). s.work) (e (λ name. None))

pub stays_ready : (rose : Type 0) (command : Command) (work now : Work) (result : Result Ready Stop)
    → ((files : NameMap) → Prepares rose command (state_of work files) (state_of now files) result) → StaysUnlessReady result work now
stays_ready rose command work now (Ok ready) h = λ w. ap (λ (s : State). s.work) ((h (λ name. None)).1 w).0
stays_ready rose command work now (Err (stop.Refused refusal)) h = ap (λ (s : State). s.work) (h (λ name. None)).0
stays_ready rose command work now (Err stop.File) h = ap (λ (s : State). s.work) (h (λ name. None)).0
stays_ready rose command work now (Err stop.NoMemory) h = ap (λ (s : State). s.work) (h (λ name. None))

pub stays_undone : (fault : StepFault) (ready : Ready) (work now : Work) → (fault ≡ faults.Write) ⊎ (fault ≡ faults.File)
    → (fails_at_file {T = Unit {0}} (Err fault) ≡ true → writes ready.change ≡ true) → (writes ready.change ≡ true → now ≡ work)
    → StaysUnlessDone (Err fault) work now
stays_undone faults.Write ready work now o w h = tt
stays_undone faults.File ready work now o w h = h (w refl)
stays_undone faults.NoMemory ready work now o w h = elim o [ inl q ↦ absurd cc | inr q ↦ absurd cc ]

-- counts
pub rose_from : (a b n : ℕ) → b ≡ a → Rose b n → Rose a n
rose_from a b n e r = let P : ℕ → Type 0 = λ m. Rose m n in subst P e r

pub counts_from : (failed : Bool) (mb mm ma pb pm pa : ℕ) → mm ≡ mb → pm ≡ pb → FileCounts failed mm ma pm pa → FileCounts failed mb ma pb pa
counts_from failed mb mm ma pb pm pa m p h =
    let P : ℕ → Type 0 = λ x. FileCounts failed x ma pm pa in
    let Q : ℕ → Type 0 = λ x. FileCounts failed mb ma x pa in
    subst Q p (subst P m h)

pub gather_failed : {T : Type 0} (result : Result T GatherFault) (gone : Bool) (mb ma pb pa : ℕ) (fault : GatherFault) → fault ≡ gather.Failed
    → GatherFileCause {T = T} gone mb ma pb pa (Err fault) → RoseAlone gone mb ma pb pa
gather_failed {T} result gone mb ma pb pa fault e h = let P : GatherFault → Type 0 = λ x. GatherFileCause {T = T} gone mb ma pb pa (Err x) in subst P e h

pub one_rose : (gone : Bool) (mb ma pb pa : ℕ) → RoseAlone gone mb ma pb pa → FileCounts true mb ma pb pa
one_rose true mb ma pb pa h = inl h
one_rose false mb ma pb pa h = inr h

-- the listing of elements
pub prepares_listed : (bytes lines : List ℕ) (s : State) (ready : Ready) → bytes ≡ s.work.bytes → ready.change ≡ change.Nothing → ready.lines ≡ lines
    → ((nest : Forest) × Accepted 8 bytes nest × (lines ≡ listed nest (first_place bytes))) → Prepares ⊥ Elements s s (Ok ready)
prepares_listed bytes lines s ready e n l h =
    let P : List ℕ → Type 0 = λ b. (nest : Forest) × Accepted 8 b nest × (lines ≡ listed nest (first_place b)) in
    let t = subst P e h in
    prepares_nothing ⊥ Elements s s ready lines n l (t.0, t.1, ap (λ (xs : List ℕ). printed xs s) t.2)

-- a file that was read, where nothing stops at it
pub counts_read : {T : Type 0} (result : Result T Stop) (mb ma pb pa : ℕ) → stops_at_file result ≡ false → ma ≡ mb → pa ≡ pb → FileCounts (stops_at_file result) mb ma pb pa
counts_read result mb ma pb pa n m p = let P : Bool → Type 0 = λ b. FileCounts b mb ma pb pa in subst P (sym n) (m, p)

-- what is told of an expression, or why nothing is
pub told_fault : {Y : Type 0} (P : Result (List ℕ) Refusal → Type 0) (Answers : Result Y QueryFault → Type 0) (fault : QueryFault)
    → ((x : QueryFault) → Answers (Err x) → P (Err (query_refusal x))) → IsRefused Answers fault → Told P (Err (query_stop fault))
told_fault P Answers queries.Long to h = to queries.Long h
told_fault P Answers queries.Deep to h = to queries.Deep h
told_fault P Answers queries.Syntax to h = to queries.Syntax h
told_fault P Answers queries.Axis to h = to queries.Axis h
told_fault P Answers queries.Variable to h = to queries.Variable h
told_fault P Answers queries.Function to h = to queries.Function h
told_fault P Answers queries.Arguments to h = to queries.Arguments h
told_fault P Answers queries.Prefix to h = to queries.Prefix h
told_fault P Answers queries.LiteralFraction to h = to queries.LiteralFraction h
told_fault P Answers queries.LiteralRange to h = to queries.LiteralRange h
told_fault P Answers queries.NeedsNodes to h = to queries.NeedsNodes h
told_fault P Answers queries.NotNodes to h = to queries.NotNodes h
told_fault P Answers queries.Fraction to h = to queries.Fraction h
told_fault P Answers queries.Infinite to h = to queries.Infinite h
told_fault P Answers queries.Range to h = to queries.Range h
told_fault P Answers queries.NoMemory to h = tt

-- a command that tells something
pub prepares_told : (P : Result (List ℕ) Refusal → Type 0) (command : Command) (s : State) (ready : Ready) (lines : List ℕ)
    → ((a : Answer) → Tells P s a → Does command s a) → ready.change ≡ change.Nothing → ready.lines ≡ lines → Told P (Ok lines)
    → Prepares ⊥ command s s (Ok ready)
prepares_told P command s ready lines to n l h = prepares_nothing ⊥ command s s ready lines n l (to _ (Ok lines, h, refl))

pub stops_told : (P : Result (List ℕ) Refusal → Type 0) (command : Command) (s : State) (x : Stop) → ((a : Answer) → Tells P s a → Does command s a)
    → Told P (Err x) → Prepares ⊥ command s s (Err x)
stops_told P command s (stop.Refused refusal) to h = (refl, to _ (Err refusal, h, refl))
stops_told P command s stop.File to h = absurd h
stops_told P command s stop.NoMemory to h = refl

pub tells_no_file : (P : Result (List ℕ) Refusal → Type 0) (x : Stop) → Told P (Err x) → stops_at_file {T = Ready} (Err x) ≡ false
tells_no_file P (stop.Refused refusal) h = refl
tells_no_file P stop.File h = absurd h
tells_no_file P stop.NoMemory h = refl

-- a command that stages, whatever its files do
pub prepares_staging : (rose : Type 0) (command : Command) (answers : State → Answer → Type 0) (s now : State) (result : Result Ready Stop)
    → ((a : Answer) → answers s a → Does command s a) → PreparesStaging answers s now result → Prepares rose command s now result
prepares_staging rose command answers s now (Ok ready) to h = prepares_nothing rose command s now ready ready.lines h.0 refl (to _ h.1)
prepares_staging rose command answers s now (Err (stop.Refused refusal)) to h = (h.0, to _ h.1)
prepares_staging rose command answers s now (Err stop.File) to h = absurd h
prepares_staging rose command answers s now (Err stop.NoMemory) to h = h

-- the same command, by its case
pub staging_as : (rose : Type 0) (command given : Command) (answers : State → Answer → Type 0) (s now : State) (result : Result Ready Stop) → command ≡ given
    → ((a : Answer) → answers s a → Does given s a) → PreparesStaging answers s now result → Prepares rose command s now result
staging_as rose command given answers s now result e to h =
    let P : Command → Type 0 = λ c. Prepares rose c s now result in subst P (sym e) (prepares_staging rose given answers s now result to h)

pub stays_staging : (answers : State → Answer → Type 0) (work now : Work) (result : Result Ready Stop)
    → ((files : NameMap) → PreparesStaging answers (state_of work files) (state_of now files) result) → StaysUnlessReady result work now
stays_staging answers work now (Ok ready) h = λ w. absurd (writes_nothing ready.change (h (λ name. None)).0 w)
stays_staging answers work now (Err (stop.Refused refusal)) h = ap (λ (s : State). s.work) (h (λ name. None)).0
stays_staging answers work now (Err stop.File) h = absurd (h (λ name. None))
stays_staging answers work now (Err stop.NoMemory) h = ap (λ (s : State). s.work) (h (λ name. None))

-- a command that has a file, by a first part that ended at one or leaves one
pub has_by : (command given : Command) (s now : State) (result : Result Ready Stop) → command ≡ given → stops_at_file result ≡ false
    → Prepares ⊥ given s now result → touches_file result ≡ true → has_file command ≡ true
has_by command given s now (Ok ready) e n h w = ap has_file e ∙ (h.1 w).1
has_by command given s now (Err (stop.Refused refusal)) e n h w = absurd cc
has_by command given s now (Err stop.File) e n h w = absurd cc
has_by command given s now (Err stop.NoMemory) e n h w = absurd cc

pub stages_no_file : (command : Command) (answers : State → Answer → Type 0) (s now : State) (result : Result Ready Stop)
    → PreparesStaging answers s now result → touches_file result ≡ true → has_file command ≡ true
stages_no_file command answers s now (Ok ready) h w = absurd (writes_nothing ready.change h.0 w)
stages_no_file command answers s now (Err (stop.Refused refusal)) h w = absurd cc
stages_no_file command answers s now (Err stop.File) h w = absurd h
stages_no_file command answers s now (Err stop.NoMemory) h w = absurd cc

-- a line that asks for a file
pub asked_as : (line : List ℕ) (x : Option Command) (command : Command) → x ≡ Some command → Asks (Ok x) (asks_for line)
    → has_file command ≡ true → asks_file (asks_for line) ≡ true
asked_as line x command e a h = ap asks_file (read_some x command (asks_for line) e a) ∙ h

-- what a line asks for, by what was read of it
asks_by : (line : List ℕ) (found : Option (Result Command Wrong)) → read line ≡ found → asks_for line ≡ asked_by found
unfolding asks_for
asks_by line found e = ap asked_by e

pub asks_none : (line : List ℕ) (x : Option Command) → x ≡ None → Reads (Ok x) (read line) → asks_for line ≡ None
asks_none line x e h = let P : Option Command → Type 0 = λ y. Reads (Ok y) (read line) in asks_by line None (subst P e h)

pub asks_some : (line : List ℕ) (x : Option Command) (command : Command) → x ≡ Some command → Reads (Ok x) (read line)
    → asks_for line ≡ Some (Ok command)
asks_some line x command e h = let P : Option Command → Type 0 = λ y. Reads (Ok y) (read line) in asks_by line (Some (Ok command)) (subst P e h)

-- the refusal of a line that was not read, where that is not for want of memory
abbrev pub AsksRefusal : List ℕ → LineFault → Type 0
AsksRefusal line why.Long = asks_for line ≡ Some (Err no.LineLong)
AsksRefusal line why.Utf8 = asks_for line ≡ Some (Err no.LineUtf8)
AsksRefusal line why.Command = asks_for line ≡ Some (Err no.Command)
AsksRefusal line why.Escape = asks_for line ≡ Some (Err no.Escape)
AsksRefusal line why.NoMemory = Unit {0}

refusal_by : (line : List ℕ) (fault : LineFault) → Reads (Err fault) (read line) → AsksRefusal line fault
refusal_by line why.Long h = asks_by line (Some (Err line_too_long)) h
refusal_by line why.Utf8 h = asks_by line (Some (Err line_no_text)) h
refusal_by line why.Command h = asks_by line (Some (Err no_such_command)) h
refusal_by line why.Escape h = asks_by line (Some (Err no_such_escape)) h
refusal_by line why.NoMemory h = tt

pub asks_refusal : (line : List ℕ) (x given : LineFault) → x ≡ given → Reads (Err x) (read line) → AsksRefusal line given
asks_refusal line x given e h = let P : LineFault → Type 0 = λ y. AsksRefusal line y in subst P e (refusal_by line x h)
