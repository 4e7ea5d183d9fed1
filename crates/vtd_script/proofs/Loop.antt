-- The loop over the lines of a script.
use Rattle.std.proofs.Common.{◌≡◌, ℕ, suc, Bool, true, false, ◌||◌, List, [], ◌∷◌, ◌++◌, length, drop, Option, Some, Result, Ok, Err}
use Rattle.std.proofs.Common.{refl, sym, ap, subst, ◌∙◌, append_assoc, arith}
use Rattle.std.specs.List.{slice_range}
use Rattle.std.proofs.lemmas.List.{drop_all}
use Rattle.vtd_outside.specs.Causes.{Rose}
use Rattle.vtd_outside.specs.Known.{NameMap}
use Rattle.vtd_lines.specs.Lines.{lines, IsLine}
use Rattle.vtd_lines.specs.declared.lines.Line.{Line}
use Rattle.vtd_script.specs.States.{Work, State, state_of, Answer, lines_of, state_after, is_refused, goes_on}
use Rattle.vtd_script.specs.Steps.{Step, asks_any_file, asks_file, asks_for}
use Rattle.vtd_script.specs.Runs.{Reached, start, with_answer, Reaches, EndsBy, StepsKnown, Carrying, EndsKnown}
use Rattle.vtd_script.specs.Runs.{Turned, TurnedKnown, end_of}
use Rattle.vtd_script.specs.declared.refusals.Refusal.{Refusal}
use Rattle.vtd_script.specs.declared.endings.End.{End}
use Rattle.vtd_script.specs.declared.endings.End.TheVariants.{Done, Stopped, WriteFault, FileFault, NoMemory}
use Rattle.vtd_script.specs.declared.endings.Ending.{Ending}
use Rattle.vtd_script.specs.declared.endings.Ending.TheVariants as endings
use Rattle.vtd_script.specs.declared.endings.StepFault.{StepFault}
use Rattle.vtd_script.specs.declared.endings.StepFault.TheVariants as faults
use Rattle.vtd_script.proofs.RunLaws.{next_at, reach_more, ends_last}

or_false : (b : Bool) → b ≡ (b || false)
or_false true = refl
or_false false = refl

or_true : (b : Bool) → true ≡ (b || true)
or_true true = refl
or_true false = refl

-- after an empty line, after a command, after a refused one
pub turned_skipped : (f o : Type 0) (keep : Bool) (s : State) (line : List ℕ) (r : Bool) (work : Work) (files : Option NameMap) (sent : List ℕ)
    (taken : Option (List ℕ)) → StepsKnown f o s line (Ok endings.Skipped) work files sent taken → TurnedKnown f o keep s line r (Ok r) work files sent taken
turned_skipped f o keep s line r work files sent taken h = record {
  files = h.files;
  more = h.more;
  files_are = h.files_are;
  taken = h.taken;
  turns = record {
    answer = h.steps.answer;
    step = h.steps.step;
    passes = ap (goes_on keep) h.steps.known;
    state_is = h.steps.state_is;
    lines_are =
        h.steps.lines_are;
    refused_is = or_false r ∙ ap (λ (b : Bool). r || b) (sym (ap is_refused h.steps.known));
  };
}

pub turned_done : (f o : Type 0) (keep : Bool) (s : State) (line : List ℕ) (r : Bool) (work : Work) (files : Option NameMap) (sent : List ℕ)
    (taken : Option (List ℕ)) → StepsKnown f o s line (Ok endings.Done) work files sent taken → TurnedKnown f o keep s line r (Ok r) work files sent taken
turned_done f o keep s line r work files sent taken h = record {
  files = h.files;
  more = h.more;
  files_are = h.files_are;
  taken = h.taken;
  turns = record {
    answer = h.steps.answer;
    step = h.steps.step;
    passes = ap (goes_on keep) h.steps.known.2;
    state_is = h.steps.state_is;
    lines_are =
        h.steps.lines_are;
    refused_is = or_false r ∙ ap (λ (b : Bool). r || b) (sym (ap is_refused h.steps.known.2));
  };
}

pub turned_refused : (f o : Type 0) (keep : Bool) (s : State) (line : List ℕ) (r : Bool) (refusal : Refusal) (work : Work) (files : Option NameMap)
    (sent : List ℕ) (taken : Option (List ℕ)) → keep ≡ true → StepsKnown f o s line (Ok (endings.Refused refusal)) work files sent taken
    → TurnedKnown f o keep s line r (Ok true) work files sent taken
turned_refused f o keep s line r refusal work files sent taken k h = record {
  files = h.files;
  more = h.more;
  files_are = h.files_are;
  taken = h.taken;
  turns = record {
    answer = h.steps.answer;
    step = h.steps.step;
    passes = ap (goes_on keep) h.steps.known
        ∙ k;
    state_is = h.steps.state_is;
    lines_are = h.steps.lines_are;
    refused_is = or_true r
        ∙ ap (λ (b : Bool). r || b) (sym (ap is_refused h.steps.known));
  };
}

pub turned_stopped : (f o : Type 0) (keep : Bool) (s : State) (line : List ℕ) (r : Bool) (refusal : Refusal) (work : Work) (files : Option NameMap)
    (sent : List ℕ) (taken : Option (List ℕ)) → keep ≡ false → StepsKnown f o s line (Ok (endings.Refused refusal)) work files sent taken
    → TurnedKnown f o keep s line r (Err Stopped) work files sent taken
turned_stopped f o keep s line r refusal work files sent taken k h =
    let P : Answer → Type 0 = λ a. Step s line a in
    record {
      files = h.files;
      more = h.more;
      files_are = h.files_are;
      taken = h.taken;
      turns = (
        record {
          refusal = refusal;
          step = subst P h.steps.known h.steps.step;
          ends = k;
          printed_is = h.steps.lines_are
              ∙ ap lines_of h.steps.known;
        },
        ap (λ (x : State). x.files) (h.steps.state_is ∙ ap (state_after s) h.steps.known),
      );
    }

pub turned_file : (f o : Type 0) (keep : Bool) (s : State) (line : List ℕ) (r : Bool) (work : Work) (files : Option NameMap) (sent : List ℕ)
    (taken : Option (List ℕ)) → StepsKnown f o s line (Err faults.File) work files sent taken
    → TurnedKnown f o keep s line r (Err FileFault) work files sent taken
turned_file f o keep s line r work files sent taken h = record {
  files = h.files;
  more = h.more;
  files_are = h.files_are;
  taken = h.taken;
  turns =
      (h.steps.0, h.steps.2);
}

pub turned_write : (f o : Type 0) (keep : Bool) (s : State) (line : List ℕ) (r : Bool) (work : Work) (files : Option NameMap) (sent : List ℕ)
    (taken : Option (List ℕ)) → StepsKnown f o s line (Err faults.Write) work files sent taken
    → TurnedKnown f o keep s line r (Err WriteFault) work files sent taken
turned_write f o keep s line r work files sent taken h = record { files = h.files; more = h.more; files_are = h.files_are; taken = h.taken; turns = h.steps.0 }

pub turned_memory : (f o : Type 0) (keep : Bool) (s : State) (line : List ℕ) (r : Bool) (work : Work) (files : Option NameMap) (sent : List ℕ)
    (taken : Option (List ℕ)) → StepsKnown f o s line (Err faults.NoMemory) work files sent taken
    → TurnedKnown f o keep s line r (Err NoMemory) work files sent taken
turned_memory f o keep s line r work files sent taken h = record {
  files = h.files;
  more = h.more;
  files_are = h.files_are;
  taken = h.taken;
  turns =
      (h.steps.0, ap (λ (x : State). x.files) h.steps.1);
}

-- one line, from the state that was reached
record Met (f o : Type 0) (keep : Bool) (s : State) (lines rest : List (List ℕ)) (line : List ℕ) (result : Result Bool End) (work : Work)
    (files_after : Option NameMap) (before : List ℕ) (out_after : Option (List ℕ)) (refused_before : Bool) : Type 0 where
  pub k : ℕ
  pub reached : Reached
  pub reaches : Reaches keep s lines k reached
  pub left : drop k lines ≡ line ∷ rest
  pub files : NameMap
  pub more : List ℕ
  pub files_are : files_after ≡ Some files
  pub taken : out_after ≡ Some (before ++ (reached.out ++ more))
  pub turns : Turned f o keep reached.state line refused_before result (state_of work files) more
  pub refused_is : refused_before ≡ reached.refused

same_state : (work : Work) (s : State) → work ≡ s.work → state_of work s.files ≡ s
same_state work s e = ap (λ (w : Work). record { work = w; files = s.files }) e

met : (f o : Type 0) (keep : Bool) (s : State) (ls rest : List (List ℕ)) (line : List ℕ) (result : Result Bool End) (work work_after : Work)
    (files files_after : Option NameMap) (before : List ℕ) (taken out_after : Option (List ℕ)) (r : Bool)
    → Carrying keep s ls (line ∷ rest) work files before taken r
    → ((map : NameMap) (sent : List ℕ) → files ≡ Some map → taken ≡ Some sent
    → TurnedKnown f o keep (state_of work map) line r result work_after files_after sent out_after)
    → Met f o keep s ls rest line result work_after files_after before out_after r
met f o keep s ls rest line result work work_after files files_after before taken out_after r c known =
    let t = known c.reached.state.files (before ++ c.reached.out) c.files_are c.taken_is in
    let P : State → Type 0 = λ x. Turned f o keep x line r result (state_of work_after t.files) t.more in
    record {
      k = c.k;
      reached = c.reached;
      reaches = c.reaches;
      left = c.left;
      files = t.files;
      more = t.more;
      files_are = t.files_are;
      taken = t.taken ∙ ap (λ (xs : List ℕ). Some xs) (append_assoc before c.reached.out t.more);
      turns = subst P (same_state work c.reached.state c.work_is) t.turns;
      refused_is = c.refused_is;
    }

met_on : (f o : Type 0) (keep : Bool) (s : State) (ls rest : List (List ℕ)) (line : List ℕ) (work : Work) (files_after : Option NameMap) (before : List ℕ)
    (out_after : Option (List ℕ)) (r q : Bool)
    → Met f o keep s ls rest line (Ok q) work files_after before out_after r → Carrying keep s ls rest work files_after before out_after q
met_on f o keep s ls rest line work files_after before out_after r q m = record {
  k = suc m.k;
  reached = with_answer m.reached m.turns.answer;
  reaches = reach_more keep s ls m.k m.reached line rest m.turns.answer m.reaches m.left m.turns.step m.turns.passes;
  left = (next_at ls m.k line rest m.left).1;
  work_is = ap (λ (x : State). x.work) m.turns.state_is;
  files_are = m.files_are ∙ ap (λ (x : State). Some x.files) m.turns.state_is;
  taken_is = m.taken ∙ ap (λ (xs : List ℕ). Some (before ++ (m.reached.out ++ xs))) m.turns.lines_are;
  refused_is = m.turns.refused_is ∙ ap (λ (b : Bool). b || is_refused m.turns.answer) m.refused_is;
}

-- how a run ends at a line depends on the state alone
ends_by : (f o : Type 0) (keep : Bool) (r : Reached) (line : List ℕ) (end : End) (more : List ℕ) (files : NameMap)
    → EndsBy f o keep (start r.state) (Some line) end more files → EndsBy f o keep r (Some line) end more files
ends_by f o keep r line Done more files h = h
ends_by f o keep r line Stopped more files h = h
ends_by f o keep r line WriteFault more files h = h
ends_by f o keep r line FileFault more files h = h
ends_by f o keep r line NoMemory more files h = h

met_end : (f o : Type 0) (keep : Bool) (s : State) (ls rest : List (List ℕ)) (line : List ℕ) (end : End) (work : Work) (files_after : Option NameMap)
    (before : List ℕ) (out_after : Option (List ℕ)) (r : Bool)
    → Met f o keep s ls rest line (Err end) work files_after before out_after r → EndsKnown f o keep s ls end files_after before out_after
met_end f o keep s ls rest line end work files_after before out_after r m =
    let P : Option (List ℕ) → Type 0 = λ l. EndsBy f o keep m.reached l end m.more m.files in
    record {
      files = m.files;
      out = m.reached.out ++ m.more;
      files_are = m.files_are;
      taken = m.taken;
      ends = record {
        k = m.k;
        reached = m.reached;
        reaches = m.reaches;
        more = m.more;
        out_is = refl;
        ends =
            subst P (sym (next_at ls m.k line rest m.left).0) (ends_by f o keep m.reached line end m.more m.files m.turns);
      };
    }

-- the same, with the lines cut from the script
first_line : (keep : Bool) (s : State) (ls : List (List ℕ)) (script : List ℕ) (at : ℕ) (line : Line) (work : Work) (files : Option NameMap)
    (before : List ℕ) (taken : Option (List ℕ)) (r : Bool) → IsLine script at line
    → Carrying keep s ls (lines (drop at script)) work files before taken r
    → Carrying keep s ls (slice_range script line.start line.end ∷ lines (drop line.next script)) work files before taken r
first_line keep s ls script at line work files before taken r l c = let P : List (List ℕ)
    → Type 0 = λ rest. Carrying keep s ls rest work files before taken r in subst P l.first c

pub loop_on : (f o : Type 0) (keep : Bool) (s : State) (ls : List (List ℕ)) (script : List ℕ) (at : ℕ) (line : Line) (work work_after : Work)
    (files files_after : Option NameMap) (before : List ℕ) (taken out_after : Option (List ℕ)) (r q : Bool) → IsLine script at line
    → Carrying keep s ls (lines (drop at script)) work files before taken r
    → ((map : NameMap) (sent : List ℕ) → files ≡ Some map → taken ≡ Some sent
    → TurnedKnown f o keep (state_of work map) (slice_range script line.start line.end) r (Ok q) work_after files_after sent out_after)
    → Carrying keep s ls (lines (drop line.next script)) work_after files_after before out_after q
loop_on f o keep s ls script at line work work_after files files_after before taken out_after r q l c known =
    met_on f o keep s ls (lines (drop line.next script)) (slice_range script line.start line.end) work_after files_after before out_after r q
    (met f o keep s ls (lines (drop line.next script)) (slice_range script line.start line.end)
    (Ok q) work work_after files files_after before taken out_after r (first_line keep s ls script at line work files before taken r l c) known)

pub loop_end : (f o : Type 0) (keep : Bool) (s : State) (ls : List (List ℕ)) (script : List ℕ) (at : ℕ) (line : Line) (work work_after : Work)
    (files files_after : Option NameMap) (before : List ℕ) (taken out_after : Option (List ℕ)) (r : Bool) (end : End) → IsLine script at line
    → Carrying keep s ls (lines (drop at script)) work files before taken r
    → ((map : NameMap) (sent : List ℕ) → files ≡ Some map → taken ≡ Some sent
    → TurnedKnown f o keep (state_of work map) (slice_range script line.start line.end) r (Err end) work_after files_after sent out_after)
    → EndsKnown f o keep s ls end files_after before out_after
loop_end f o keep s ls script at line work work_after files files_after before taken out_after r end l c known =
    met_end f o keep s ls (lines (drop line.next script)) (slice_range script line.start line.end) end work_after files_after before out_after r
    (met f o keep s ls (lines (drop line.next script)) (slice_range script line.start line.end)
    (Err end) work work_after files files_after before taken out_after r (first_line keep s ls script at line work files before taken r l c) known)

-- how a line was carried out, by its case
pub ok_known : (f o : Type 0) (s : State) (line : List ℕ) (x given : Ending) (work : Work) (files : Option NameMap) (sent : List ℕ) (taken : Option
    (List ℕ)) → x ≡ given → StepsKnown f o s line (Ok x) work files sent taken → StepsKnown f o s line (Ok given) work files sent taken
ok_known f o s line x given work files sent taken e h = let P : Ending → Type 0 = λ y. StepsKnown f o s line (Ok y) work files sent taken in subst P e h

pub err_known : (f o : Type 0) (s : State) (line : List ℕ) (x given : StepFault) (work : Work) (files : Option NameMap) (sent : List ℕ) (taken : Option
    (List ℕ)) → x ≡ given → StepsKnown f o s line (Err x) work files sent taken → StepsKnown f o s line (Err given) work files sent taken
err_known f o s line x given work files sent taken e h = let P : StepFault → Type 0 = λ y. StepsKnown f o s line (Err y) work files sent taken in subst P e h

-- counts that did not rise before a line
pub known_from : (pb pl pn ob ol on : ℕ) (keep : Bool) (line : List ℕ) (work work_after : Work) (files files_after : Option NameMap)
    (taken out_after : Option (List ℕ)) (r : Bool) (result : Result Bool End) → pl ≡ pb → ol ≡ ob
    → ((map : NameMap) (sent : List ℕ) → files ≡ Some map → taken ≡ Some sent
    → TurnedKnown (Rose pl pn) (Rose ol on) keep (state_of work map) line r result work_after files_after sent out_after)
    → (map : NameMap) (sent : List ℕ) → files ≡ Some map → taken ≡ Some sent
    → TurnedKnown (Rose pb pn) (Rose ob on) keep (state_of work map) line r result work_after files_after sent out_after
known_from pb pl pn ob ol on keep line work work_after files files_after taken out_after r result p q h map sent e t =
    let P : ℕ → Type 0 = λ n. TurnedKnown (Rose n pn) (Rose ol on) keep (state_of work map) line r result work_after files_after sent out_after in
    let Q : ℕ → Type 0 = λ n. TurnedKnown (Rose pb pn) (Rose n on) keep (state_of work map) line r result work_after files_after sent out_after in
    subst Q q (subst P p (h map sent e t))

pub loop_done : (f o : Type 0) (keep : Bool) (s : State) (script : List ℕ) (at : ℕ) (work : Work) (files : Option NameMap) (before : List ℕ)
    (taken : Option (List ℕ)) (r : Bool) (end : End) → at ≡ length script → end ≡ end_of r
    → Carrying keep s (lines script) (lines (drop at script)) work files before taken r → EndsKnown f o keep s (lines script) end files before taken
unfolding lines
loop_done f o keep s script at work files before taken r end e d c =
    let none : lines (drop at script) ≡ [] = ap lines (drop_all at script (omega arith)) in
    let P : List (List ℕ) → Type 0 = λ rest. Carrying keep s (lines script) rest work files before taken r in
    let Q : End → Type 0 = λ x. EndsKnown f o keep s (lines script) x files before taken in
    subst Q (sym d) (ends_last f o keep s (lines script) work files before taken r (subst P none c))

-- a line that asks for a file, by the lines from it on
some_true : (a b : Bool) → b ≡ true → (a || b) ≡ true
some_true true b e = refl
some_true false b e = e

this_true : (a b : Bool) → a ≡ true → (a || b) ≡ true
this_true true b e = refl
this_true false b e = absurd cc

pub asked_later : (script : List ℕ) (at : ℕ) (line : Line) → IsLine script at line → asks_any_file (lines (drop line.next script)) ≡ true
    → asks_any_file (lines (drop at script)) ≡ true
asked_later script at line l t = ap asks_any_file l.first ∙ some_true _ _ t

pub asked_here : (script : List ℕ) (at : ℕ) (line : Line) → IsLine script at line
    → asks_file (asks_for (slice_range script line.start line.end)) ≡ true → asks_any_file (lines (drop at script)) ≡ true
asked_here script at line l t = ap asks_any_file l.first ∙ this_true _ _ t
