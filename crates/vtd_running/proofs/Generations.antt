-- How each part of a generated run ends, joined to its meaning.
use Rattle.std.proofs.Common.{◌≡◌, ℕ, ◌≤◌, true, false, List, [], ◌++◌, length, Option, Some, None}
use Rattle.std.proofs.Common.{refl, sym, ap, ◌∙◌, subst, arith}
use Rattle.std.proofs.lemmas.List.{append-nil}
use Rattle.std.specs.Str.{chars, is_utf8}
use Rattle.vtd_outside.specs.Known.{NameMap}
use Rattle.xml_model.specs.declared.DocFault.{DocFault}
use Rattle.xml_model.specs.Nest.{Forest}
use Rattle.xml_model.specs.Accepted.{Accepted, IsRefusal}
use Rattle.vtd_script.specs.Faults.{fault_line}
use Rattle.vtd_lines.specs.Lines.{lines}
use Rattle.vtd_lines.specs.Commands.{read}
use Rattle.vtd_script.specs.States.{Work, State, first_work, state_of}
use Rattle.vtd_script.specs.Steps.{asks_any_file, asks_for, document_limit}
use Rattle.vtd_script.specs.Runs.{EndsBy, EndsKnown, Reached}
use Rattle.vtd_script.specs.declared.endings.End.{End}
use Rattle.vtd_script.specs.declared.endings.End.TheVariants as ends
use Rattle.vtd_generator.specs.Generated.{generated, generated_script}
use Rattle.vtd_running.specs.Form.{Form, generation}
use Rattle.vtd_running.specs.Meaning.{RunsScript, RunsGenerated, Runs, Ran, accepted, carried, document_unfit}
use Rattle.vtd_running.specs.Meaning.{generated_unkept, generated_run, no_files, only_printed, script_limit}
use Rattle.vtd_running.specs.Parts.{Carries, Generates, LineSent}
use Rattle.vtd_running.specs.Statuses.{EndsGenerated, status_of}
use Rattle.vtd_running.specs.declared.status.Status.{Status}
use Rattle.vtd_running.specs.declared.status.Status.TheVariants as statuses

-- ---- the script

pub script_fits : length generated_script ≤ script_limit
unfolding generated_script
script_fits = omega arith

-- no line asks for a file
asks_none : asks_any_file (lines generated_script) ≡ false
unfolding lines generated_script asks_for read is_utf8 chars lib.Utf8.encode
asks_none = refl

pub no_file_fault : (script : List ℕ) (end : End) → script ≡ generated_script
    → (end ≡ ends.FileFault → asks_any_file (lines script) ≡ true) → end ≡ ends.FileFault → ⊥
no_file_fault script end same asked e =
    let f = ap (λ (x : List ℕ). asks_any_file (lines x)) same ∙ asks_none in
    let t = asked e in
    cc

-- how the script ends, where no line asks for a file
alone_ends : (fr or : Type 0) (r : Reached) (line : Option (List ℕ)) (end : End) (more : List ℕ) (files : NameMap) → (end ≡ ends.FileFault → ⊥)
    → EndsBy fr or false r line end more files → EndsBy ⊥ or false r line end more files
alone_ends fr or r None ends.Done more files n h = h
alone_ends fr or r None ends.Stopped more files n h = h
alone_ends fr or r None ends.WriteFault more files n h = absurd h
alone_ends fr or r None ends.FileFault more files n h = absurd h
alone_ends fr or r None ends.NoMemory more files n h = h
alone_ends fr or r (Some line) ends.Done more files n h = absurd h
alone_ends fr or r (Some line) ends.Stopped more files n h = h
alone_ends fr or r (Some line) ends.WriteFault more files n h = h
alone_ends fr or r (Some line) ends.FileFault more files n h = absurd (n refl)
alone_ends fr or r (Some line) ends.NoMemory more files n h = h

pub alone_status : (end : End) (result : Status) → (end ≡ ends.FileFault → ⊥) → result ≡ status_of end → EndsGenerated result
alone_status end result n e = subst (λ (x : Status). EndsGenerated x) (sym e) (by end n)
  where
    by : (end : End) → (end ≡ ends.FileFault → ⊥) → EndsGenerated (status_of end)
    by ends.Done n = tt
    by ends.Stopped n = tt
    by ends.WriteFault n = tt
    by ends.FileFault n = absurd (n refl)
    by ends.NoMemory n = tt

pub script_alone : (fr or : Type 0) (s : State) (script : List ℕ) (end : End) (files_after : Option NameMap) (before : List ℕ)
    (out_after : Option (List ℕ)) (result : Status) → script ≡ generated_script → (end ≡ ends.FileFault → ⊥)
    → EndsKnown fr or false s (lines script) end files_after before out_after → result ≡ status_of end → Carries or s before out_after result
script_alone fr or s script end fa before oa result same n known r =
    let k = subst (λ (x : List ℕ). EndsKnown fr or false s (lines x) end fa before oa) same known in
    let e = k.ends in
    record {
      own = only_printed k.out k.files [] (status_of end);
      runs = carried script_fits end k.out k.files
          (record { k = e.k; reached = e.reached; reaches = e.reaches; more = e.more; out_is = e.out_is; ends = alone_ends fr or e.reached _ end e.more k.files n e.ends });
      taken = k.taken;
      status_is = r;
    }

-- ---- the document

nothing_more : (before : List ℕ) (o : Option (List ℕ)) → o ≡ Some before → o ≡ Some (before ++ [])
nothing_more before o e = e ∙ ap (λ (xs : List ℕ). Some xs) (sym (append-nil before))

pub made_none : (or : Type 0) (count : ℕ) (before : List ℕ) (out_after : Option (List ℕ)) → out_after ≡ Some before
    → Generates or count before out_after statuses.NoMemory
made_none or count before oa t = record { sent = []; taken = nothing_more before oa t; runs = λ files script. generated_unkept }

pub made_accepted : (or : Type 0) (count : ℕ) (bytes : List ℕ) (work : Work) (before : List ℕ) (out_after : Option (List ℕ)) (status : Status)
    → bytes ≡ generated count → length bytes ≤ document_limit → ((nest : Forest) × Accepted 8 bytes nest)
    → work ≡ first_work bytes → Carries or (state_of work no_files) before out_after status
    → Generates or count before out_after status
made_accepted or count bytes work before oa status b l a w c =
    let same : work ≡ first_work (generated count) = w ∙ ap (λ (x : List ℕ). first_work x) b in
    let P : List ℕ → Type 0 = λ x. (nest : Forest) × Accepted 8 x nest in
    let fits = subst (λ (x : List ℕ). length x ≤ document_limit) b l in
    let nest = subst P b a in
    let ran = subst (λ (x : Work). RunsScript ⊥ ⊥ or false (state_of x no_files) generated_script c.own) same c.runs in
    record {
      sent = c.own.out;
      taken = c.taken;
      runs = λ files script.
          subst (λ (x : Status). RunsGenerated or count files script (only_printed c.own.out files script x)) (sym c.status_is)
          (generated_run c.own (accepted fits nest.0 nest.1 c.own ran));
    }

pub made_unfit : (or : Type 0) (count : ℕ) (bytes line : List ℕ) (fault : DocFault) (before : List ℕ) (out_after : Option (List ℕ)) (status : Status)
    → bytes ≡ generated count → length bytes ≤ document_limit → IsRefusal bytes fault → line ≡ fault_line fault
    → LineSent or line statuses.Refused before out_after status → Generates or count before out_after status
made_unfit or count bytes line fault before oa status b l r e s =
    let fits = subst (λ (x : List ℕ). length x ≤ document_limit) b l in
    let refusal = subst (λ (x : List ℕ). IsRefusal x fault) b r in
    let sent = subst (λ (x : List ℕ). LineSent or x statuses.Refused before oa status) e s in
    record {
      sent = sent.sent;
      taken = sent.taken;
      runs = λ files script.
          generated_run (only_printed sent.sent no_files generated_script status) (document_unfit fits fault refusal sent.sent status sent.ends);
    }

-- ---- the run

pub ran_generated : (sr fr or er : Type 0) (asked : Form) (count : ℕ) (files : NameMap) (script : List ℕ) (files_after : Option NameMap)
    (left_after : Option (List ℕ)) (out : List ℕ) (out_after : Option (List ℕ)) (err : List ℕ) (err_after : Option (List ℕ)) (status : Status)
    → generation count ≡ asked → Generates or count out out_after status → files_after ≡ Some files → left_after ≡ Some script → err_after ≡ Some err
    → Ran (Runs sr fr or er asked files script) files_after left_after out out_after err err_after status
ran_generated sr fr or er asked count files script fa la out oa err ea status a g f l e =
    let m = only_printed g.sent files script status in
    record {
      m = m;
      is_kind = subst (λ (x : Form). Runs sr fr or er x files script m) a (g.runs files script);
      files_are = f;
      script_left = l;
      out_taken = g.taken;
      err_taken = nothing_more err ea e;
      status_is = refl;
    }
