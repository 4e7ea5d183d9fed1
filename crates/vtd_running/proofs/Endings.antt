-- How each part of a run ends, joined to the table of endings.
use Rattle.std.proofs.Common.{◌≡◌, ℕ, ◌≤◌, inl, inr, Bool, List, [], ◌++◌, length, take, drop, Option, Some, None, Ok, Err}
use Rattle.std.proofs.Common.{refl, sym, ap, ◌∙◌, subst}
use Rattle.std.proofs.lemmas.List.{append-nil}
use Rattle.std.specs.Prelude.{is_none}
use Rattle.vtd_outside.specs.Causes.{Rose, RoseAlone, is_missing}
use Rattle.vtd_outside.specs.Known.{NameMap, OpenFile}
use Rattle.vtd_outside.specs.Gathered.{Sends, GathersAll, GathersPrefix, GathersFile}
use Rattle.vtd_outside.specs.declared.Failed.{Failed}
use Rattle.vtd_outside.specs.declared.GatherFault.{GatherFault}
use Rattle.vtd_outside.specs.declared.GatherFault.TheVariants as gather
use Rattle.xml_model.specs.declared.DocFault.{DocFault}
use Rattle.xml_model.specs.Accepted.{IsRefusal}
use Rattle.vtd_lines.specs.Lines.{lines}
use Rattle.vtd_script.specs.States.{Work, State, state_of}
use Rattle.vtd_script.specs.Faults.{fault_line}
use Rattle.vtd_script.specs.Runs.{EndsKnown}
use Rattle.vtd_script.specs.declared.endings.End.{End}
use Rattle.vtd_script.proofs.Parts.{prefix_of}
use Rattle.vtd_running.specs.Form.{Form, document, generation, index_file, no_form}
use Rattle.vtd_running.specs.Statuses.{status_of}
use Rattle.vtd_script.specs.Steps.{document_limit}
use Rattle.vtd_running.specs.Meaning.{Outcome, EndsWith, RunsScript, RunsName, Runs, Ran, script_limit}
use Rattle.vtd_running.specs.Meaning.{script_long_line, document_long_line, usage_line}
use Rattle.vtd_running.specs.Meaning.{script_unread, script_unkept, script_long, carried, document_long, document_unfit, accepted}
use Rattle.vtd_running.specs.Meaning.{document_missing, document_unread, document_unkept, generated_unkept, there, words_unkept, told}
use Rattle.vtd_running.specs.Meaning.{nothing_done, only_printed}
use Rattle.vtd_running.specs.Parts.{LineSent, Begins, ReadsDocument, DocumentCause, Left}
use Rattle.vtd_running.specs.declared.reading.NoDocument.{NoDocument}
use Rattle.vtd_running.specs.declared.reading.NoDocument.TheVariants as no
use Rattle.vtd_running.specs.declared.status.Status.{Status}
use Rattle.vtd_running.specs.declared.status.Status.TheVariants as statuses

-- ---- one line

pub line_whole : (rose : Type 0) (line whole : List ℕ) (status : Status) (sent : List ℕ) (x : Unit {0}) (before after : Option (List ℕ))
    → before ≡ Some sent
    → whole ≡ line → Sends {E = Failed} before after whole (Ok x) → LineSent rose line status sent after status
line_whole rose line whole status sent x before after t l w =
    let Q : Option (List ℕ) → Type 0 = λ o. Sends {E = Failed} o after whole (Ok x) in
    by after (subst Q t w)
  where
    by : (after : Option (List ℕ)) → Sends {E = Failed} (Some sent) after whole (Ok x) → LineSent rose line status sent after status
    by None w = absurd w
    by (Some a) w = record { sent = whole; taken = ap (λ (xs : List ℕ). Some xs) w; ends = inl (l, refl) }

pub line_part : (rose : Type 0) (line whole : List ℕ) (status : Status) (sent : List ℕ) (x : Failed) (before after : Option (List ℕ)) → before ≡ Some sent
    → whole ≡ line → Sends {T = Unit {0}} before after whole (Err x) → rose → LineSent rose line status sent after statuses.WriteFault
line_part rose line whole status sent x before after t l w o =
    let Q : Option (List ℕ) → Type 0 = λ o. Sends {T = Unit {0}} o after whole (Err x) in
    by after (subst Q t w)
  where
    by : (after : Option (List ℕ)) → Sends {T = Unit {0}} (Some sent) after whole (Err x) → LineSent rose line status sent after statuses.WriteFault
    by None w = absurd w
    by (Some a) w = record {
      sent = take w.count whole;
      taken = ap (λ (xs : List ℕ). Some xs) w.taken;
      ends = inr
          (prefix_of w.count whole line l, o, refl);
    }

pub nothing_more : (before : List ℕ) (o : Option (List ℕ)) → o ≡ Some before → o ≡ Some (before ++ [])
nothing_more before o e = e ∙ ap (λ (xs : List ℕ). Some xs) (sym (append-nil before))

-- ---- a script

pub script_carried : (sr fr or : Type 0) (keep : Bool) (s : State) (script bytes : List ℕ) (left_before left_after : Option (List ℕ))
    (files_after : Option NameMap)
    (sent : List ℕ) (out_after : Option (List ℕ)) (end : End) (result : Status) → left_before ≡ Some script
    → GathersAll script_limit left_before left_after bytes
    → EndsKnown fr or keep s (lines bytes) end files_after sent out_after → result ≡ status_of end
    → Left (RunsScript sr fr or keep s script) files_after left_after sent out_after result
script_carried sr fr or keep s script bytes lb la fa sent oa end result e h k r =
    let P : Option (List ℕ) → Type 0 = λ o. GathersAll script_limit o la bytes in
    by la (subst P e h)
  where
    by : (la : Option (List ℕ)) → GathersAll script_limit (Some script) la bytes → Left (RunsScript sr fr or keep s script) fa la sent oa result
    by None h = absurd h
    by (Some left) h =
        let Q : List ℕ → Type 0 = λ b. EndsKnown fr or keep s (lines b) end fa sent oa in
        let known = subst Q h.0 k in
        record {
          m = only_printed known.out known.files [] (status_of end);
          is_kind = carried h.2 end known.out known.files known.ends;
          files_are = known.files_are;
          script_left = ap (λ (xs : List ℕ). Some xs) h.1;
          taken = known.taken;
          silent = refl;
          status_is = r;
        }

pub script_failed : (sr fr or : Type 0) (keep : Bool) (s : State) (script : List ℕ) (left_before left_after : Option (List ℕ))
    (files_after : Option NameMap)
    (sent : List ℕ) (out_after : Option (List ℕ)) (fault : GatherFault) → left_before ≡ Some script
    → GathersPrefix script_limit left_before left_after fault → fault ≡ gather.Failed
    → sr → files_after ≡ Some s.files → out_after ≡ Some sent
    → Left (RunsScript sr fr or keep s script) files_after left_after sent out_after statuses.ReadFault
script_failed sr fr or keep s script lb la fa sent oa fault e h is rose f t =
    let P : Option (List ℕ) → Type 0 = λ o. GathersPrefix script_limit o la gather.Failed in
    let F : GatherFault → Type 0 = λ x. GathersPrefix script_limit lb la x in
    by la (subst P e (subst F is h))
  where
    by : (la : Option (List ℕ)) → GathersPrefix script_limit (Some script) la gather.Failed
        → Left (RunsScript sr fr or keep s script) fa la sent oa statuses.ReadFault
    by None h = absurd h
    by (Some left) h = record {
      m = nothing_done s.files left statuses.ReadFault;
      is_kind = script_unread left h rose;
      files_are = f;
      script_left = refl;
      taken = nothing_more sent oa t;
      silent = refl;
      status_is = refl;
    }

pub script_no_memory : (sr fr or : Type 0) (keep : Bool) (s : State) (script : List ℕ) (left_before left_after : Option (List ℕ))
    (files_after : Option NameMap)
    (sent : List ℕ) (out_after : Option (List ℕ)) (fault : GatherFault) → left_before ≡ Some script
    → GathersPrefix script_limit left_before left_after fault → fault ≡ gather.NoMemory
    → files_after ≡ Some s.files → out_after ≡ Some sent → Left (RunsScript sr fr or keep s script) files_after left_after sent out_after statuses.NoMemory
script_no_memory sr fr or keep s script lb la fa sent oa fault e h is f t =
    let P : Option (List ℕ) → Type 0 = λ o. GathersPrefix script_limit o la gather.NoMemory in
    let F : GatherFault → Type 0 = λ x. GathersPrefix script_limit lb la x in
    by la (subst P e (subst F is h))
  where
    by : (la : Option (List ℕ)) → GathersPrefix script_limit (Some script) la gather.NoMemory
        → Left (RunsScript sr fr or keep s script) fa la sent oa statuses.NoMemory
    by None h = absurd h
    by (Some left) h = record {
      m = nothing_done s.files left statuses.NoMemory;
      is_kind = script_unkept left h;
      files_are = f;
      script_left = refl;
      taken = nothing_more sent oa t;
      silent = refl;
      status_is = refl;
    }

pub script_too_long : (sr fr or : Type 0) (keep : Bool) (s : State) (script : List ℕ) (left_before left_after : Option (List ℕ))
    (files_after : Option NameMap)
    (sent : List ℕ) (out_after : Option (List ℕ)) (fault : GatherFault) (result : Status) → left_before ≡ Some script
    → GathersPrefix script_limit left_before left_after fault
    → fault ≡ gather.Long → files_after ≡ Some s.files → LineSent or script_long_line statuses.Refused sent out_after result
    → Left (RunsScript sr fr or keep s script) files_after left_after sent out_after result
script_too_long sr fr or keep s script lb la fa sent oa fault result e h is f l =
    let P : Option (List ℕ) → Type 0 = λ o. GathersPrefix script_limit o la gather.Long in
    let F : GatherFault → Type 0 = λ x. GathersPrefix script_limit lb la x in
    by la (subst P e (subst F is h))
  where
    by : (la : Option (List ℕ)) → GathersPrefix script_limit (Some script) la gather.Long → Left (RunsScript sr fr or keep s script) fa la sent oa result
    by None h = absurd h
    by (Some left) h = record {
      m = only_printed l.sent s.files (drop 16_777_217 script) result;
      is_kind = script_long h.0 l.sent result l.ends;
      files_are = f;
      script_left = ap (λ (xs : List ℕ). Some xs) h.1;
      taken = l.taken;
      silent = refl;
      status_is = refl;
    }

-- ---- a document

pub reads_unfit : (known : Option NameMap) (files : NameMap) (name : List ℕ) (opened : Option OpenFile) (bytes : List ℕ) (fault : DocFault)
    → known ≡ Some files
    → GathersFile known name opened bytes → length bytes ≤ document_limit → IsRefusal bytes fault → ReadsDocument files name (Err (no.Unfit fault))
reads_unfit known files name opened bytes fault k g l r =
    let P : Option NameMap → Type 0 = λ o. GathersFile o name opened bytes in
    (bytes, (subst P k g).0, l, r)

-- the counts of the files stayed while the document was read
pub name_begun : (sr or : Type 0) (p0 p1 p2 : ℕ) (keep : Bool) (files : NameMap) (name script : List ℕ) (work : Work) (files_after : Option NameMap)
    (left_after : Option (List ℕ)) (sent : List ℕ) (out_after : Option (List ℕ)) (status : Status) → p1 ≡ p0 → Begins files name work
    → Left (RunsScript sr (Rose p1 p2) or keep (state_of work files) script) files_after left_after sent out_after status
    → Left (RunsName sr (Rose p0 p2) or keep files name script) files_after left_after sent out_after status
name_begun sr or p0 p1 p2 keep files name script work fa la sent oa status p b l =
    let P : ℕ → Type 0 = λ n. RunsScript sr (Rose n p2) or keep (state_of work files) script l.m in
    let Q : Work → Type 0 = λ w. RunsScript sr (Rose p0 p2) or keep (state_of w files) script l.m in
    record {
      m = l.m;
      is_kind = there b.bytes b.there l.m (accepted b.within b.nest b.accepted l.m (subst Q b.first (subst P p l.is_kind)));
      files_are = l.files_are;
      script_left = l.script_left;
      taken = l.taken;
      silent = l.silent;
      status_is = l.status_is;
    }

pub done_nothing : (kind : Outcome → Type 0) (files : NameMap) (script sent : List ℕ) (files_after : Option NameMap) (left_after out_after : Option (List ℕ))
    (status : Status) → kind (nothing_done files script status) → files_after ≡ Some files → left_after ≡ Some script → out_after ≡ Some sent
    → Left kind files_after left_after sent out_after status
done_nothing kind files script sent fa la oa status k f l t = record {
  m = nothing_done files script status;
  is_kind = k;
  files_are = f;
  script_left = l;
  taken = nothing_more sent oa t;
  silent = refl;
  status_is = refl;
}

pub name_failed : (sr or : Type 0) (missed_before missed proper_before proper : ℕ) (keep : Bool) (known : Option NameMap) (files : NameMap)
    (name script : List ℕ) (fault : NoDocument) (files_after : Option NameMap) (left_after : Option (List ℕ)) (sent : List ℕ) (out_after : Option (List ℕ))
    → known ≡ Some files → fault ≡ no.Failed → DocumentCause (is_missing known name) missed_before missed proper_before proper (Err fault)
    → files_after ≡ Some files → left_after ≡ Some script → out_after ≡ Some sent
    → Left (RunsName sr (Rose proper_before proper) or keep files name script) files_after left_after sent out_after statuses.FileFault
name_failed sr or mb m pb p keep known files name script fault fa la sent oa k is h f l t =
    let P : Option NameMap → Type 0 = λ o. DocumentCause (is_missing o name) mb m pb p (Err fault) in
    let Q : NoDocument → Type 0 = λ x. DocumentCause (is_none (files name)) mb m pb p (Err x) in
    done_nothing (RunsName sr (Rose pb p) or keep files name script) files script sent fa la oa statuses.FileFault
    (by (files name) refl (subst Q is (subst P k h))) f l t
  where
    by : (file : Option (List ℕ)) → files name ≡ file → RoseAlone (is_none file) mb m pb p
        → RunsName sr (Rose pb p) or keep files name script (nothing_done files script statuses.FileFault)
    by None e r = document_missing e
    by (Some bytes) e r = document_unread r.1

pub name_no_memory : (sr fr or : Type 0) (keep : Bool) (files : NameMap) (name script : List ℕ) (files_after : Option NameMap)
    (left_after : Option (List ℕ)) (sent : List ℕ) (out_after : Option (List ℕ)) → files_after ≡ Some files → left_after ≡ Some script
    → out_after ≡ Some sent
    → Left (RunsName sr fr or keep files name script) files_after left_after sent out_after statuses.NoMemory
name_no_memory sr fr or keep files name script fa la sent oa f l t =
    done_nothing (RunsName sr fr or keep files name script) files script sent fa la oa statuses.NoMemory document_unkept f l t

pub name_too_long : (sr fr or : Type 0) (keep : Bool) (files : NameMap) (name script : List ℕ) (fault : NoDocument) (files_after : Option NameMap)
    (left_after : Option (List ℕ)) (sent : List ℕ) (out_after : Option (List ℕ)) (status : Status) → fault ≡ no.Long → ReadsDocument files name (Err fault)
    → LineSent or document_long_line statuses.Refused sent out_after status → files_after ≡ Some files → left_after ≡ Some script
    → Left (RunsName sr fr or keep files name script) files_after left_after sent out_after status
name_too_long sr fr or keep files name script fault fa la sent oa status is r s f l =
    let P : NoDocument → Type 0 = λ x. ReadsDocument files name (Err x) in
    let d = subst P is r in
    record {
      m = only_printed s.sent files script status;
      is_kind = there d.0 d.1 (only_printed s.sent files script status) (document_long d.2 s.sent status s.ends);
      files_are = f;
      script_left = l;
      taken = s.taken;
      silent = refl;
      status_is = refl;
    }

pub name_unfit : (sr fr or : Type 0) (keep : Bool) (files : NameMap) (name script line : List ℕ) (fault : NoDocument) (why : DocFault)
    (files_after : Option NameMap) (left_after : Option (List ℕ)) (sent : List ℕ) (out_after : Option (List ℕ)) (status : Status) → fault ≡ no.Unfit why
    → ReadsDocument files name (Err fault) → line ≡ fault_line why → LineSent or line statuses.Refused sent out_after status → files_after ≡ Some files
    → left_after ≡ Some script → Left (RunsName sr fr or keep files name script) files_after left_after sent out_after status
name_unfit sr fr or keep files name script line fault why fa la sent oa status is r e s f l =
    let P : NoDocument → Type 0 = λ x. ReadsDocument files name (Err x) in
    let d = subst P is r in
    let Q : List ℕ → Type 0 = λ x. EndsWith or x statuses.Refused s.sent status in
    record {
      m = only_printed s.sent files script status;
      is_kind = there d.0 d.1 (only_printed s.sent files script status) (document_unfit d.2 why d.3 s.sent status (subst Q e s.ends));
      files_are = f;
      script_left = l;
      taken = s.taken;
      silent = refl;
      status_is = refl;
    }

-- ---- words

pub ran_document : (sr fr or er : Type 0) (asked : Form) (name : List ℕ) (keep : Bool) (files : NameMap) (script : List ℕ) (files_after : Option NameMap)
    (left_after : Option (List ℕ)) (out : List ℕ) (out_after : Option (List ℕ)) (err : List ℕ) (err_after : Option (List ℕ)) (status : Status)
    → document name keep ≡ asked → Left (RunsName sr fr or keep files name script) files_after left_after out out_after status → err_after ≡ Some err
    → Ran (Runs sr fr or er asked files script) files_after left_after out out_after err err_after status
ran_document sr fr or er asked name keep files script fa la out oa err ea status a l e =
    let P : Form → Type 0 = λ x. Runs sr fr or er x files script l.m in
    record {
      m = l.m;
      is_kind = subst P a l.is_kind;
      files_are = l.files_are;
      script_left = l.script_left;
      out_taken = l.taken;
      err_taken = nothing_more err ea e ∙ ap (λ (xs : List ℕ). Some (err ++ xs)) (sym l.silent);
      status_is = l.status_is;
    }

pub ran_usage : (sr fr or er : Type 0) (asked : Form) (files : NameMap) (script : List ℕ) (files_after : Option NameMap) (left_after : Option (List ℕ))
    (out : List ℕ) (out_after : Option (List ℕ)) (err : List ℕ) (err_after : Option (List ℕ)) (status : Status) → no_form ≡ asked
    → LineSent er usage_line statuses.Usage err err_after status → files_after ≡ Some files → left_after ≡ Some script → out_after ≡ Some out
    → Ran (Runs sr fr or er asked files script) files_after left_after out out_after err err_after status
ran_usage sr fr or er asked files script fa la out oa err ea status a s f l t =
    let P : Form → Type 0 = λ x. Runs sr fr or er x files script (record { out = []; err = s.sent; files = files; left = script; status = status }) in
    record {
      m = record { out = []; err = s.sent; files = files; left = script; status = status };
      is_kind = subst P a (told s.sent status s.ends);
      files_are = f;
      script_left = l;
      out_taken = nothing_more out oa t;
      err_taken = s.taken;
      status_is = refl;
    }

pub ran_no_memory : (sr fr or er : Type 0) (asked : Form) (files : NameMap) (script : List ℕ) (files_after : Option NameMap) (left_after : Option (List ℕ))
    (out : List ℕ) (out_after : Option (List ℕ)) (err : List ℕ) (err_after : Option (List ℕ)) → files_after ≡ Some files → left_after ≡ Some script
    → out_after ≡ Some out → err_after ≡ Some err → Ran
    (Runs sr fr or er asked files script) files_after left_after out out_after err err_after statuses.NoMemory
ran_no_memory sr fr or er asked files script fa la out oa err ea f l t e = record {
  m = nothing_done files script statuses.NoMemory;
  is_kind = by asked;
  files_are = f;
  script_left = l;
  out_taken = nothing_more out oa t;
  err_taken = nothing_more err ea e;
  status_is = refl;
}
  where
    by : (asked : Form) → Runs sr fr or er asked files script (nothing_done files script statuses.NoMemory)
    by (document name keep) = document_unkept
    by (index_file name keep) = document_unkept
    by (generation count) = generated_unkept
    by no_form = words_unkept
