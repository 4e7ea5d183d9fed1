-- How each part of a run over an index file ends, joined to the table of endings.
use Rattle.std.proofs.Common.{◌≡◌, ℕ, ◌≤◌, Bool, List, ◌++◌, length, Option, Some, None, Ok, Err}
use Rattle.std.proofs.Common.{refl, sym, ap, ◌∙◌, subst}
use Rattle.std.specs.Prelude.{is_none}
use Rattle.vtd_words.specs.Numbers.{AreBytes}
use Rattle.vtd_index.specs.Index.{IsFault}
use Rattle.vtd_documents.specs.Loads.{IsFileOf}
use Rattle.vtd_index.specs.declared.faults.IndexFault.{IndexFault}
use Rattle.vtd_outside.specs.Causes.{Rose, RoseAlone, is_missing}
use Rattle.vtd_outside.specs.Known.{NameMap, OpenFile}
use Rattle.vtd_outside.specs.Gathered.{GathersFile}
use Rattle.vtd_script.specs.States.{Work, first_work, state_of, refused_line}
use Rattle.vtd_script.specs.Steps.{index_limit, index_refusal}
use Rattle.vtd_running.specs.Form.{Form, index_file}
use Rattle.vtd_running.specs.Meaning.{EndsWith, RunsScript, RunsIndexName, Runs, Ran, document_long_line}
use Rattle.vtd_running.specs.Meaning.{document_missing, document_unread, document_unkept, index_accepted, index_long, index_unfit, there}
use Rattle.vtd_running.specs.Meaning.{nothing_done, only_printed}
use Rattle.vtd_running.specs.Parts.{BeginsIndex, IndexCause, Left, LineSent, ReadsIndex}
use Rattle.vtd_running.specs.declared.indexes.NoIndex.{NoIndex}
use Rattle.vtd_running.specs.declared.indexes.NoIndex.TheVariants as no
use Rattle.vtd_running.specs.declared.status.Status.{Status}
use Rattle.vtd_running.specs.declared.status.Status.TheVariants as statuses
use Rattle.vtd_running.proofs.Endings.{done_nothing, nothing_more}

pub reads_index : (known : Option NameMap) (files : NameMap) (name : List ℕ) (opened : Option OpenFile) (file : List ℕ) (work : Work)
    → known ≡ Some files → GathersFile known name opened file → length file ≤ index_limit → AreBytes file → IsFileOf file work.bytes
    → work ≡ first_work work.bytes → ReadsIndex files name (Ok work)
reads_index known files name opened file work k g l y i f =
    let P : Option NameMap → Type 0 = λ o. GathersFile o name opened file in
    record { file = file; there = (subst P k g).0; within = l; of_bytes = y; index = i; first = f }

pub reads_no_index : (known : Option NameMap) (files : NameMap) (name : List ℕ) (opened : Option OpenFile) (file : List ℕ) (fault : IndexFault)
    → known ≡ Some files → GathersFile known name opened file → length file ≤ index_limit → AreBytes file → IsFault file fault
    → ReadsIndex files name (Err (no.Unfit fault))
reads_no_index known files name opened file fault k g l y r =
    let P : Option NameMap → Type 0 = λ o. GathersFile o name opened file in
    (file, (subst P k g).0, l, y, r)

-- the counts of the files stayed while the index file was read
pub index_begun : (sr or : Type 0) (p0 p1 p2 : ℕ) (keep : Bool) (files : NameMap) (name script : List ℕ) (work : Work) (files_after : Option NameMap)
    (left_after : Option (List ℕ)) (sent : List ℕ) (out_after : Option (List ℕ)) (status : Status) → p1 ≡ p0 → BeginsIndex files name work
    → Left (RunsScript sr (Rose p1 p2) or keep (state_of work files) script) files_after left_after sent out_after status
    → Left (RunsIndexName sr (Rose p0 p2) or keep files name script) files_after left_after sent out_after status
index_begun sr or p0 p1 p2 keep files name script work fa la sent oa status p b l =
    let P : ℕ → Type 0 = λ n. RunsScript sr (Rose n p2) or keep (state_of work files) script l.m in
    let Q : Work → Type 0 = λ w. RunsScript sr (Rose p0 p2) or keep (state_of w files) script l.m in
    record {
      m = l.m;
      is_kind = there b.file b.there l.m (index_accepted b.within b.of_bytes work.bytes b.index l.m (subst Q b.first (subst P p l.is_kind)));
      files_are = l.files_are;
      script_left = l.script_left;
      taken = l.taken;
      silent = l.silent;
      status_is = l.status_is;
    }

pub index_failed : (sr or : Type 0) (missed_before missed proper_before proper : ℕ) (keep : Bool) (known : Option NameMap) (files : NameMap)
    (name script : List ℕ) (fault : NoIndex) (files_after : Option NameMap) (left_after : Option (List ℕ)) (sent : List ℕ) (out_after : Option (List ℕ))
    → known ≡ Some files → fault ≡ no.Failed → IndexCause (is_missing known name) missed_before missed proper_before proper (Err fault)
    → files_after ≡ Some files → left_after ≡ Some script → out_after ≡ Some sent
    → Left (RunsIndexName sr (Rose proper_before proper) or keep files name script) files_after left_after sent out_after statuses.FileFault
index_failed sr or mb m pb p keep known files name script fault fa la sent oa k is h f l t =
    let P : Option NameMap → Type 0 = λ o. IndexCause (is_missing o name) mb m pb p (Err fault) in
    let Q : NoIndex → Type 0 = λ x. IndexCause (is_none (files name)) mb m pb p (Err x) in
    done_nothing (RunsIndexName sr (Rose pb p) or keep files name script) files script sent fa la oa statuses.FileFault
    (by (files name) refl (subst Q is (subst P k h))) f l t
  where
    by : (file : Option (List ℕ)) → files name ≡ file → RoseAlone (is_none file) mb m pb p
        → RunsIndexName sr (Rose pb p) or keep files name script (nothing_done files script statuses.FileFault)
    by None e r = document_missing e
    by (Some bytes) e r = document_unread r.1

pub index_no_memory : (sr fr or : Type 0) (keep : Bool) (files : NameMap) (name script : List ℕ) (files_after : Option NameMap)
    (left_after : Option (List ℕ)) (sent : List ℕ) (out_after : Option (List ℕ)) → files_after ≡ Some files → left_after ≡ Some script
    → out_after ≡ Some sent
    → Left (RunsIndexName sr fr or keep files name script) files_after left_after sent out_after statuses.NoMemory
index_no_memory sr fr or keep files name script fa la sent oa f l t =
    done_nothing (RunsIndexName sr fr or keep files name script) files script sent fa la oa statuses.NoMemory document_unkept f l t

pub index_too_long : (sr fr or : Type 0) (keep : Bool) (files : NameMap) (name script : List ℕ) (fault : NoIndex) (files_after : Option NameMap)
    (left_after : Option (List ℕ)) (sent : List ℕ) (out_after : Option (List ℕ)) (status : Status) → fault ≡ no.Long → ReadsIndex files name (Err fault)
    → LineSent or document_long_line statuses.Refused sent out_after status → files_after ≡ Some files → left_after ≡ Some script
    → Left (RunsIndexName sr fr or keep files name script) files_after left_after sent out_after status
index_too_long sr fr or keep files name script fault fa la sent oa status is r s f l =
    let P : NoIndex → Type 0 = λ x. ReadsIndex files name (Err x) in
    let d = subst P is r in
    record {
      m = only_printed s.sent files script status;
      is_kind = there d.0 d.1 (only_printed s.sent files script status) (index_long d.2 s.sent status s.ends);
      files_are = f;
      script_left = l;
      taken = s.taken;
      silent = refl;
      status_is = refl;
    }

pub index_unfit_line : (sr fr or : Type 0) (keep : Bool) (files : NameMap) (name script line : List ℕ) (fault : NoIndex) (why : IndexFault)
    (files_after : Option NameMap) (left_after : Option (List ℕ)) (sent : List ℕ) (out_after : Option (List ℕ)) (status : Status) → fault ≡ no.Unfit why
    → ReadsIndex files name (Err fault) → line ≡ refused_line (index_refusal why) → LineSent or line statuses.Refused sent out_after status
    → files_after ≡ Some files → left_after ≡ Some script → Left (RunsIndexName sr fr or keep files name script) files_after left_after sent out_after status
index_unfit_line sr fr or keep files name script line fault why fa la sent oa status is r e s f l =
    let P : NoIndex → Type 0 = λ x. ReadsIndex files name (Err x) in
    let d = subst P is r in
    let Q : List ℕ → Type 0 = λ x. EndsWith or x statuses.Refused s.sent status in
    record {
      m = only_printed s.sent files script status;
      is_kind = there d.0 d.1 (only_printed s.sent files script status) (index_unfit d.2 d.3 why d.4 s.sent status (subst Q e s.ends));
      files_are = f;
      script_left = l;
      taken = s.taken;
      silent = refl;
      status_is = refl;
    }

pub ran_index : (sr fr or er : Type 0) (asked : Form) (name : List ℕ) (keep : Bool) (files : NameMap) (script : List ℕ) (files_after : Option NameMap)
    (left_after : Option (List ℕ)) (out : List ℕ) (out_after : Option (List ℕ)) (err : List ℕ) (err_after : Option (List ℕ)) (status : Status)
    → index_file name keep ≡ asked → Left (RunsIndexName sr fr or keep files name script) files_after left_after out out_after status
    → err_after ≡ Some err → Ran (Runs sr fr or er asked files script) files_after left_after out out_after err err_after status
ran_index sr fr or er asked name keep files script fa la out oa err ea status a l e =
    let P : Form → Type 0 = λ x. Runs sr fr or er x files script l.m in
    record {
      m = l.m;
      is_kind = subst P a l.is_kind;
      files_are = l.files_are;
      script_left = l.script_left;
      out_taken = l.taken;
      err_taken = nothing_more err ea e ∙ ap (λ (xs : List ℕ). Some (err ++ xs)) (sym l.silent);
      status_is = l.status_is;
    }
