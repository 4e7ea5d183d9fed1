use Rattle.std.proofs.Common.{◌≡◌, ◌≤◌, ℕ, List, [], length, ap, subst, ◌∙◌, arith}
use Rattle.xml_model.specs.Accepted.{IsRefusal}
use Rattle.vtd_edits.specs.Splices.{Staged}
use Rattle.vtd_history.specs.Versions.{Version, version_of, edits_of}
use Rattle.vtd_history.specs.Steps.{patched, with_range}
use Rattle.vtd_history.specs.Chains.{Keeps}
use Rattle.vtd_revisions.specs.Timelines.{timeline_of, changed}
use Rattle.vtd_revisions.proofs.Changing.{accepted_doc, keeps_patched, changed_to}
use Rattle.vtd_revisions.proofs.revisions.Revisions.patch.Goals as goal

pub keep-requires : goal.keep-requires
keep-requires c =
    let s = c.args.segment in
    let h = c.self.inside in
    let done = c.in_default.ensures in
    let after = c.try_exchange.new in
    let old_bytes : h.document.bytes ≡ c.args.self.now.bytes = ap (λ w. w.bytes) c.self.view_is in
    let fresh : c.new.result ≡ edits_of (length after.document.bytes) [] = c.new.ensures
    ∙ ap (λ (bs : List ℕ). edits_of (length bs) []) c.bytes.ensures.value in
    let high : s.end ≤ length h.document.bytes = omega (arith, ap length old_bytes, c.requires.end) in
    let none : h.edits.splices ≡ [] = ap (λ w. w.staged) c.self.view_is ∙ c.requires.none in
    let keeps : Keeps h.history (patched after.segment.start after.segment.end after.segment.bytes)
    (version_of h.document.bytes h.edits) (version_of after.document.bytes c.new.result) =
    rw (done.start, done.end, done.bytes) (keeps_patched h.history h.document.bytes after.document.bytes s.bytes s.start s.end h.edits
    c.new.result c.requires.start high none c.self.invariant
    (accepted_doc after.document.bytes after.document.words c.bytes.ensures.document) done.document fresh) in
    (version_of h.document.bytes h.edits, keeps)

pub returns-clause-patched : goal.returns-clause-patched
returns-clause-patched c =
    let s = c.args.segment in
    let h = c.self.inside in
    let done = c.in_default.ensures in
    let after = c.try_exchange.new in
    let old_bytes : h.document.bytes ≡ c.args.self.now.bytes = ap (λ w. w.bytes) c.self.view_is in
    let fresh : c.new.result ≡ edits_of (length after.document.bytes) [] = c.new.ensures
    ∙ ap (λ (bs : List ℕ). edits_of (length bs) []) c.bytes.ensures.value in
    let high : s.end ≤ length h.document.bytes = omega (arith, ap length old_bytes, c.requires.end) in
    let none : h.edits.splices ≡ [] = ap (λ w. w.staged) c.self.view_is ∙ c.requires.none in
    let before : Version = version_of h.document.bytes h.edits in
    let keeps : Keeps h.history (patched after.segment.start after.segment.end after.segment.bytes) before
    (version_of after.document.bytes c.new.result) =
    rw (done.start, done.end, done.bytes) (keeps_patched h.history h.document.bytes after.document.bytes s.bytes s.start s.end h.edits
    c.new.result c.requires.start high none c.self.invariant
    (accepted_doc after.document.bytes after.document.words c.bytes.ensures.document) done.document fresh) in
    changed_to h.history c.keep.new.self before (version_of after.document.bytes c.new.result) (c.keep.ensures.done before keeps)
    c.keep.ensures.undone
    ∙ ap (λ (e : Staged). changed after.document.bytes e.splices (timeline_of h.history before)) fresh
    ∙ ap (λ (b : List ℕ). changed b [] (timeline_of h.history before)) done.document
    ∙ ap (λ w. changed (with_range s.start s.end s.bytes w.bytes) [] w) c.self.view_is

pub returns-in-Err-clause-refused : goal.returns-in-Err-clause-refused
returns-in-Err-clause-refused c fault e =
    let s = c.args.segment in
    let old_bytes : c.self.inside.document.bytes ≡ c.args.self.now.bytes = ap (λ w. w.bytes) c.self.view_is in
    subst (λ (bs : List ℕ). IsRefusal (with_range s.start s.end s.bytes bs) fault) old_bytes (c.in-Err.ensures.refused fault e)
