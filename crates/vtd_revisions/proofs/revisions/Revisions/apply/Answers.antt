use Rattle.std.proofs.Common.{◌≡◌, ℕ, List, [], length, ap, sym, ◌∙◌}
use Rattle.vtd_edits.specs.Splices.{Staged}
use Rattle.vtd_history.specs.Versions.{Version, version_of, edits_of, IsAcceptedDocument}
use Rattle.vtd_history.specs.Steps.{applied}
use Rattle.vtd_history.specs.Chains.{Keeps}
use Rattle.vtd_revisions.specs.Timelines.{timeline_of, changed}
use Rattle.vtd_revisions.proofs.Changing.{accepted_doc, keeps_applied, changed_to}
use Rattle.vtd_revisions.proofs.revisions.Revisions.apply.Goals as goal

pub keep-requires : goal.keep-requires
keep-requires c =
    let old : c.replace-edits.result ≡ c.self.inside.edits = cc in
    let old_document : c.replace-document.result ≡ c.self.inside.document = cc in
    let new_document : c.replace-document.new.dest ≡ c.args.document = cc in
    let fresh : c.replace-edits.new.dest ≡ edits_of (length c.replace-document.new.dest.bytes) [] = c.replace-edits.ensures.after
    ∙ c.new-none.ensures ∙ ap (λ (bs : List ℕ). edits_of (length bs) [])
    (c.bytes.ensures.value ∙ sym (ap (λ d. d.bytes) new_document)) in
    let is_document : IsAcceptedDocument c.replace-document.new.dest.bytes = rw new_document
    (accepted_doc c.args.document.bytes c.args.document.words c.bytes.ensures.document) in
    let before : Version = version_of c.self.inside.document.bytes c.self.inside.edits in
    let after : Version = version_of c.replace-document.new.dest.bytes c.replace-edits.new.dest in
    let keeps : Keeps c.self.inside.history (applied c.replace-document.result.bytes c.replace-edits.result) before after =
    rw (old, old_document) (keeps_applied c.self.inside.history c.self.inside.document.bytes c.replace-document.new.dest.bytes
    c.self.inside.edits c.replace-edits.new.dest c.self.invariant is_document fresh) in
    (before, keeps)

pub returns : goal.returns
returns c =
    let old : c.replace-edits.result ≡ c.self.inside.edits = cc in
    let old_document : c.replace-document.result ≡ c.self.inside.document = cc in
    let new_document : c.replace-document.new.dest ≡ c.args.document = cc in
    let fresh : c.replace-edits.new.dest ≡ edits_of (length c.replace-document.new.dest.bytes) [] = c.replace-edits.ensures.after
    ∙ c.new-none.ensures ∙ ap (λ (bs : List ℕ). edits_of (length bs) [])
    (c.bytes.ensures.value ∙ sym (ap (λ d. d.bytes) new_document)) in
    let is_document : IsAcceptedDocument c.replace-document.new.dest.bytes = rw new_document
    (accepted_doc c.args.document.bytes c.args.document.words c.bytes.ensures.document) in
    let before : Version = version_of c.self.inside.document.bytes c.self.inside.edits in
    let after : Version = version_of c.replace-document.new.dest.bytes c.replace-edits.new.dest in
    let keeps : Keeps c.self.inside.history (applied c.replace-document.result.bytes c.replace-edits.result) before after =
    rw (old, old_document) (keeps_applied c.self.inside.history c.self.inside.document.bytes c.replace-document.new.dest.bytes
    c.self.inside.edits c.replace-edits.new.dest c.self.invariant is_document fresh) in
    changed_to c.self.inside.history c.keep.new.self before after (c.keep.ensures.done before keeps) c.keep.ensures.undone
    ∙ ap (λ (s : Staged). changed c.replace-document.new.dest.bytes s.splices (timeline_of c.self.inside.history before)) fresh
    ∙ ap (λ d. changed d.bytes [] (timeline_of c.self.inside.history before)) new_document
    ∙ ap (changed c.args.document.bytes []) c.self.view_is
