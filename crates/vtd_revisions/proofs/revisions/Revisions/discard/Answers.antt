use Rattle.std.proofs.Common.{◌≡◌, ℕ, List, [], length, ap, ◌∙◌}
use Rattle.vtd_edits.specs.Splices.{Staged}
use Rattle.vtd_history.specs.Versions.{Version, version_of, edits_of}
use Rattle.vtd_history.specs.Steps.{discarded}
use Rattle.vtd_history.specs.Chains.{Keeps}
use Rattle.vtd_revisions.specs.Timelines.{timeline_of, changed}
use Rattle.vtd_revisions.proofs.Changing.{keeps_discarded, changed_to}
use Rattle.vtd_revisions.proofs.revisions.Revisions.discard.Goals as goal

pub keep-requires : goal.keep-requires
keep-requires c =
    let old : c.replace-edits.result ≡ c.self.inside.edits = cc in
    let fresh : c.replace-edits.new.dest ≡ edits_of (length c.self.inside.document.bytes) [] = c.replace-edits.ensures.after
    ∙ c.new-none.ensures ∙ ap (λ (bs : List ℕ). edits_of (length bs) []) c.bytes.ensures.value in
    let before : Version = version_of c.self.inside.document.bytes c.self.inside.edits in
    let after : Version = version_of c.self.inside.document.bytes c.replace-edits.new.dest in
    let keeps : Keeps c.self.inside.history (discarded c.replace-edits.result) before after = rw old
    (keeps_discarded c.self.inside.history c.self.inside.document.bytes c.self.inside.edits c.replace-edits.new.dest
    c.self.invariant fresh) in
    (before, keeps)

pub returns : goal.returns
returns c =
    let old : c.replace-edits.result ≡ c.self.inside.edits = cc in
    let fresh : c.replace-edits.new.dest ≡ edits_of (length c.self.inside.document.bytes) [] = c.replace-edits.ensures.after
    ∙ c.new-none.ensures ∙ ap (λ (bs : List ℕ). edits_of (length bs) []) c.bytes.ensures.value in
    let before : Version = version_of c.self.inside.document.bytes c.self.inside.edits in
    let after : Version = version_of c.self.inside.document.bytes c.replace-edits.new.dest in
    let keeps : Keeps c.self.inside.history (discarded c.replace-edits.result) before after = rw old
    (keeps_discarded c.self.inside.history c.self.inside.document.bytes c.self.inside.edits c.replace-edits.new.dest
    c.self.invariant fresh) in
    changed_to c.self.inside.history c.keep.new.self before after (c.keep.ensures.done before keeps) c.keep.ensures.undone
    ∙ ap (λ (s : Staged). changed c.self.inside.document.bytes s.splices (timeline_of c.self.inside.history before)) fresh
    ∙ ap (λ w. changed w.bytes [] w) c.self.view_is
