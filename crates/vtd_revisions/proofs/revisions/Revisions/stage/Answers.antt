use Rattle.std.proofs.Common.{◌≡◌, [], ◌++◌, length, ap, rules, ◌∙◌}
use Rattle.vtd_edits.specs.Splices.{Staged}
use Rattle.vtd_history.specs.Versions.{Version, version_of, edits_of}
use Rattle.vtd_history.specs.Steps.{staged}
use Rattle.vtd_history.specs.Chains.{Keeps}
use Rattle.vtd_revisions.specs.Timelines.{timeline_of, changed}
use Rattle.vtd_revisions.proofs.Changing.{keeps_staged, changed_to}
use Rattle.vtd_revisions.proofs.revisions.Revisions.stage.Goals as goal

pub keep-requires : goal.keep-requires
keep-requires c =
    let none : c.new.result.items ≡ [] = c.new.ensures.items in
    let count : c.len-count.result ≡ length c.args.list = search rules in
    let more : c.stage.new.self ≡ edits_of c.self.inside.edits.len
    (c.self.inside.edits.splices ++ c.args.list) = c.in_default.ensures.staged in
    let before : Version = version_of c.self.inside.document.bytes c.self.inside.edits in
    let after : Version = version_of c.self.inside.document.bytes c.stage.new.self in
    let keeps : Keeps c.self.inside.history (staged c.len-count.result c.new.result.items) before after =
    rw none (keeps_staged c.self.inside.history c.self.inside.document.bytes c.self.inside.edits c.stage.new.self c.args.list
    c.len-count.result c.self.invariant more c.stage.ensures.edits count) in
    (before, keeps)

pub returns-clause-staged : goal.returns-clause-staged
returns-clause-staged c =
    let none : c.new.result.items ≡ [] = c.new.ensures.items in
    let count : c.len-count.result ≡ length c.args.list = search rules in
    let more : c.stage.new.self ≡ edits_of c.self.inside.edits.len
    (c.self.inside.edits.splices ++ c.args.list) = c.in_default.ensures.staged in
    let before : Version = version_of c.self.inside.document.bytes c.self.inside.edits in
    let after : Version = version_of c.self.inside.document.bytes c.stage.new.self in
    let keeps : Keeps c.self.inside.history (staged c.len-count.result c.new.result.items) before after =
    rw none (keeps_staged c.self.inside.history c.self.inside.document.bytes c.self.inside.edits c.stage.new.self c.args.list
    c.len-count.result c.self.invariant more c.stage.ensures.edits count) in
    changed_to c.self.inside.history c.keep.new.self before after (c.keep.ensures.done before keeps) c.keep.ensures.undone
    ∙ ap (λ (s : Staged). changed c.self.inside.document.bytes s.splices (timeline_of c.self.inside.history before)) more
    ∙ ap (λ w. changed w.bytes (w.staged ++ c.args.list) w) c.self.view_is
