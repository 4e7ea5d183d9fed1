use Rattle.std.proofs.Common.{◌∙◌}
use Rattle.vtd_history.specs.Versions.{version_at}
use Rattle.vtd_revisions.proofs.Changing.{done_length}
use Rattle.vtd_revisions.proofs.revisions.Revisions.done.Goals as goal

pub returns : goal.returns
returns c =
    let h = c.self.inside in
    c.done.ensures ∙ done_length h.history (version_at h.document h.edits) c.args.self.now c.self.invariant c.self.view_is
