use Rattle.std.proofs.Common.{◌∙◌}
use Rattle.vtd_history.specs.Versions.{version_at}
use Rattle.vtd_revisions.proofs.Changing.{undone_length}
use Rattle.vtd_revisions.proofs.revisions.Revisions.undone.Goals as goal

pub returns : goal.returns
returns c =
    let h = c.self.inside in
    c.undone.ensures ∙ undone_length h.history (version_at h.document h.edits) c.args.self.now c.self.invariant c.self.view_is
