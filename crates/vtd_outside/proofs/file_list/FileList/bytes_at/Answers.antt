use Rattle.std.proofs.Common.{ap, ◌∙◌}
use Rattle.vtd_outside.specs.Objects.{BodyState}
use Rattle.vtd_outside.proofs.Held.{body_seen}
use Rattle.vtd_outside.proofs.file_list.FileList.bytes_at.Goals as goal

pub returns : goal.returns
returns c =
    c.as_slice.ensures
    ∙ ap (λ (b : BodyState). b.bytes) (body_seen c.self.inside.held.items c.args.self.now c.args.index c.index.result.now c.self.view_is c.requires
    c.index.ensures)
