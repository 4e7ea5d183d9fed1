use Rattle.std.proofs.Common.{◌+◌, length, nat_le, ap, ◌∙◌}
use Rattle.vtd_outside.specs.Objects.{BodyState}
use Rattle.vtd_outside.proofs.Held.{body_seen}
use Rattle.vtd_outside.proofs.file_list.FileList.has_room.Goals as goal

pub returns : goal.returns
returns c =
    c.has_room.ensures
    ∙ ap (λ (b : BodyState). nat_le (length b.bytes + c.args.count) b.room)
    (body_seen c.self.inside.held.items c.args.self.now c.args.index c.index.result.now c.self.view_is c.requires c.index.ensures)
