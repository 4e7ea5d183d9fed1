use Rattle.std.proofs.Common.{true, [], refl, ap, ◌∙◌}
use Rattle.vtd_outside.specs.Objects.{BodyState}
use Rattle.vtd_outside.specs.Held.{with_body}
use Rattle.vtd_outside.proofs.Held.{set_seen, body_seen}
use Rattle.vtd_outside.proofs.file_list.FileList.clear.Goals as goal

pub returns : goal.returns
returns c =
    let file = c.index_mut-file.result.now in
    let e = body_seen c.self.inside.held.items c.args.self.now c.args.index file c.self.view_is c.requires c.index_mut-file.ensures.value in
    set_seen c.self.inside.held.items c.args.self.now c.args.index file (record { name = file.name; body = c.clear.new.self; is_there = true }) c.self.view_is
    c.requires c.index_mut-file.ensures.value refl
    ∙ ap (λ (b : BodyState). with_body c.args.self.now c.args.index b true) (c.clear.ensures ∙ ap (λ (b : BodyState). record { bytes = []; room = b.room }) e)
