use Rattle.std.proofs.Common.{true, refl}
use Rattle.vtd_outside.proofs.Held.{set_seen}
use Rattle.vtd_outside.proofs.file_list.FileList.replace.Goals as goal

pub returns : goal.returns
returns c =
    let file = c.index_mut-file.result.now in
    set_seen c.self.inside.held.items c.args.self.now c.args.index file (record { name = file.name; body = c.args.body; is_there = true }) c.self.view_is
    c.requires c.index_mut-file.ensures.value refl
