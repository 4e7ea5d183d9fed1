use Rattle.std.proofs.Common.{refl}
use Rattle.vtd_outside.proofs.Held.{room_seen}
use Rattle.vtd_outside.proofs.file_list.FileList.prepare.Goals as goal

pub returns-clause-ok : goal.returns-clause-ok
returns-clause-ok c =
    let file = c.index_mut.result.now in
    room_seen c.prepare.result c.self.inside.held.items c.args.self.now c.args.index file
    (record { name = file.name; body = c.prepare.new.self; is_there = file.is_there }) c.args.room c.self.view_is c.requires c.index_mut.ensures.value refl refl
    c.prepare.ensures.ok
