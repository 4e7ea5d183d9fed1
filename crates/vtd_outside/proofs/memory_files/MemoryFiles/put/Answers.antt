use Rattle.std.proofs.Common.{ap}
use Rattle.vtd_outside.specs.Objects.{BodyState, FilesState}
use Rattle.vtd_outside.proofs.Held.{slot_within, puts, puts_room, puts_new, puts_new_room, absent_err}
use Rattle.vtd_outside.proofs.memory_files.MemoryFiles.put.Goals as goal

pub replace-requires : goal.replace-requires
replace-requires c = slot_within c.self.inside.files c.args.name.now c.in-Some.index c.in-Some.ensures.some

pub returns-in-Some-clause-put : goal.returns-in-Some-clause-put
returns-in-Some-clause-put c =
    puts c.self.inside.files c.args.self.now.files _ c.args.name.now c.args.bytes.items c.in-Some.index _ c.in-Some.ensures.some
    (ap (λ (v : FilesState). v.files) c.self.view_is) c.replace.ensures
    (ap (λ (b : BodyState). b.bytes) c.of.ensures)

pub returns-in-Some-clause-room : goal.returns-in-Some-clause-room
returns-in-Some-clause-room c =
    puts_room c.self.inside.files c.args.self.now.files _ c.args.name.now c.in-Some.index 0 _ c.in-Some.ensures.some
    (ap (λ (v : FilesState). v.files) c.self.view_is) c.replace.ensures
    (ap (λ (b : BodyState). b.room) c.of.ensures)

pub returns-clause-put : goal.returns-clause-put
returns-clause-put c =
    puts_new c.push.result c.self.inside.files c.args.self.now.files _ c.args.name.now c.args.bytes.items _ c.in_default.ensures.none
    (ap (λ (v : FilesState). v.files) c.self.view_is)
    (ap (λ (b : BodyState). b.bytes) c.of-2.ensures) c.push.ensures.ok

pub returns-clause-room : goal.returns-clause-room
returns-clause-room c =
    puts_new_room c.push.result c.self.inside.files c.args.self.now.files _ c.args.name.now 0 _ c.in_default.ensures.none
    (ap (λ (v : FilesState). v.files) c.self.view_is)
    (ap (λ (b : BodyState). b.room) c.of-2.ensures) c.push.ensures.ok

pub returns-clause-absent : goal.returns-clause-absent
returns-clause-absent c =
    absent_err c.push.result c.self.inside.files c.args.self.now.files c.args.name.now c.in_default.ensures.none
    (ap (λ (v : FilesState). v.files) c.self.view_is)
