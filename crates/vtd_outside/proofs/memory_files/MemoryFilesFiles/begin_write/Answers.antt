use Rattle.std.proofs.Common.{ap, refl, sym, inr, ◌∙◌}
use Rattle.vtd_outside.specs.Objects.{FilesState, is_listed}
use Rattle.vtd_outside.proofs.Held.{slot_within, room_stays_by, is_room, is_no_room}
use Rattle.vtd_outside.proofs.Activities.{active_after, begins_write, fails_if, fails_not}
use Rattle.vtd_outside.proofs.memory_files.MemoryFilesFiles.begin_write.Goals as goal

pub clear-requires : goal.clear-requires
clear-requires c = slot_within c.self.inside.files c.args.name.now c.in-Some.file c.in-Some.ensures.some

pub invariant_of-self-2 : goal.invariant_of-self-2
invariant_of-self-2 c =
    (active_after c.self.inside.files _ c.args.name.now c.in-Some.file _ _ c.in-Some.ensures.some c.clear.ensures, rw c.fails.ensures.piece c.self.invariant.1)

pub returns-clause-begins : goal.returns-clause-begins
returns-clause-begins c =
    begins_write c.self.inside.files c.args.self.now.files _ c.args.name.now c.in-Some.file _ c.in-Some.ensures.some
    (ap (λ (v : FilesState). v.files) c.self.view_is) c.clear.ensures refl

pub returns-clause-room_stays : goal.returns-clause-room_stays
returns-clause-room_stays c =
    room_stays_by c.self.inside.files c.args.self.now.files _ c.in-Some.file _ _ (ap (λ (v : FilesState). v.files) c.self.view_is) c.clear.ensures refl

pub returns-in_default-clause-fails : goal.returns-in_default-clause-fails
returns-in_default-clause-fails c =
    fails_if _ _ (inr (is_no_room c.self.inside.files c.args.self.now.files c.args.name.now c.in_default.ensures.none
    (ap (λ (v : FilesState). v.files) c.self.view_is)))

pub returns-clause-fails : goal.returns-clause-fails
returns-clause-fails c =
    fails_not _ _ (sym (ap (λ (v : FilesState). is_listed v.calls) c.self.view_is) ∙ sym c.fails.ensures.answer ∙ c.if-fails.false)
    (is_room c.self.inside.files c.args.self.now.files c.args.name.now c.in-Some.file c.in-Some.ensures.some (ap (λ (v : FilesState). v.files) c.self.view_is))
