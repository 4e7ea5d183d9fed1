use Rattle.std.proofs.Common.{max, ap, ◌∙◌}
use Rattle.vtd_outside.specs.Objects.{BodyState, FilesState, lookup}
use Rattle.vtd_outside.proofs.Held.{slot_within, prepared_room, added_room}
use Rattle.vtd_outside.proofs.Activities.{alike_active, prepared_alike, prepared_lookup, added_alike, added_lookup, rest_stays}
use Rattle.vtd_outside.proofs.memory_files.MemoryFiles.prepare.Goals as goal

pub prepare-requires : goal.prepare-requires
prepare-requires c = slot_within c.self.inside.files c.args.name.now c.in-Some.index c.in-Some.ensures.some

pub invariant_of-self : goal.invariant_of-self
invariant_of-self c = (
  alike_active c.self.inside.files _ c.self.inside.activity (prepared_alike c.prepare.result _ _ _ _ c.prepare.ensures.ok c.prepare.ensures.err)
      c.self.invariant.0,
  c.self.invariant.1,
)

pub returns-in-Some-clause-files_stay : goal.returns-in-Some-clause-files_stay
returns-in-Some-clause-files_stay c =
    prepared_lookup c.prepare.result _ _ _ _ c.prepare.ensures.ok c.prepare.ensures.err ∙ ap (λ (v : FilesState). lookup v.files) c.self.view_is

pub returns-in-Some-clause-room : goal.returns-in-Some-clause-room
returns-in-Some-clause-room c =
    prepared_room c.prepare.result c.self.inside.files c.args.self.now.files _ c.args.name.now c.in-Some.index c.args.room c.in-Some.ensures.some
    (ap (λ (v : FilesState). v.files) c.self.view_is) c.prepare.ensures.ok

pub returns-in-Some-clause-rest_stays : goal.returns-in-Some-clause-rest_stays
returns-in-Some-clause-rest_stays c =
    rest_stays c.args.self.now c.self.inside.files _ c.self.inside.activity _ _ _ c.self.view_is
    (prepared_alike c.prepare.result _ _ _ _ c.prepare.ensures.ok c.prepare.ensures.err) c.self.invariant.0

pub invariant_of-self-2 : goal.invariant_of-self-2
invariant_of-self-2 c = (
  alike_active c.self.inside.files _ c.self.inside.activity (added_alike c.push.result _ _ _ c.push.ensures.ok c.push.ensures.err) c.self.invariant.0,
  c.self.invariant.1,
)

pub returns-clause-files_stay : goal.returns-clause-files_stay
returns-clause-files_stay c =
    added_lookup c.push.result _ _ _ _ c.push.ensures.ok c.push.ensures.err ∙ ap (λ (v : FilesState). lookup v.files) c.self.view_is

pub returns-clause-room : goal.returns-clause-room
returns-clause-room c =
    added_room c.push.result c.self.inside.files c.args.self.now.files _ c.args.name.now _ _ c.args.room c.in_default.ensures.none
    (ap (λ (v : FilesState). v.files) c.self.view_is)
    (ap (λ (b : BodyState). b.room) c.in_ok-prepare.ensures.ok ∙ ap (λ (b : BodyState). max b.room c.args.room) c.no_body-body.ensures) c.push.ensures.ok

pub returns-clause-rest_stays : goal.returns-clause-rest_stays
returns-clause-rest_stays c =
    rest_stays c.args.self.now c.self.inside.files _ c.self.inside.activity _ _ _ c.self.view_is
    (added_alike c.push.result _ _ _ c.push.ensures.ok c.push.ensures.err) c.self.invariant.0
