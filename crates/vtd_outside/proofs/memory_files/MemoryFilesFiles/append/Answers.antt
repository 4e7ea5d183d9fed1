use Rattle.std.proofs.Common.{ap, refl, sym, inl, inr, ◌∙◌, min, length, not, ℕ}
use Rattle.vtd_outside.specs.Objects.{FilesState, is_listed, passes_room}
use Rattle.vtd_outside.proofs.Held.{room_stays_by}
use Rattle.vtd_outside.proofs.Activities.{active_slot, active_within, active_after, same_written, adds_by, passes_by, fails_if, fails_not}
use Rattle.vtd_outside.proofs.memory_files.MemoryFilesFiles.append.Goals as goal
use Rattle.vtd_outside.proofs.memory_files.MemoryFilesFiles.append.Goals.{then-listed-via-then-listed, then-listed-via-else-listed+then-not-fits}

pub has_room-fits-requires : goal.has_room-fits-requires
has_room-fits-requires c = active_within c.self.inside.files c.self.inside.activity c.in-Writing.file c.in-Writing.is c.self.invariant.0

pub add-requires-clause-within : goal.add-requires-clause-within
add-requires-clause-within c = active_within c.self.inside.files c.self.inside.activity c.in-Writing.file c.in-Writing.is c.self.invariant.0

pub invariant_of-self-2 : goal.invariant_of-self-2
invariant_of-self-2 c = (
  active_after c.self.inside.files _ _ c.in-Writing.file _ _
      (active_slot c.self.inside.files c.self.inside.activity c.in-Writing.file c.in-Writing.is c.self.invariant.0) c.add.ensures,
  rw c.fails-listed.ensures.piece c.self.invariant.1,
)

pub returns-clause-bytes : goal.returns-clause-bytes
returns-clause-bytes c = λ base name held h.
    adds_by c.self.inside.files c.args.self.now.files _ c.self.inside.activity c.in-Writing.file c.args.self.now.writing base name held _ c.in-Writing.is
    c.self.invariant.0
    (ap (λ (v : FilesState). v.files) c.self.view_is) (ap (λ (v : FilesState). v.writing) c.self.view_is) c.add.ensures h.contents_are h.named

pub returns-clause-same_file : goal.returns-clause-same_file
returns-clause-same_file c =
    same_written c.self.inside.files _ c.self.inside.activity c.in-Writing.file _ c.args.self.now.writing c.in-Writing.is
    (ap (λ (v : FilesState). v.writing) c.self.view_is) c.add.ensures

pub returns-clause-room_stays : goal.returns-clause-room_stays
returns-clause-room_stays c =
    room_stays_by c.self.inside.files c.args.self.now.files _ c.in-Writing.file _ _ (ap (λ (v : FilesState). v.files) c.self.view_is) c.add.ensures refl

pub returns-then-listed-clause-fails : goal.returns-then-listed-clause-fails
returns-then-listed-clause-fails c =
    let listed = sym (ap (λ (v : FilesState). is_listed v.calls) c.self.view_is) ∙ sym c.fails-listed.ensures.answer in
    let count = c.min-count.ensures ∙ ap (λ (v : FilesState). min (length c.args.bytes.now) v.calls.piece) c.self.view_is in
    let passes = ap (λ (n : ℕ). passes_room c.args.self.now.files c.args.self.now.writing n) (sym count)
    ∙ passes_by c.self.inside.files c.args.self.now.files c.self.inside.activity c.in-Writing.file c.min-count.result c.args.self.now.writing c.in-Writing.is
    c.self.invariant.0
    (ap (λ (v : FilesState). v.files) c.self.view_is) (ap (λ (v : FilesState). v.writing) c.self.view_is)
    ∙ ap not (sym c.has_room-fits.ensures) in
    elim c.then-listed.branch [
      | then-listed-via-then-listed w ↦ fails_if _ _ (inl (listed ∙ w.if-listed.true))
      | then-listed-via-else-listed+then-not-fits w ↦ fails_if _ _ (inr (passes ∙ ap not w.if-not-fits.true))
    ]

pub returns-clause-fails : goal.returns-clause-fails
returns-clause-fails c =
    let listed = sym (ap (λ (v : FilesState). is_listed v.calls) c.self.view_is) ∙ sym c.fails-listed.ensures.answer in
    let count = c.min-count.ensures ∙ ap (λ (v : FilesState). min (length c.args.bytes.now) v.calls.piece) c.self.view_is in
    let passes = ap (λ (n : ℕ). passes_room c.args.self.now.files c.args.self.now.writing n) (sym count)
    ∙ passes_by c.self.inside.files c.args.self.now.files c.self.inside.activity c.in-Writing.file c.min-count.result c.args.self.now.writing c.in-Writing.is
    c.self.invariant.0
    (ap (λ (v : FilesState). v.files) c.self.view_is) (ap (λ (v : FilesState). v.writing) c.self.view_is)
    ∙ ap not (sym c.has_room-fits.ensures) in
    fails_not _ _ (listed ∙ c.if-listed.false) (passes ∙ ap not c.if-not-fits.false)
