use Rattle.std.proofs.Common.{◌≤◌, ◌+◌, ◌++◌, length, true, refl, ap, sym, subst, ◌∙◌}
use Rattle.vtd_outside.specs.Objects.{BodyState}
use Rattle.vtd_outside.specs.Held.{with_body}
use Rattle.vtd_outside.proofs.Held.{set_seen, body_seen}
use Rattle.vtd_outside.proofs.file_list.FileList.add.Goals as goal

pub add-requires : goal.add-requires
add-requires c =
    let e = body_seen c.self.inside.held.items c.args.self.now c.args.index c.index_mut-file.result.now c.self.view_is c.requires.within
    c.index_mut-file.ensures.value in
    let P : BodyState → Type 0 = λ b. length b.bytes + length c.args.bytes.now ≤ b.room in
    subst P (sym e) c.requires.room

pub returns : goal.returns
returns c =
    let file = c.index_mut-file.result.now in
    let e = body_seen c.self.inside.held.items c.args.self.now c.args.index file c.self.view_is c.requires.within c.index_mut-file.ensures.value in
    set_seen c.self.inside.held.items c.args.self.now c.args.index file (record { name = file.name; body = c.add.new.self; is_there = true }) c.self.view_is
    c.requires.within c.index_mut-file.ensures.value refl
    ∙ ap (λ (b : BodyState). with_body c.args.self.now c.args.index b true)
    (c.add.ensures ∙ ap (λ (b : BodyState). record { bytes = b.bytes ++ c.args.bytes.now; room = b.room }) e)
