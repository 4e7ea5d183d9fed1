use Rattle.std.proofs.Common.{◌≡◌, true, false, arith}
use Rattle.vtd_words.specs.View.{CanView}
use Rattle.vtd_index.proofs.Heads.{is_head, can_view}
use Rattle.vtd_index.proofs.head.words.Goals as goal

pub part-requires-4 : goal.part-requires-4
part-requires-4 c = let h = is_head c.args.file.now c.args.head.now c.requires.head in omega (arith, h.fills, c.records_start-records.ensures)

pub part-requires-5 : goal.part-requires-5
part-requires-5 c = let h = is_head c.args.file.now c.args.head.now c.requires.head in omega (arith, h.fills, c.records_start-records.ensures)

pub part-requires-6 : goal.part-requires-6
part-requires-6 c = let h = is_head c.args.file.now c.args.head.now c.requires.head in omega (arith, h.fills, c.records_start-records.ensures)

pub unreachable-requires : goal.unreachable-requires
unreachable-requires c =
    let h = is_head c.args.file.now c.args.head.now c.requires.head in
    let v = can_view c.args.file.now c.args.head.now h c.requires.few in
    let w : CanView c.part.result.now c.part-2.result.now c.part-3.result.now c.part-4.result.now c.part-5.result.now c.part-6.result.now =
    simp (c.part.ensures, c.part-2.ensures, c.part-3.ensures, c.part-4.ensures, c.part-5.ensures, c.part-6.ensures, c.records_start-records.ensures) v in
    let e : false ≡ true = (rw c.in-None.is at c.of-view.ensures.there).1 w in
    absurd (cc)
