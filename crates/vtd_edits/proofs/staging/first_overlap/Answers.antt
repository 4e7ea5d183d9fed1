use Rattle.std.proofs.Common.{◌++◌, arith, length-append}
use Rattle.vtd_edits.proofs.Held.{found_overlap, overlap_there, prefix_apart}
use Rattle.vtd_edits.proofs.staging.first_overlap.Goals as goal

pub first_late-later-requires-clause-apart : goal.first_late-later-requires-clause-apart
first_late-later-requires-clause-apart c =
    prefix_apart c.args.staged.now c.args.list.now c.args.order.now c.requires.sorted c.requires.few c.requires.apart

pub unreachable-requires : goal.unreachable-requires
unreachable-requires c =
    let e = length-append c.args.staged.now c.args.list.now in
    overlap_there (c.args.staged.now ++ c.args.list.now) c.requires.within.0 c.first_late-later.result c.args.order.now c.requires.sorted
    (omega (arith, e, c.requires.few)) c.requires.within.1 (omega (arith, e, c.first_late-later.ensures.below))
    c.first_late-later.ensures.before c.first_late-later.ensures.after c.in-None.ensures

pub returns : goal.returns
returns c =
    let e = length-append c.args.staged.now c.args.list.now in
    found_overlap (c.args.staged.now ++ c.args.list.now) c.requires.within.0 c.first_late-later.result c.in-Some.earlier c.args.order.now
    c.requires.sorted (omega (arith, e, c.requires.few)) c.requires.within.1 (omega (arith, e, c.first_late-later.ensures.below))
    c.first_late-later.ensures.before c.in-Some.ensures _ _ c.splice_at.result.now c.splice_at-in-Some.result.now
    c.start_of.ensures c.splice_at.ensures c.start_of-in-Some.ensures c.splice_at-in-Some.ensures
