use Rattle.std.proofs.Common.{arith}
use Rattle.vtd_location.proofs.FillLemmas.{settles_now, filled_to_end}
use Rattle.vtd_location.proofs.filling.fill_levels.Goals as goal

pub settle-requires : goal.settle-requires
settle-requires c = settles_now _ _ _ _ (omega arith) c.loop-at.invariant

pub returns-clause-levels : goal.returns-clause-levels
returns-clause-levels c = λ rs s. filled_to_end c.args.words.now.lists.records c.loop-at.words c.settle.new.words c.loop-at.waiting c.loop-at.at (omega (arith, c.loop-at-test.false, c.len-at-end.ensures)) c.settle.ensures.lists c.loop-at.invariant rs s
