use Rattle.std.proofs.Common.{arith, to_z, of_z, w64}
use Rattle.vtd_words.specs.Exchanged.{moved_by}
use Rattle.vtd_words.proofs.MovedLists.{map_step}
use Rattle.vtd_words.proofs.moving.shift_offsets.Goals as goal

pub loop-word-preserved : goal.loop-word-preserved
loop-word-preserved c = map_step (moved_by (to_z w64 (of_z w64 c.args.by))) c.args.words.now c.loop-word.words c.loop-word.word-index c.shifted.result (omega arith) c.loop-word.invariant c.shifted.ensures
