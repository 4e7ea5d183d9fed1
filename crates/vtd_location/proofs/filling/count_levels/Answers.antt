use Rattle.std.proofs.Common.{◌<◌, arith, length}
use Rattle.vtd_location.proofs.CountLemmas.{counting_on}
use Rattle.vtd_location.proofs.filling.count_levels.Goals as goal

pub loop-at-preserved : goal.loop-at-preserved
loop-at-preserved g c =
    let within : c.loop-at.at < length (g.W.Words.lists c.args.words.now).records = omega (arith, c.loop-at-test.true, c.len-records.ensures) in
    counting_on _ _ _ _ _ within c.parts_at.ensures.parts c.counted-counts.ensures c.loop-at.invariant
