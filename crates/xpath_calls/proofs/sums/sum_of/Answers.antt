use Rattle.std.proofs.Common.{◌<◌, length, arith}
use Rattle.xpath_calls.proofs.SumLemmas.{begins, goes_on, stops}
use Rattle.xpath_calls.proofs.sums.sum_of.Goals as goal

pub loop-i-init : goal.loop-i-init
loop-i-init g c = begins _ _ _ c.sum_start-sum.ensures.value c.sum_start-sum.ensures.fits

pub returns-in-Err-clause-sum : goal.returns-in-Err-clause-sum
returns-in-Err-clause-sum g c =
    let l : c.loop-i.i < length c.args.nodes.now = omega arith in
    stops _ _ _ _ c.place_at.result _ l c.place_at.ensures.is c.loop-i.invariant c.in-Err.ensures.number

pub loop-i-preserved : goal.loop-i-preserved
loop-i-preserved g c =
    let l : c.loop-i.i < length c.args.nodes.now = omega arith in
    goes_on _ _ _ _ _ c.place_at.result _ l c.place_at.ensures.is c.loop-i.invariant c.in-Ok.ensures.number c.sum_next-sum.ensures.value
    c.sum_next-sum.ensures.fits
