use Rattle.xpath_calls.proofs.SumLemmas.{IsSoFar}
use Rattle.xpath_calls.proofs.sums.sum_of.Given as goal

abbrev pub invariant-loop-i : goal.invariant-loop-i
invariant-loop-i g l = IsSoFar l.fn.scope l.fn.nodes l.i l.sum
