use Rattle.std.proofs.Common.{◌≡◌, length}
use Rattle.std.specs.Cmp.Lexicographic.{slice_cmp}
use Rattle.std.specs.Ordering.{nat_cmp}
use Rattle.xpath_comparisons.proofs.keys.order.Given as goal

abbrev pub invariant-loop-c : goal.invariant-loop-c
invariant-loop-c g l = slice_cmp nat_cmp l.fn.one l.fn.other ≡ slice_cmp nat_cmp l.one l.other

abbrev pub decreases-loop-c : goal.decreases-loop-c
decreases-loop-c g l = length l.one
