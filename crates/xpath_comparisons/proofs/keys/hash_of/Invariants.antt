use Rattle.std.proofs.Common.{◌≡◌, length, fold}
use Rattle.xpath_comparisons.specs.Sets.{hash_of, mixed}
use Rattle.xpath_comparisons.proofs.keys.hash_of.Given as goal

abbrev pub invariant-loop-c : goal.invariant-loop-c
invariant-loop-c g l = fold mixed l.hash l.left ≡ hash_of l.fn.chars

abbrev pub decreases-loop-c : goal.decreases-loop-c
decreases-loop-c g l = length l.left
