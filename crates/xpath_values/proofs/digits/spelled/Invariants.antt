use Rattle.std.proofs.Common.{length}
use Rattle.xpath_values.proofs.DigitLemmas.{IsRead}
use Rattle.xpath_values.proofs.digits.spelled.Given as goal

abbrev pub invariant-loop-byte : goal.invariant-loop-byte
invariant-loop-byte l = IsRead l.fn.bytes l.number l.left

abbrev pub decreases-loop-byte : goal.decreases-loop-byte
decreases-loop-byte l = length l.left
