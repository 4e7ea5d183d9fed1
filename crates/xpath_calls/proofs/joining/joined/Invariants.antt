use Rattle.xpath_calls.proofs.JoinLemmas.{IsJoined}
use Rattle.xpath_calls.proofs.joining.joined.Given as goal

abbrev pub invariant-loop-i : goal.invariant-loop-i
invariant-loop-i g l = IsJoined l.fn.scope l.fn.arguments l.i l.joined
