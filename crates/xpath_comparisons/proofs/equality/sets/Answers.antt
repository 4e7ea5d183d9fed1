use Rattle.std.proofs.Common.{ap, Ok}
use Rattle.xpath_comparisons.proofs.equality.sets.Goals as goal

pub returns-then-unequal : goal.returns-then-unequal
returns-then-unequal g c = λ ts us h k. rw c.if-unequal.true (ap Ok (c.differ.ensures ts us h k))

pub returns-in-Ok : goal.returns-in-Ok
returns-in-Ok g c = λ ts us h k. rw c.if-unequal.false (ap Ok (c.in-Ok.ensures ts us h k))
