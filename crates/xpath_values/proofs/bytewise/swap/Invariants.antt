use Rattle.xpath_values.specs.Translating.{swap}
use Rattle.xpath_values.proofs.BytewiseLemmas.{Upto}
use Rattle.xpath_values.proofs.bytewise.swap.Given as goal

abbrev pub invariant-loop-i : goal.invariant-loop-i
invariant-loop-i l = Upto (swap l.fn.from l.fn.to) l.initial.bytes l.bytes l.i
