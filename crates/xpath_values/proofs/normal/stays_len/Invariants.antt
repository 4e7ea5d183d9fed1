use Rattle.xpath_values.specs.Normal.{Stays}
use Rattle.xpath_values.proofs.normal.stays_len.Given as goal

abbrev pub invariant-loop-i : goal.invariant-loop-i
invariant-loop-i l = Stays l.bytes l.end l.i
