use Rattle.std.specs.Prelude.{slice_index}
use Rattle.xpath_values.proofs.BytewiseLemmas.{Upto}
use Rattle.xpath_values.proofs.bytewise.change.Given as goal

abbrev pub invariant-loop-i : goal.invariant-loop-i
invariant-loop-i l = Upto (slice_index l.table) l.initial.bytes l.bytes l.i
