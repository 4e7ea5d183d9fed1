use Rattle.std.proofs.Common.{◌≡◌, length, fold}
use Rattle.xpath_values.specs.Reading.{read_next, read_start}
use Rattle.xpath_values.proofs.values.read_all.Given as goal

abbrev pub invariant-loop-c : goal.invariant-loop-c
invariant-loop-c g l = fold read_next l.reader l.left ≡ fold read_next read_start l.fn.chars

abbrev pub decreases-loop-c : goal.decreases-loop-c
decreases-loop-c g l = length l.left
