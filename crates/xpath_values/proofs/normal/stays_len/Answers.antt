use Rattle.std.proofs.Common.{sym, ◌∙◌, arith}
use Rattle.xpath_values.proofs.KeptLemmas.{stays_place}
use Rattle.xpath_values.proofs.normal.stays_len.Goals as goal

pub returns-then-b-ne32-clause-place : goal.returns-then-b-ne32-clause-place
returns-then-b-ne32-clause-place c =
    stays_place c.args.bytes.now c.loop-i.end c.loop-i.i (omega arith) (λ lt. sym c.is_space_byte.ensures ∙ c.if-not-is_space_byte.false) c.loop-i.invariant
