use Rattle.std.proofs.Common.{◌<◌, ◌≤◌, arith, sym, ap, ◌∙◌}
use Rattle.xpath_values.proofs.DigitLemmas.{digit_range, read_none, read_next, read_small}
use Rattle.xpath_values.proofs.digits.spelled.Goals as goal

pub loop-byte-init : goal.loop-byte-init
loop-byte-init c = read_none _ c.requires

pub overflow_mul-number : goal.overflow_mul-number
overflow_mul-number c = omega (arith, read_small _ _ _ c.loop-byte.invariant)

pub overflow_add-number : goal.overflow_add-number
overflow_add-number c =
    let range = digit_range c.in-Some.byte.now (sym c.is_digit.ensures ∙ c.if-not-is_digit.false) in
    omega (arith, read_small _ _ _ c.loop-byte.invariant, range.1)

pub loop-byte-preserved : goal.loop-byte-preserved
loop-byte-preserved c = read_next _ _ c.in-Some.byte.now _ _ c.loop-byte.invariant c.in-Some.ensures.cases.0 (sym c.is_digit.ensures ∙ c.if-not-is_digit.false)
