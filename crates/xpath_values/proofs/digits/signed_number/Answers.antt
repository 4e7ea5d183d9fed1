use Rattle.std.proofs.Common.{rules, sym, ◌∙◌}
use Rattle.std.proofs.lemmas.Int.{to_z-of_z}
use mir.Syntax.{w128}
use mir.Val.{SFits}
use Rattle.xpath_values.proofs.DigitLemmas.{found_plain, found_value}
use Rattle.xpath_values.proofs.digits.signed_number.Goals as goal

pub returns-clause-plain : goal.returns-clause-plain
returns-clause-plain c =
    found_plain c.args.text.now c.after_minus-negative.result.0 c.after_minus-negative.result.1.now c.in_ok-whole.whole (sym c.as_bytes.ensures.value ∙ c.after_minus-negative.ensures) c.in_ok-whole.ensures.whole

pub returns-clause-value : goal.returns-clause-value
returns-clause-value c =
    let f : SFits w128 c.with_sign.result = search rules in
    rw (to_z-of_z w128 c.with_sign.result f)
    (found_value c.args.text.now c.after_minus-negative.result.0 c.after_minus-negative.result.1.now c.in_ok-whole.whole c.with_sign.result (sym c.as_bytes.ensures.value ∙ c.after_minus-negative.ensures)
    c.in_ok-whole.ensures.some c.in_ok-whole.ensures.whole c.with_sign.ensures)
