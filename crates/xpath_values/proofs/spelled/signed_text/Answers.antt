use Rattle.std.proofs.Common.{◌∙◌, ap, string_bytes, arith}
use Rattle.std.specs.Prelude.{nat_abs}
use Rattle.std.specs.Int.{is_negative}
use Rattle.std.proofs.lemmas.Int.{to_z-of_z}
use mir.Syntax.{w128}
use Rattle.xpath_values.proofs.SpelledLemmas.{spelling_read}
use Rattle.xpath_values.proofs.spelled.signed_text.Goals as goal

pub returns : goal.returns
returns c =
    let e = to_z-of_z w128 c.args.millionths c.ranges.millionths in
    spelling_read c.args.millionths c.unsigned_abs.result c.is_negative.result (string_bytes c.in_ok-spelled.field-0)
    (omega (arith, c.unsigned_abs.ensures.bound)) (c.unsigned_abs.ensures.value ∙ ap nat_abs e) (c.is_negative.ensures ∙ ap is_negative e) c.in_ok-spelled.ensures
