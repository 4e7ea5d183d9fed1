use Rattle.std.proofs.Common.{rules, ap, ◌∙◌}
use Rattle.std.specs.Prelude.{nat_abs}
use Rattle.std.specs.Int.{is_negative}
use Rattle.std.proofs.lemmas.Int.{to_z-of_z}
use mir.Syntax.{w128}
use mir.Val.{SFits}
use Rattle.xpath_values.proofs.ProductLemmas.{product_ok, product_err}
use Rattle.xpath_values.proofs.products.product.Goals as goal

pub returns-in-Ok : goal.returns-in-Ok
returns-in-Ok c =
    let f : SFits w128 c.with_sign.result = search rules in
    let ex = to_z-of_z w128 c.args.x c.ranges.x in
    let ey = to_z-of_z w128 c.args.y c.ranges.y in
    rw (to_z-of_z w128 c.with_sign.result f)
    (product_ok c.args.x c.args.y c.with_sign.result c.in-Ok.n c.unsigned_abs.result c.unsigned_abs-2.result
    c.is_negative.result c.is_negative-2.result c.differ-negative.result
    (c.unsigned_abs.ensures.value ∙ ap nat_abs ex) (c.unsigned_abs-2.ensures.value ∙ ap nat_abs ey)
    (c.is_negative.ensures ∙ ap is_negative ex) (c.is_negative-2.ensures ∙ ap is_negative ey)
    c.differ-negative.ensures c.in-Ok.ensures.value c.with_sign.ensures)

pub returns-in-Err : goal.returns-in-Err
returns-in-Err c =
    let ex = to_z-of_z w128 c.args.x c.ranges.x in
    let ey = to_z-of_z w128 c.args.y c.ranges.y in
    product_err c.args.x c.args.y c.in-Err.fault c.unsigned_abs.result c.unsigned_abs-2.result
    (c.unsigned_abs.ensures.value ∙ ap nat_abs ex) (c.unsigned_abs-2.ensures.value ∙ ap nat_abs ey) c.in-Err.ensures.value
