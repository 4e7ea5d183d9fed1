use Rattle.std.proofs.Common.{rules, ◌≡◌, ◌∙◌, ap}
use Rattle.std.specs.Prelude.{pos, ◌*ℤ◌}
use Rattle.std.proofs.lemmas.Int.{to_z-of_z}
use mir.Syntax.{w128}
use mir.Val.{SFits, of_z}
use Rattle.xpath_values.specs.Numbers.{exactly, one}
use Rattle.xpath_values.proofs.QuotientLemmas.{quotient_ok}
use Rattle.xpath_values.proofs.numbers.quotient.Goals as goal

pub returns : goal.returns
returns c =
    let f : SFits w128 c.scaled.result = search rules in
    let b : SFits w128 c.args.y = c.ranges.y in
    let v : c.exactly.result ≡ exactly c.scaled.result c.args.y =
    simp to_z-of_z at c.exactly.ensures in
    quotient_ok c.args.x c.args.y c.scaled.result c.exactly.result (λ e. c.if-y-eq0.false (ap (of_z w128) e)) (c.scaled.ensures
    ∙ ap (λ k. pos one *ℤ k) (to_z-of_z w128 c.args.x c.ranges.x)) v
