use Rattle.std.proofs.Common.{◌≡◌, sym, ◌∙◌, ap}
use Rattle.std.specs.Prelude.{pos}
use Rattle.std.specs.Int.RustNames.{int_div, int_rem}
use Rattle.std.proofs.lemmas.Int.{to_z-of_z}
use mir.Syntax.{w128}
use mir.Val.{SFits, of_z, to_z}
use Rattle.xpath_values.specs.Numbers.{in_range}
use Rattle.xpath_values.proofs.QuotientLemmas.{quotient_fits, remainder_fits, exactly_ok}
use Rattle.xpath_values.proofs.numbers.exactly.Goals as goal

pub returns-then-z-y-eq0 : goal.returns-then-z-y-eq0
returns-then-z-y-eq0 c =
    let f : SFits w128 (int_div c.args.z c.args.y) = quotient_fits c.args.z c.args.y c.requires.left in
    let g : SFits w128 (int_rem c.args.z c.args.y) = remainder_fits c.args.z c.args.y c.requires.left in
    let a : SFits w128 c.args.z = c.ranges.z in
    let b : SFits w128 c.args.y = c.ranges.y in
    let k : of_z w128 (int_rem c.args.z c.args.y) ≡ 0 = simp to_z-of_z at c.if-z-y-eq0.true in
    let r : int_rem c.args.z c.args.y ≡ pos 0 = sym (to_z-of_z w128 (int_rem c.args.z c.args.y) g) ∙ ap (to_z w128) k in
    let v : c.in_range.result ≡ in_range (int_div c.args.z c.args.y) = simp to_z-of_z at c.in_range.ensures in
    exactly_ok c.args.z c.args.y c.in_range.result r v
