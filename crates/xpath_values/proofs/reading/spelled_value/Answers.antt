use Rattle.std.proofs.Common.{rules}
use Rattle.std.proofs.lemmas.Int.{to_z-of_z}
use mir.Syntax.{w128}
use mir.Val.{SFits}
use Rattle.xpath_values.proofs.ReadLemmas.{spelled_ok}
use Rattle.xpath_values.proofs.reading.spelled_value.Goals as goal

pub returns-in-Ok : goal.returns-in-Ok
returns-in-Ok c =
    let f : SFits w128 c.with_sign.result = search rules in
    rw (to_z-of_z w128 c.with_sign.result f)
    (spelled_ok c.args.negative c.args.scan c.in-Ok.n c.with_sign.result c.in-Ok.ensures.value c.with_sign.ensures)
