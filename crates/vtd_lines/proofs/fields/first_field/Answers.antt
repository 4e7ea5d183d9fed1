use Rattle.std.proofs.Common.{arith}
use Rattle.std.proofs.lemmas.Str.Pattern.{split_once_first}
use Rattle.vtd_lines.proofs.FieldLemmas.{one_field, more_fields}
use Rattle.vtd_lines.proofs.fields.first_field.Goals as goal

pub returns-in-Some : goal.returns-in-Some
returns-in-Some c =
    let cut = rw c.in-Some.is at (split_once_first 9 c.args.line.now c.split_once.result c.split_once.ensures.cases (omega arith)) in
    more_fields c.args.line.now c.in-Some.field.now c.in-Some.rest.now cut.0 cut.1 cut.2

pub returns-in-None : goal.returns-in-None
returns-in-None c = one_field c.args.line.now (rw c.in-None.is at (split_once_first 9 c.args.line.now c.split_once.result c.split_once.ensures.cases
    (omega arith)))
