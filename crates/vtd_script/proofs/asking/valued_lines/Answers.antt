use Rattle.std.proofs.Common.{Err, ap}
use Rattle.vtd_script.specs.declared.ready.Stop.{Stop}
use Rattle.vtd_script.proofs.AskLemmas.{values_fault, values_made}
use Rattle.vtd_script.proofs.asking.valued_lines.Goals as goal

pub returns-in-Err : goal.returns-in-Err
returns-in-Err c =
    values_fault c.args.document.now c.args.bindings.now c.args.expr.now c.in-Err.fault _ c.in-Err.ensures
    (ap (λ (x : Stop). Err x) c.query_stop.ensures)

pub returns-in-Ok : goal.returns-in-Ok
returns-in-Ok c = values_made c.args.document.now c.args.bindings.now c.args.expr.now c.in-Ok.lines c.in-Ok.ensures
