use Rattle.std.proofs.Common.{◌∙◌, arith}
use Rattle.vtd_running.proofs.Generations.{made_accepted, made_none, made_unfit}
use Rattle.vtd_running.proofs.generating.run_generated.Goals as goal

pub returns-in_default-clause-known : goal.returns-in_default-clause-known
returns-in_default-clause-known g c = λ sent to. made_none _ c.args.count sent _ to

pub returns-in-Ok-start-clause-known : goal.returns-in-Ok-start-clause-known
returns-in-Ok-start-clause-known g c = λ sent to.
    let size = c.in-Ok.ensures.size in
    let few = c.requires in
    made_accepted _ c.args.count c.in-Ok.bytes.items c.in-Ok-start.session sent _ c.carry_generated.result c.in-Ok.ensures.document (omega arith)
    c.in-Ok-start.ensures.accepted c.in-Ok-start.ensures.started (c.carry_generated.ensures.known sent to)

pub returns-in-Ok-fault_line-clause-known : goal.returns-in-Ok-fault_line-clause-known
returns-in-Ok-fault_line-clause-known g c = λ sent to.
    let size = c.in-Ok.ensures.size in
    let few = c.requires in
    made_unfit _ c.args.count c.in-Ok.bytes.items _ c.in-Err-default-Doc.fault sent _ c.refuse.result c.in-Ok.ensures.document (omega arith)
    (c.in-Err-default-Doc.ensures.refused c.in-Err-default-Doc.fault c.in-Err-default-Doc.field-0-1-is)
    (c.deref.ensures.value ∙ c.in-Ok-fault_line.ensures) (c.refuse.ensures.known sent to)

pub returns-in-Err-default-Doc-clause-known : goal.returns-in-Err-default-Doc-clause-known
returns-in-Err-default-Doc-clause-known g c = λ sent to. made_none _ c.args.count sent _ to

pub returns-clause-known : goal.returns-clause-known
returns-clause-known g c = λ sent to. made_none _ c.args.count sent _ to
