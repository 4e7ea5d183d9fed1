use Rattle.xpath_calls.proofs.PartLemmas.{part_found, part_fault}
use Rattle.xpath_calls.proofs.parts.part_from.Goals as goal

pub returns-in-Err : goal.returns-in-Err
returns-in-Err g c = part_fault c.args.scope.now c.args.arguments.now c.args.from c.in-Err.fault c.in-Err.ensures.number

pub returns-in-Ok : goal.returns-in-Ok
returns-in-Ok g c = part_found c.args.scope.now c.args.arguments.now c.args.from c.in-Ok.count _ c.in-Ok.ensures.number c.part_at.ensures.text
    c.part_at.ensures.full
