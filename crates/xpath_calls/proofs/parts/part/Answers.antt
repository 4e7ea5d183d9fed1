use Rattle.std.specs.List.{slice_get}
use Rattle.xpath_values.specs.Values.{number_of, string_of}
use Rattle.xpath_meaning.specs.Functions.{argument, substring_of}
use Rattle.xpath_calls.proofs.PartLemmas.{first_converted, first_fault}
use Rattle.xpath_calls.proofs.parts.part.Goals as goal

pub returns-in-Err : goal.returns-in-Err
returns-in-Err g c = first_fault c.args.scope.now c.args.arguments.now c.in-Err.fault
    (λ from d vs. substring_of (string_of (argument 0 vs)) from (slice_get vs 2)) (λ vs. number_of (argument 1 vs)) c.in-Err.ensures.number

pub returns-in-Ok : goal.returns-in-Ok
returns-in-Ok g c = first_converted c.args.scope.now c.args.arguments.now c.in-Ok.from _
    (λ from d vs. substring_of (string_of (argument 0 vs)) from (slice_get vs 2)) (λ vs. number_of (argument 1 vs)) c.in-Ok.ensures.number c.part_from.ensures
