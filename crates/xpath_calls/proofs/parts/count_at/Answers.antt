use Rattle.std.proofs.Common.{sym, Ok, Err}
use Rattle.xpath_meaning.proofs.ArgumentLemmas.{argument_of}
use Rattle.xpath_calls.proofs.PartLemmas.{number_there, no_number}
use Rattle.xpath_calls.proofs.parts.count_at.Goals as goal

pub to_number-requires : goal.to_number-requires
to_number-requires g c = argument_of _ _ _ _ c.requires (sym c.in-Some.ensures)

pub returns-in-None-clause-number : goal.returns-in-None-clause-number
returns-in-None-clause-number g c = no_number c.args.scope.now c.args.arguments.now 2 (sym c.in-None.ensures)

pub returns-in-Ok-clause-number : goal.returns-in-Ok-clause-number
returns-in-Ok-clause-number g c = number_there c.args.scope.now c.args.arguments.now _ 2 (Ok c.in-Ok.count) (sym c.in-Some.ensures) c.in-Ok.ensures.number

pub returns-in-Err-clause-number : goal.returns-in-Err-clause-number
returns-in-Err-clause-number g c = number_there c.args.scope.now c.args.arguments.now _ 2 (Err c.in-Err.fault) (sym c.in-Some.ensures) c.in-Err.ensures.number
