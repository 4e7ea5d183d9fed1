use Rattle.std.proofs.Common.{sym}
use Rattle.xpath_meaning.proofs.ArgumentLemmas.{argument_of, number_found, number_not_found}
use Rattle.xpath_meaning.proofs.arguments.number_at.Goals as goal

pub to_number-requires : goal.to_number-requires
to_number-requires g c = argument_of _ _ _ _ c.requires (sym c.in-Some.ensures)

pub returns-in-Some-clause-number : goal.returns-in-Some-clause-number
returns-in-Some-clause-number g c = λ d h vs a. number_found _ _ _ _ _ (sym c.in-Some.ensures) d h vs a (c.to_number.ensures.number d h)

pub returns-in-None-clause-number : goal.returns-in-None-clause-number
returns-in-None-clause-number g c = λ d h vs a. number_not_found _ _ _ _ (sym c.in-None.ensures) a
