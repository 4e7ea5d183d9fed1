use Rattle.std.proofs.Common.{◌≡◌, sym}
use Rattle.xpath_values.specs.Values.{number_of}
use Rattle.xpath_meaning.proofs.ArgumentLemmas.{argument_of}
use Rattle.xpath_calls.proofs.OwnLemmas.{at_own, at_context}
use Rattle.xpath_calls.proofs.numbers.own_number.Goals as goal

pub to_number-requires : goal.to_number-requires
to_number-requires g c = argument_of _ _ _ _ c.requires.arguments (sym c.in-Some.ensures)

pub returns-in-Some-clause-number : goal.returns-in-Some-clause-number
returns-in-Some-clause-number g c = λ d h vs a. at_own d c.args.arguments.now vs _ (λ v. c.to_number.result ≡ number_of v) (sym c.in-Some.ensures) a
    (c.to_number.ensures.number d h.scope)

pub returns-in-None-clause-number : goal.returns-in-None-clause-number
returns-in-None-clause-number g c = λ d h vs a. at_context d c.args.arguments.now vs (λ v. c.number_there.result ≡ number_of v) (sym c.in-None.ensures) a
    (c.number_there.ensures.number d h.scope d.node h.stands)
