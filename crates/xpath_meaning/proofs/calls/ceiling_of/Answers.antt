use Rattle.std.proofs.Common.{◌∙◌, ap, Ok}
use Rattle.xpath_values.specs.Answers.{with}
use Rattle.xpath_values.specs.Numbers as numbers
use Rattle.xpath_meaning.proofs.calls.ceiling_of.Goals as goal

pub returns-in-Ok-clause-number : goal.returns-in-Ok-clause-number
returns-in-Ok-clause-number g c = λ d h vs a. ap Ok c.ceiling.ensures.value ∙ ap (λ m. with m numbers.ceiling) (c.in-Ok.ensures.number d h vs a)

pub returns-in-Err-clause-number : goal.returns-in-Err-clause-number
returns-in-Err-clause-number g c = λ d h vs a. ap (λ m. with m numbers.ceiling) (c.in-Err.ensures.number d h vs a)
