use Rattle.std.proofs.Common.{◌∙◌, ap, subst}
use Rattle.xpath_values.specs.declared.Value.TheVariants as held
use Rattle.xpath_values.specs.Answers.{with}
use Rattle.xpath_values.specs.Numbers as numbers
use Rattle.xpath_values.specs.Values.{IsHeld, number_of}
use Rattle.xpath_meaning.specs.Meets.{Meets}
use Rattle.xpath_meaning.proofs.Meetings.{numbers_meet, both_numbers}
use Rattle.xpath_meaning.proofs.operators.operated.Goals as goal

pub returns-clause-means : goal.returns-clause-means
returns-clause-means g c = λ d h v w a b.
    subst (Meets (IsHeld d.document) c.number_value.result) (both_numbers (number_of v) (number_of w) (numbers.arithmetic c.args.how))
    (numbers_meet d.document _ _ (c.number_value.ensures.value ∙ ap (λ r. with r held.Number) (c.operated_number.ensures.number d h v w a b)))
