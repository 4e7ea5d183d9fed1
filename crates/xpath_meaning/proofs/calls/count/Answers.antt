use Rattle.std.proofs.Common.{◌∙◌, ap}
use Rattle.xpath_values.specs.Numbers.{counted}
use Rattle.xpath_meaning.proofs.Lists.{same_length}
use Rattle.xpath_meaning.proofs.calls.count.Goals as goal

pub returns-clause-number : goal.returns-clause-number
returns-clause-number g c = λ d h vs a. c.counted.ensures.value ∙ ap counted (same_length d.document _ _ (c.nodes_at.ensures.nodes d.document vs a))
