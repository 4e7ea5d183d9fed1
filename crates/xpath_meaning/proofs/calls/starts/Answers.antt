use Rattle.std.proofs.Common.{◌∙◌, ap₂}
use Rattle.xpath_values.specs.Texts as texts
use Rattle.xpath_meaning.proofs.calls.starts.Goals as goal

pub returns-clause-truth : goal.returns-clause-truth
returns-clause-truth g c = λ d h vs a. c.starts_with.ensures ∙ ap₂ texts.starts_with (c.in-Ok.ensures.text d h vs a) (c.in-Ok-text_at.ensures.text d h vs a)
