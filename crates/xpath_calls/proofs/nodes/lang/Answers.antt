use Rattle.std.proofs.Common.{◌∙◌, ap}
use Rattle.xml_model.specs.Names.{scope}
use Rattle.xpath_meaning.specs.Functions.{is_some_language, language}
use Rattle.xpath_calls.proofs.nodes.lang.Goals as goal

pub returns-in-Ok-clause-truth : goal.returns-in-Ok-clause-truth
returns-in-Ok-clause-truth g c = λ d h vs a. c.speaks.ensures d h ∙ ap (λ t. is_some_language t (language (scope d.node))) (c.in-Ok.ensures.text d h.scope vs a)
