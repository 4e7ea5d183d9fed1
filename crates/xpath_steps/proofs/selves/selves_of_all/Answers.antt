use Rattle.std.proofs.Common.{◌∙◌, sym}
use Rattle.std.proofs.lemmas.Result.{IfOk-weaker}
use Rattle.xpath_axes.specs.Tests.{node_test}
use Rattle.xpath_steps.proofs.StepLemmas.{all_selves}
use Rattle.xpath_steps.proofs.selves.selves_of_all.Goals as goal

pub returns-clause-step : goal.returns-clause-step
returns-clause-step g c = IfOk-weaker c.those_passing.result _ _
    (λ list h nest s cs e k. h nest s cs e k.among ∙ sym (all_selves nest _ s.accepted.document.nests cs k (node_test c.args.test.now)))
    c.those_passing.ensures.passing
