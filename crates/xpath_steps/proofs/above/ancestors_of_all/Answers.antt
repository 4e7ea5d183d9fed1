use Rattle.std.proofs.Common.{◌∙◌, sym}
use Rattle.std.proofs.lemmas.Result.{IfOk-weaker}
use Rattle.xpath_axes.specs.Tests.{node_test}
use Rattle.xpath_steps.proofs.AboveLemmas.{all_ancestors, ancestors_among}
use Rattle.xpath_steps.proofs.above.ancestors_of_all.Goals as goal

pub returns-clause-step : goal.returns-clause-step
returns-clause-step g c = IfOk-weaker c.those_passing.result _ _
    (λ list h nest s cs e k. h nest s _ (sym (c.deref.ensures.value ∙ c.in_ok-holders.ensures.holders nest s cs e k))
    (ancestors_among nest _ s.accepted.document.nests cs k)
    ∙ sym (all_ancestors nest _ s.accepted.document.nests cs k (node_test c.args.test.now)))
    c.those_passing.ensures.passing
