use Rattle.std.proofs.Common.{◌∙◌, sym}
use Rattle.std.proofs.lemmas.Result.{IfOk-weaker}
use Rattle.vtd_words.specs.Table.{nodes_of}
use Rattle.xpath_axes.specs.Tests.{node_test}
use Rattle.xpath_steps.proofs.EarlierLemmas.{all_earlier_siblings, siblings_among}
use Rattle.xpath_steps.proofs.earlier.preceding_siblings_of_all.Goals as goal

pub returns-clause-step : goal.returns-clause-step
returns-clause-step g c = IfOk-weaker c.those_passing.result _ _
    (λ list h nest s cs e k. h nest s _ (sym (c.deref.ensures.value ∙ c.in_ok-held.ensures.siblings nest s cs e k))
    (siblings_among cs (nodes_of c.args.table.now.bytes nest))
    ∙ sym (all_earlier_siblings nest _ s.accepted.document.nests cs k (node_test c.args.test.now)))
    c.those_passing.ensures.passing
