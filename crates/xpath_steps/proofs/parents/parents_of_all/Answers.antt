use Rattle.std.proofs.Common.{◌∙◌, sym}
use Rattle.std.proofs.lemmas.Result.{IfOk-weaker}
use Rattle.vtd_words.specs.Table.{nodes_of}
use Rattle.xpath_axes.specs.Tests.{node_test}
use Rattle.xpath_steps.proofs.ParentLemmas.{all_parents, parents_among}
use Rattle.xpath_steps.proofs.parents.parents_of_all.Goals as goal

pub returns-clause-step : goal.returns-clause-step
returns-clause-step g c = IfOk-weaker c.those_passing.result _ _
    (λ list h nest s cs e k. h nest s _ (sym (c.deref.ensures.value ∙ c.in_ok-held.ensures.parents nest s cs e k))
    (parents_among cs (nodes_of c.args.table.now.bytes nest))
    ∙ sym (all_parents nest _ s.accepted.document.nests cs k (node_test c.args.test.now)))
    c.those_passing.ensures.passing
