use Rattle.std.proofs.Common.{◌∙◌, refl}
use Rattle.xml_model.specs.declared.Axis.TheVariants as axes
use Rattle.xml_model.proofs.Indexes.{all_rise}
use Rattle.vtd_words.specs.Table.{nodes_of}
use Rattle.xpath_axes.specs.Tests.{node_test}
use Rattle.xpath_steps.proofs.MergeLemmas.{two_steps, under_or_self}
use Rattle.xpath_steps.proofs.or_selves.descendants_or_selves_of_all.Goals as goal

pub returns-clause-step : goal.returns-clause-step
returns-clause-step g c = λ nest s cs e k.
    two_steps nest _ s.accepted.document.nests axes.DescendantOrSelf axes.Descendant axes.Itself refl refl refl under_or_self cs k (node_test c.args.test.now) _
    (λ P Q h i. c.in_ok-held.ensures (nodes_of c.args.table.now.bytes nest) (all_rise nest _) P Q
    (c.deref.ensures.value ∙ c.descendants.view_is ∙ c.in_ok-descendants.ensures.step nest s cs e k ∙ h)
    (c.deref-2.ensures.value ∙ c.selves.view_is ∙ c.in_ok-selves.ensures.step nest s cs e k ∙ i))
