use Rattle.std.proofs.Common.{refl}
use Rattle.xml_model.specs.declared.Axis.TheVariants as axes
use Rattle.xpath_axes.specs.Tests.{node_test}
use Rattle.xpath_steps.proofs.StepLemmas.{appended}
use Rattle.xpath_steps.proofs.apart.append_attributes.Goals as goal

pub returns-clause-appended : goal.returns-clause-appended
returns-clause-appended g c = λ nest s e w.
    appended nest _ s.accepted.document.nests axes.Attribute refl e w.0 c.attributes_of.result (c.attributes_of.ensures nest s e w)
    (node_test c.args.test.now) _ _ (c.in_ok-append_walk.ensures.appended nest s)
