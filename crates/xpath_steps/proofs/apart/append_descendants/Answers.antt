use Rattle.std.proofs.Common.{◌∙◌, refl, inl, inr}
use Rattle.xml_model.specs.declared.Axis.TheVariants as axes
use Rattle.xpath_axes.specs.Tests.{node_test}
use Rattle.xpath_steps.proofs.StepLemmas.{appended}
use Rattle.xpath_steps.proofs.apart.append_descendants.Goals as goal

pub returns-in-Root-clause-appended : goal.returns-in-Root-clause-appended
returns-in-Root-clause-appended g c = λ nest s e w.
    appended nest _ s.accepted.document.nests axes.Descendant refl e w.0 c.descendants_of.result (c.descendants_of.ensures.axis nest s e w)
    (node_test c.args.test.now) _ _ (c.in_ok-stop.ensures.appended nest s)

pub returns-in-Element-clause-appended : goal.returns-in-Element-clause-appended
returns-in-Element-clause-appended g c = λ nest s e w.
    appended nest _ s.accepted.document.nests axes.Descendant refl e w.0 c.descendants_of.result (c.descendants_of.ensures.axis nest s e w)
    (node_test c.args.test.now) _ _ (c.in_ok-stop.ensures.appended nest s)

pub returns-in_default-clause-appended : goal.returns-in_default-clause-appended
returns-in_default-clause-appended g c = λ nest s e w.
    appended nest _ s.accepted.document.nests axes.Descendant refl e w.0 c.descendants_of.result (c.descendants_of.ensures.axis nest s e w)
    (node_test c.args.test.now) _ _ (c.in_ok-stop.ensures.appended nest s)

pub returns-in-Root-clause-past : goal.returns-in-Root-clause-past
returns-in-Root-clause-past g c = λ nest s e w. c.in_ok-stop.ensures.stop nest s ∙ c.descendants_of.ensures.stop nest s e w (inl c.in-Root.is)

pub returns-in-Element-clause-past : goal.returns-in-Element-clause-past
returns-in-Element-clause-past g c = λ nest s e w. c.in_ok-stop.ensures.stop nest s ∙ c.descendants_of.ensures.stop nest s e w (inr c.in-Element.is)
