use Rattle.std.proofs.Common.{◌∙◌, arith}
use Rattle.xml_model.specs.declared.Kind.TheVariants as kinds
use Rattle.xml_model.proofs.Things.{thing_kind}
use Rattle.xpath_axes.proofs.AxisLemmas.{attributes, no_attributes, at_element}
use Rattle.xpath_axes.proofs.WalkLemmas.{at_end}
use Rattle.xpath_axes.proofs.starts.attributes_of.Goals as goal

pub returns-in-Element : goal.returns-in-Element
returns-in-Element g c = λ nest s e w.
    let h = at_element nest _ s.accepted.document.nests e w.0 (w.1
    ∙ c.in-Element.is) c.inside-at.result.1 (omega (arith, c.inside-at.ensures.level nest s e w)) in
    attributes nest _ s.accepted.document.nests e w.0 c.inside-at.result.1 c.inside-at.result.0 (w.1 ∙ c.in-Element.is) h
    (omega (arith, c.inside-at.ensures.level nest s e w)) (omega (arith, c.inside-at.ensures.after, w.2))

pub returns-in_default : goal.returns-in_default
returns-in_default g c = λ nest s e w.
    no_attributes nest _ s.accepted.document.nests e w.0 c.nothing.result (at_end _ _ c.nothing.ensures.few nest s c.nothing.result.at c.nothing.ensures.end)
    (thing_kind c.args.node.kind kinds.Element e.what w.1 c.in_default.not-Element)
