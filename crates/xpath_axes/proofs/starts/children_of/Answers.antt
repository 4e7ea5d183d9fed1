use Rattle.std.proofs.Common.{◌∙◌, arith, inl, inr}
use Rattle.xml_model.specs.declared.Kind.TheVariants as kinds
use Rattle.xml_model.proofs.Things.{thing_kind}
use Rattle.xpath_axes.proofs.AxisLemmas.{children, stop_holds, no_children, at_root, at_element}
use Rattle.xpath_axes.proofs.WalkLemmas.{at_end}
use Rattle.xpath_axes.proofs.starts.children_of.Goals as goal

pub returns-in-Root-clause-axis : goal.returns-in-Root-clause-axis
returns-in-Root-clause-axis g c = λ nest s e w.
    let n = s.accepted.document.nests in
    let r = at_root nest _ n e w.0 (w.1 ∙ c.in-Root.is) in
    children nest _ n e w.0 0 1 r.0 (omega (arith, r.1))

pub returns-in-Element-clause-axis : goal.returns-in-Element-clause-axis
returns-in-Element-clause-axis g c = λ nest s e w.
    let h = at_element nest _ s.accepted.document.nests e w.0 (w.1
    ∙ c.in-Element.is) c.inside-at.result.1 (omega (arith, c.inside-at.ensures.level nest s e w)) in
    children nest _ s.accepted.document.nests e w.0 c.inside-at.result.1 c.inside-at.result.0 h (omega (arith, c.inside-at.ensures.after, w.2))

pub returns-in_default-clause-axis : goal.returns-in_default-clause-axis
returns-in_default-clause-axis g c = λ nest s e w.
    no_children nest _ s.accepted.document.nests e w.0 c.nothing.result (at_end _ _ c.nothing.ensures.few nest s c.nothing.result.at c.nothing.ensures.end)
    (thing_kind c.args.node.kind kinds.Root e.what w.1 c.in_default.not-Root) (thing_kind c.args.node.kind kinds.Element e.what w.1 c.in_default.not-Element)

pub returns-in-Root-clause-stop : goal.returns-in-Root-clause-stop
returns-in-Root-clause-stop g c = λ nest s e w k.
    let n = s.accepted.document.nests in
    let r = at_root nest _ n e w.0 (w.1 ∙ c.in-Root.is) in
    stop_holds nest _ n e w.0 0 1 r.0 (omega (arith, r.1))

pub returns-in-Element-clause-stop : goal.returns-in-Element-clause-stop
returns-in-Element-clause-stop g c = λ nest s e w k.
    let h = at_element nest _ s.accepted.document.nests e w.0 (w.1
    ∙ c.in-Element.is) c.inside-at.result.1 (omega (arith, c.inside-at.ensures.level nest s e w)) in
    stop_holds nest _ s.accepted.document.nests e w.0 c.inside-at.result.1 c.inside-at.result.0 h (omega (arith, c.inside-at.ensures.after, w.2))

pub returns-in_default-clause-stop : goal.returns-in_default-clause-stop
returns-in_default-clause-stop g c = λ nest s e w k. elim k [
  | inl root ↦ absurd (c.in_default.not-Root root)
  | inr tag ↦ absurd (c.in_default.not-Element tag)
]
