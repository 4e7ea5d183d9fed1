use Rattle.std.proofs.Common.{◌∙◌, sym, true, false}
use Rattle.xml_model.proofs.Things.{thing_child}
use Rattle.xpath_axes.proofs.AxisLemmas.{following_siblings, no_following_siblings}
use Rattle.xpath_axes.proofs.WalkLemmas.{at_end}
use Rattle.xpath_axes.proofs.starts.following_siblings_of.Goals as goal

pub returns-then-not-is_child : goal.returns-then-not-is_child
returns-then-not-is_child g c = λ nest s e w.
    no_following_siblings nest _ s.accepted.document.nests e w.0 c.nothing.result
    (at_end _ _ c.nothing.ensures.few nest s c.nothing.result.at c.nothing.ensures.end)
    (thing_child c.args.node.kind false e.what w.1 (sym c.is_child.ensures ∙ c.if-not-is_child.true))

pub returns : goal.returns
returns g c = λ nest s e w.
    following_siblings nest _ s.accepted.document.nests e w.0
    (thing_child c.args.node.kind true e.what w.1 (sym c.is_child.ensures ∙ c.if-not-is_child.false)) c.level_at-level.result c.end_of.result
    (c.level_at-level.ensures.level nest s e w) (c.end_of.ensures nest s e w)
