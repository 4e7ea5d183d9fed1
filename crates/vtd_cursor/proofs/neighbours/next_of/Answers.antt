use Rattle.std.proofs.Common.{◌∙◌, sym, true, false}
use Rattle.vtd_cursor.proofs.MoveLemmas.{next_is, no_next}
use Rattle.xml_model.proofs.Things.{thing_child}
use Rattle.vtd_cursor.proofs.neighbours.next_of.Goals as goal

pub returns-then-not-is_child-clause-axis : goal.returns-then-not-is_child-clause-axis
returns-then-not-is_child-clause-axis g c = λ nest s e w. no_next _ _ nest s e w.0 (thing_child c.args.node.kind false e.what w.1
    (sym c.is_child.ensures ∙ c.if-not-is_child.true))

pub returns-clause-axis : goal.returns-clause-axis
returns-clause-axis g c = λ nest s e w.
    next_is _ _ nest s e w.0 (thing_child c.args.node.kind true e.what w.1
    (sym c.is_child.ensures ∙ c.if-not-is_child.false)) c.level_at.result c.end_of.result (c.level_at.ensures.level nest s e w)
    (c.end_of.ensures nest s e w) c.child_from.result (c.child_from.ensures.first nest s)
