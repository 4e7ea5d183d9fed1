use Rattle.std.proofs.Common.{◌∙◌, sym, true, false}
use Rattle.vtd_cursor.proofs.MoveLemmas.{previous_is, no_previous}
use Rattle.xml_model.proofs.Things.{thing_child}
use Rattle.vtd_cursor.proofs.neighbours.previous_of.Goals as goal

pub returns-then-not-is_child-clause-axis : goal.returns-then-not-is_child-clause-axis
returns-then-not-is_child-clause-axis g c = λ nest s e w. no_previous _ _ nest s e w.0 (thing_child c.args.node.kind false e.what w.1
    (sym c.is_child.ensures ∙ c.if-not-is_child.true))

pub returns-clause-axis : goal.returns-clause-axis
returns-clause-axis g c = λ nest s e w.
    previous_is _ _ nest s e w.0 (thing_child c.args.node.kind true e.what w.1
    (sym c.is_child.ensures ∙ c.if-not-is_child.false)) c.level_at.result c.args.node.at (c.level_at.ensures.level nest s e w)
    (sym w.2) c.child_before.result (c.child_before.ensures.last nest s)
