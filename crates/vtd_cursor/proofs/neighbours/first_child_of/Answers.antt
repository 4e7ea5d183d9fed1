use Rattle.vtd_cursor.proofs.MoveLemmas.{root_first_child, element_first_child, no_child_first}
use Rattle.xml_model.proofs.Things.{thing_kind}
use Rattle.xml_model.specs.declared.Kind.TheVariants as kinds
use Rattle.vtd_cursor.proofs.neighbours.first_child_of.Goals as goal

pub returns-in-Root-clause-axis : goal.returns-in-Root-clause-axis
returns-in-Root-clause-axis g c = λ nest s e w. root_first_child _ _ nest s c.args.node.kind c.args.node.at e w c.in-Root.is c.child_from.result
    (c.child_from.ensures.first nest s)

pub returns-in-Element-clause-axis : goal.returns-in-Element-clause-axis
returns-in-Element-clause-axis g c = λ nest s e w.
    element_first_child _ _ nest s c.args.node.kind c.args.node.at e w c.in-Element.is c.level_at-level.result c.after_first.result
    (c.level_at-level.ensures.level nest s e w) c.after_first.ensures.index c.child_from-in-Element.result
    (c.child_from-in-Element.ensures.first nest s)

pub returns-in_default : goal.returns-in_default
returns-in_default g c = record {
  axis = λ nest s e w. no_child_first _ _ nest s e w.0 (thing_kind c.args.node.kind kinds.Root e.what w.1 c.in_default.not-Root)
      (thing_kind c.args.node.kind kinds.Element e.what w.1 c.in_default.not-Element);
  node = tt;
}
