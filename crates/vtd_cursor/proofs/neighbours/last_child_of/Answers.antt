use Rattle.vtd_cursor.proofs.MoveLemmas.{root_last_child, element_last_child, no_child_last}
use Rattle.xml_model.proofs.Things.{thing_kind}
use Rattle.xml_model.specs.declared.Kind.TheVariants as kinds
use Rattle.vtd_cursor.proofs.neighbours.last_child_of.Goals as goal

pub returns-in-Root-clause-axis : goal.returns-in-Root-clause-axis
returns-in-Root-clause-axis g c = λ nest s e w. root_last_child _ _ nest s c.args.node.kind c.args.node.at e w c.in-Root.is c.past_of.result
    (c.past_of.ensures.past nest s e w) c.child_before.result (c.child_before.ensures.last nest s)

pub returns-in-Element-clause-axis : goal.returns-in-Element-clause-axis
returns-in-Element-clause-axis g c = λ nest s e w.
    element_last_child _ _ nest s c.args.node.kind c.args.node.at e w c.in-Element.is c.level_at.result c.past_of-in-Element.result
    (c.level_at.ensures.level nest s e w) (c.past_of-in-Element.ensures.past nest s e w) c.child_before-in-Element.result
    (c.child_before-in-Element.ensures.last nest s)

pub returns-in_default : goal.returns-in_default
returns-in_default g c = record {
  axis = λ nest s e w. no_child_last _ _ nest s e w.0 (thing_kind c.args.node.kind kinds.Root e.what w.1 c.in_default.not-Root)
      (thing_kind c.args.node.kind kinds.Element e.what w.1 c.in_default.not-Element);
  node = tt;
}
