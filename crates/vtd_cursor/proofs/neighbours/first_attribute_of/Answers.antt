use Rattle.std.proofs.Common.{◌∙◌, arith}
use Rattle.xml_model.specs.declared.Kind.TheVariants as kinds
use Rattle.vtd_cursor.proofs.MoveLemmas.{first_attribute_is, no_attributes}
use Rattle.xml_model.proofs.Things.{thing_kind}
use Rattle.vtd_cursor.proofs.neighbours.first_attribute_of.Goals as goal

pub returns-in-Element-clause-axis : goal.returns-in-Element-clause-axis
returns-in-Element-clause-axis g c = λ nest s e w.
    let level = c.level_at-level.ensures.level nest s e w in
    first_attribute_is _ _ nest s e w.0 (w.1 ∙ c.in-Element.is) _ c.after_first.result (omega (arith, level))
    (omega (arith, c.after_first.ensures.index, w.2)) c.attribute_from.result (c.attribute_from.ensures.first nest s)

pub returns-in_default : goal.returns-in_default
returns-in_default g c = record {
  axis = λ nest s e w. no_attributes _ _ nest s e w.0
      (thing_kind c.args.node.kind kinds.Element e.what w.1 c.in_default.not-Element);
  node = tt;
}
