use Rattle.std.proofs.Common.{◌∙◌, sym, refl}
use Rattle.vtd_cursor.proofs.MoveLemmas.{next_attribute_is, attribute_alone}
use Rattle.vtd_cursor.proofs.neighbours.next_attribute_of.Goals as goal

pub returns-in-Attribute-clause-axis : goal.returns-in-Attribute-clause-axis
returns-in-Attribute-clause-axis g c = λ nest s e w z d p.
    next_attribute_is _ _ nest s e z w.0 d (w.1 ∙ c.in-Attribute.is) p c.level_at.result c.end_of.result (c.level_at.ensures.level nest s e w)
    (c.end_of.ensures nest s e w) c.attribute_from.result (c.attribute_from.ensures.first nest s)

pub returns-in_default : goal.returns-in_default
returns-in_default g c = record {
  axis = λ nest s e w z d p. absurd (c.in_default.not-Attribute (sym w.1 ∙ attribute_alone _ _ nest s e z w.0 d p));
  other = λ h. refl;
  node = tt;
}
