use Rattle.std.proofs.Common.{◌≡◌, ◌≤◌, true, arith, subst}
use Rattle.std.proofs.lemmas.Bool.{eq-eqb, leb-true}
use Rattle.xml_model.specs.Levels.{is_tag}
use Rattle.xml_model.specs.Records.{Record}
use Rattle.conformance_levels.proofs.levels.is_shallow_tag.Goals as goal

pub returns : goal.returns
returns g c = λ t. record {
  within = omega (arith, c.if-at-len.false, c.len.ensures);
  tag = λ rs s. subst (λ (r : Record). is_tag r ≡ true) (c.parts_at-parts.ensures.parts rs s) (eq-eqb _ _ c.if-parts.false);
  shallow = λ rs s. subst (λ (r : Record). r.depth ≤ 4) (c.parts_at-parts.ensures.parts rs s) (leb-true _ _ t);
}
