use Rattle.std.proofs.Common.{refl, arith}
use Rattle.std.proofs.lemmas.Str.{IsCharBoundary-after_ascii}
use Rattle.xml_swift.proofs.FrontLemmas.{no_space}
use Rattle.xml_swift.proofs.ItemLemmas.{no_attributes, more_attributes}
use Rattle.xml_swift.proofs.items.tag.Goals as goal

pub name_end-requires-clause-place : goal.name_end-requires-clause-place
name_end-requires-clause-place c = IsCharBoundary-after_ascii c.args.bytes.now c.args.at c.requires.utf8 (omega (arith, c.requires.room)) (omega (arith, c.requires.open))

pub attributes-init : goal.attributes-init
attributes-init c = record {
  at = refl;
  name = refl;
  so_far = no_attributes c.args.bytes.now c.in_ok-name.name;
  within = omega (arith, c.in_ok-name.ensures.behind);
  few = omega arith;
}

pub closed-requires-clause-space : goal.closed-requires-clause-space
closed-requires-clause-space c = no_space c.args.bytes.now c.attributes.parts.place

pub attributes-preserved : goal.attributes-preserved
attributes-preserved c =
    let i = c.attributes.invariant in
    let f = c.in-Some.ensures in
    record {
      at = i.at;
      name = i.name;
      so_far = more_attributes c.args.bytes.now c.in_ok-name.name c.attributes.parts.place c.in-Some.end c.attributes.parts.attributes i.so_far f.attribute;
      within = f.within.1;
      few = omega (arith, i.few, f.within.0);
    }
