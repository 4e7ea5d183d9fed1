use Rattle.xml_swift.proofs.FrontLemmas.{space_held}
use Rattle.xml_swift.proofs.attributes.other_attribute_end.Goals as goal

pub common_attribute_end-requires-clause-space : goal.common_attribute_end-requires-clause-space
common_attribute_end-requires-clause-space c = space_held c.args.bytes.now c.args.at c.space_end-first.result c.requires.place.0 c.space_end-first.ensures.space

pub single_attribute_end-requires-clause-space : goal.single_attribute_end-requires-clause-space
single_attribute_end-requires-clause-space c = space_held c.args.bytes.now c.args.at c.space_end-first.result c.requires.place.0 c.space_end-first.ensures.space
