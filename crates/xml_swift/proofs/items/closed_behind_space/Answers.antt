use Rattle.xml_swift.proofs.FrontLemmas.{space_held}
use Rattle.xml_swift.proofs.items.closed_behind_space.Goals as goal

pub closed-requires-clause-space : goal.closed-requires-clause-space
closed-requires-clause-space c = space_held c.args.bytes.now c.args.parts.place c.space_end-close.result c.requires.place.0 c.space_end-close.ensures.space
