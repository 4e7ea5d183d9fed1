use Rattle.std.proofs.Common.{arith}
use Rattle.xml_swift.proofs.ItemLemmas.{one_blank}
use Rattle.xml_swift.proofs.attributes.attribute_end.Goals as goal

pub common_attribute_end-requires-clause-space : goal.common_attribute_end-requires-clause-space
common_attribute_end-requires-clause-space c = one_blank c.args.bytes.now c.args.at (omega (arith, c.requires.room)) c.if-bytes-at-eq32.true
