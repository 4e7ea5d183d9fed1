use Rattle.std.proofs.Common.{arith}
use Rattle.xml_swift.proofs.ItemLemmas.{attribute_there}
use Rattle.xml_swift.proofs.attributes.common_attribute_end.Goals as goal

pub returns-clause-attribute : goal.returns-clause-attribute
returns-clause-attribute c =
    let q = c.in_ok-close.ensures.stop in
    attribute_there c.args.bytes.now c.args.at c.args.first c.in_ok-name.name c.in_ok-close.close c.requires.utf8 c.requires.some c.requires.space c.in_ok-name.ensures.name c.if-bytes-name-ne61.false c.if-bytes-name-ne34.false (omega (arith, c.in_ok-name.ensures.behind)) q.0 c.in_ok-close.ensures.run q.1
