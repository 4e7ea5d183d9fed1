use Rattle.std.proofs.Common.{arith}
use Rattle.xml_swift.proofs.ItemLemmas.{tag_there, empty_there}
use Rattle.xml_swift.proofs.items.closed.Goals as goal

pub returns-then-bytes-close-eq62 : goal.returns-then-bytes-close-eq62
returns-then-bytes-close-eq62 c =
    let p = c.args.parts in
    rw c.tag_of.ensures (tag_there c.args.bytes.now p.at p.name p.place c.args.close p.attributes (omega (arith, c.requires.order, c.requires.within)) (omega (arith, c.requires.within)) c.requires.open c.requires.name c.requires.attributes c.requires.space c.if-bytes-close-eq62.true)

pub returns : goal.returns
returns c =
    let p = c.args.parts in
    rw c.tag_of-2.ensures (empty_there c.args.bytes.now p.at p.name p.place c.args.close p.attributes (omega (arith, c.requires.order, c.requires.within)) c.requires.within c.requires.open c.requires.name c.requires.attributes c.requires.space c.if-bytes-close-ne47.false c.if-bytes-close-ne62.false)
