use Rattle.xml_swift.proofs.ItemLemmas.{text_there}
use Rattle.xml_swift.proofs.items.text.Goals as goal

pub returns : goal.returns
returns c =
    let q = c.in_ok-end.ensures.stop in
    rw (c.span-whole.ensures, c.span.ensures) (text_there c.args.bytes.now c.args.at c.in_ok-end.end c.requires.utf8 c.requires.place q.0 c.requires.text c.in_ok-end.ensures.run q.1)
