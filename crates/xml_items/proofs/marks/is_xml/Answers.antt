use Rattle.xml_items.proofs.FindLemmas.{xml_is}
use Rattle.xml_items.proofs.marks.is_xml.Goals as goal

pub returns : goal.returns
returns c = xml_is c.args.name.now c.as_bytes.result.now c.eq_ignore_ascii_case.result c.as_bytes.ensures.value c.utf8.name c.eq_ignore_ascii_case.ensures.test
