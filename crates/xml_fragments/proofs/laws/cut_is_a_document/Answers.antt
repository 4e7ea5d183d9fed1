use Rattle.xml_fragments.proofs.CutWhole.{cut_is_document}
use Rattle.xml_fragments.proofs.laws.cut_is_a_document.Goals as goal

pub returns : goal.returns
returns c = cut_is_document
