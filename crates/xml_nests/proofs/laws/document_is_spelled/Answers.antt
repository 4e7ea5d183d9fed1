use Rattle.xml_nests.proofs.Back.{document_spelled}
use Rattle.xml_nests.proofs.laws.document_is_spelled.Goals as goal

pub returns : goal.returns
returns c = λ k bytes nest a. document_spelled bytes nest a.document
