use Rattle.xml_model.proofs.Proper.{document_meets}
use Rattle.xml_model.proofs.laws.document_items_meet.Goals as goal

pub returns : goal.returns
returns c = document_meets
