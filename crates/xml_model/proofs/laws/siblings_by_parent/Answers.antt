use Rattle.xml_model.proofs.NodeLaws.{siblings_of_child}
use Rattle.xml_model.proofs.laws.siblings_by_parent.Goals as goal

pub returns : goal.returns
returns c = siblings_of_child
