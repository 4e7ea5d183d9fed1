use Rattle.xml_model.proofs.Indexes.{one_node}
use Rattle.xml_model.proofs.laws.one_node.Goals as goal

pub returns : goal.returns
returns c = one_node
