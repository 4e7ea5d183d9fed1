use Rattle.xml_model.proofs.NodeLaws.{axis_list_of_node}
use Rattle.xml_model.proofs.laws.axis_lists_by_indexes.Goals as goal

pub returns : goal.returns
returns c = axis_list_of_node
