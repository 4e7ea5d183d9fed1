use Rattle.xml_model.proofs.NodeLaws.{axis_of_two}
use Rattle.xml_model.proofs.laws.axes_by_indexes.Goals as goal

pub returns : goal.returns
returns c = axis_of_two
