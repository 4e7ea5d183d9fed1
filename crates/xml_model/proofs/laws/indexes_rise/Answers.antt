use Rattle.xml_model.proofs.NodeLaws.{indexes_increase}
use Rattle.xml_model.proofs.laws.indexes_rise.Goals as goal

pub returns : goal.returns
returns c = indexes_increase
