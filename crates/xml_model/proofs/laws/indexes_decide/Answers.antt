use Rattle.xml_model.proofs.NodeLaws.{places_of_two}
use Rattle.xml_model.proofs.laws.indexes_decide.Goals as goal

pub returns : goal.returns
returns c = places_of_two
