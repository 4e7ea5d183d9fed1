use Rattle.xml_model.proofs.TextPlaces.{wholes_of_node}
use Rattle.xml_model.proofs.laws.tokens_by_places.Goals as goal

pub returns : goal.returns
returns c = wholes_of_node
