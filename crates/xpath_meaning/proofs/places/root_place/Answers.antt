use Rattle.xpath_meaning.proofs.Nodes.{root_is_place}
use Rattle.xpath_meaning.proofs.places.root_place.Goals as goal

pub returns-clause-place : goal.returns-clause-place
returns-clause-place g c = root_is_place _
