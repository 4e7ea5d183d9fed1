use Rattle.xpath_meaning.proofs.Nodes.{value_of_nodes}
use Rattle.xpath_meaning.proofs.places.nodes_value.Goals as goal

pub returns-clause-of : goal.returns-clause-of
returns-clause-of g c = value_of_nodes _ _ c.requires
