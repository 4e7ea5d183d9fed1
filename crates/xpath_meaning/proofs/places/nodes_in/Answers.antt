use Rattle.xpath_meaning.proofs.Nodes.{few_in}
use Rattle.xpath_meaning.proofs.places.nodes_in.Goals as goal

pub returns-in-Nodes-clause-of : goal.returns-in-Nodes-clause-of
returns-in-Nodes-clause-of g c = few_in _ _ _ c.in-Nodes.is c.requires
