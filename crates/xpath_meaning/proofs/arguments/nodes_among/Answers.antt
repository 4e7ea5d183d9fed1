use Rattle.xpath_meaning.proofs.Nodes.{nodes_meant, few_in}
use Rattle.xpath_meaning.proofs.arguments.nodes_among.Goals as goal

pub returns-in-Nodes-clause-nodes : goal.returns-in-Nodes-clause-nodes
returns-in-Nodes-clause-nodes g c = rw c.nodes_of.ensures (λ d v h. nodes_meant d _ _ v c.in-Nodes.is h)

pub returns-in-Nodes-clause-of : goal.returns-in-Nodes-clause-of
returns-in-Nodes-clause-of g c = rw c.nodes_of.ensures (few_in _ _ _ c.in-Nodes.is c.requires)
