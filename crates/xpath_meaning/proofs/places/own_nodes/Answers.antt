use Rattle.xpath_meaning.proofs.Nodes.{own_few, own_list}
use Rattle.xpath_meaning.proofs.places.own_nodes.Goals as goal

pub returns-clause-nodes : goal.returns-clause-nodes
returns-clause-nodes g c = own_list _ c.args.place _ c.one_node.ensures.one

pub returns-clause-of : goal.returns-clause-of
returns-clause-of g c = own_few _ c.args.place _ c.requires c.one_node.ensures.one
