use Rattle.xpath_meaning.proofs.Nodes.{root_starts, root_few, own_few}
use Rattle.xpath_meaning.proofs.places.start.Goals as goal

pub returns-then-absolute-clause-nodes : goal.returns-then-absolute-clause-nodes
returns-then-absolute-clause-nodes g c = λ d h. rw c.if-absolute.true (root_starts _ _ c.one_node.ensures.one c.one_node.ensures.full d h.scope)

pub returns-then-absolute-clause-of : goal.returns-then-absolute-clause-of
returns-then-absolute-clause-of g c = root_few _ _ c.one_node.ensures.one

pub returns-clause-of : goal.returns-clause-of
returns-clause-of g c = own_few _ c.args.place _ c.requires c.one_node-2.ensures.one
