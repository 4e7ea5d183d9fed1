use Rattle.xpath_nodes.proofs.NodeFacts.{order_asks, order_gives, order_few}
use Rattle.xpath_nodes.proofs.ordering.in_order.Goals as goal

pub order-requires : goal.order-requires
order-requires g c = order_asks _ _ c.record_count-count.ensures.nav c.requires

pub returns-clause-ordered : goal.returns-clause-ordered
returns-clause-ordered g c = order_gives _ _ _ c.order.ensures.ordered c.order.ensures.same_nodes

pub returns-clause-of : goal.returns-clause-of
returns-clause-of g c = order_few _ _ _ c.record_count-count.ensures.nav c.record_count-count.ensures.few c.requires c.order.ensures.ordered c.order.ensures.same_nodes
