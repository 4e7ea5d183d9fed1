use Rattle.xpath_meaning.proofs.Orders as orders
use Rattle.xpath_meaning.proofs.laws.meant_in_order.Goals as goal

pub returns : goal.returns
returns c = orders.meant_in_order
