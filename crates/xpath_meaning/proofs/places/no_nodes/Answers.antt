use Rattle.xpath_meaning.proofs.Nodes.{few_none}
use Rattle.xpath_meaning.proofs.places.no_nodes.Goals as goal

pub returns-clause-of : goal.returns-clause-of
returns-clause-of g c = rw c.new.ensures.items (few_none _)
