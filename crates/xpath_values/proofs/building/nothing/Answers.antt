use Rattle.xpath_values.proofs.TextLemmas.{nothing_made}
use Rattle.xpath_values.proofs.building.nothing.Goals as goal

pub returns : goal.returns
returns c = nothing_made c.made.result c.made.ensures
