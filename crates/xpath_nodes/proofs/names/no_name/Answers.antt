use Rattle.xpath_nodes.proofs.NameLemmas.{no_characters}
use Rattle.xpath_nodes.proofs.names.no_name.Goals as goal

pub returns : goal.returns
returns c = no_characters c.made.result c.made.ensures
