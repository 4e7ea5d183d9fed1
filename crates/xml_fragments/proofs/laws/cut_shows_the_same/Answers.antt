use Rattle.xml_fragments.proofs.CutNode.{cut_node}
use Rattle.xml_fragments.proofs.laws.cut_shows_the_same.Goals as goal

pub returns : goal.returns
returns c = cut_node
