use Rattle.xml_nests.proofs.Stands.{each_stands}
use Rattle.xml_nests.proofs.laws.nodes_stand.Goals as goal

pub returns : goal.returns
returns c = each_stands
