use Rattle.xml_model.proofs.NodeLaws.{first_record_of_node}
use Rattle.xml_model.proofs.laws.first_record_shows.Goals as goal

pub returns : goal.returns
returns c = first_record_of_node
