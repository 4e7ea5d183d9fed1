use Rattle.xml_model.proofs.NodeLaws.{end_of_element}
use Rattle.xml_model.proofs.laws.element_ends_by_scan.Goals as goal

pub returns : goal.returns
returns c = end_of_element
