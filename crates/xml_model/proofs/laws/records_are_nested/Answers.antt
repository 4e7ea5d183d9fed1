use Rattle.xml_model.proofs.Nested.{nests_are_nested}
use Rattle.xml_model.proofs.laws.records_are_nested.Goals as goal

pub returns : goal.returns
returns c = nests_are_nested
