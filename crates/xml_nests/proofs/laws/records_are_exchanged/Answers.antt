use Rattle.xml_nests.proofs.Around.{records_exchanged}
use Rattle.xml_nests.proofs.laws.records_are_exchanged.Goals as goal

pub returns : goal.returns
returns c = records_exchanged
