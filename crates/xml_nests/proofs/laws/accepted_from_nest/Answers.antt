use Rattle.xml_nests.proofs.Law.{accepted_from_nest}
use Rattle.xml_nests.proofs.laws.accepted_from_nest.Goals as goal

pub returns : goal.returns
returns c = accepted_from_nest
