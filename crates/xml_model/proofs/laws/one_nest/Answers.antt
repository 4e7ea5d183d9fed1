use Rattle.xml_model.proofs.Unique.{one_nest}
use Rattle.xml_model.proofs.laws.one_nest.Goals as goal

pub returns : goal.returns
returns c = one_nest
