use Rattle.xml_acceptance.proofs.Prefixes.{begins_taken, taken_begins}
use Rattle.xml_acceptance.proofs.laws.prefixes_are_taken.Goals as goal

pub returns : goal.returns
returns c = λ items. (begins_taken items, λ t. taken_begins items t.0 t.1)
