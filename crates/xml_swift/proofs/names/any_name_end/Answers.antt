use Rattle.xml_swift.proofs.FrontLemmas.{name_held}
use Rattle.xml_swift.proofs.names.any_name_end.Goals as goal

pub returns-clause-name : goal.returns-clause-name
returns-clause-name c = name_held c.args.bytes.now c.args.at c.in_ok-end.field-0 c.requires.place.0 c.in_ok-end.ensures.name
