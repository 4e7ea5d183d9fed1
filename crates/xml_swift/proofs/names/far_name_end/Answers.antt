use Rattle.xml_swift.proofs.FrontLemmas.{name_there}
use Rattle.xml_swift.proofs.names.far_name_end.Goals as goal

pub returns-clause-name : goal.returns-clause-name
returns-clause-name c = name_there c.args.bytes.now c.args.at c.far_end-end.result c.requires.within c.requires.start c.far_end-end.ensures.value
