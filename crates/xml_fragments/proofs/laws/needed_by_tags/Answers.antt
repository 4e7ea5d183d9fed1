use Rattle.xml_fragments.proofs.CutWhole.{needed_by_tags}
use Rattle.xml_fragments.proofs.laws.needed_by_tags.Goals as goal

pub returns : goal.returns
returns c = needed_by_tags
