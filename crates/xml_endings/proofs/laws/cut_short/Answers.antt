use Rattle.xml_endings.proofs.Ends.{cut_short}
use Rattle.xml_endings.proofs.laws.cut_short.Goals as goal

pub returns : goal.returns
returns c = cut_short
