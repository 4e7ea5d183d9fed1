use Rattle.xml_patches.proofs.Walked.{text_node_refused}
use Rattle.xml_patches.proofs.laws.text_is_refused.Goals as goal

pub returns : goal.returns
returns c = text_node_refused
