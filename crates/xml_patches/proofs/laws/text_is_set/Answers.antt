use Rattle.xml_patches.proofs.TextNode.{text_node_patched}
use Rattle.xml_patches.proofs.laws.text_is_set.Goals as goal

pub returns : goal.returns
returns c = text_node_patched
