use Rattle.std.proofs.Common.{◌∙◌}
use Rattle.xml_items.proofs.PartLemmas.{same_word}
use Rattle.xml_items.proofs.declarations.is_same.Goals as goal

pub returns : goal.returns
returns c = c.eq.ensures ∙ same_word c.args.text.now c.args.wanted.now c.utf8.text c.requires
