use Rattle.std.proofs.Common.{◌∙◌}
use Rattle.xml_model.proofs.SameText.{same_empty}
use Rattle.xml_model.proofs.texts.is_empty.Goals as goal

pub returns : goal.returns
returns c = c.is_empty.ensures ∙ same_empty c.args.text.now c.utf8.text
