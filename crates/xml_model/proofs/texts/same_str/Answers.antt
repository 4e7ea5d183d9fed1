use Rattle.std.proofs.Common.{◌∙◌}
use Rattle.xml_model.proofs.SameText.{same_text}
use Rattle.xml_model.proofs.texts.same_str.Goals as goal

pub returns : goal.returns
returns c = c.eq.ensures ∙ same_text c.args.one.now c.args.other.now c.utf8.one c.utf8.other
