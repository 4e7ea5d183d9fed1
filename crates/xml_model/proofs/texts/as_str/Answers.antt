use Rattle.std.proofs.Common.{◌∙◌, ap}
use Rattle.std.specs.Str.{chars}
use Rattle.xml_model.proofs.texts.as_str.Goals as goal

pub returns : goal.returns
returns c = ap chars c.as_str.ensures.value ∙ c.text.view_is
