use Rattle.std.proofs.Common.{◌∙◌}
use Rattle.xpath_values.proofs.TextLemmas.{cut_found}
use Rattle.xpath_values.proofs.texts.contains.Goals as goal

pub returns : goal.returns
returns c = c.is_some.ensures ∙ cut_found c.cut.result c.args.other.now c.args.one.now c.cut.ensures
