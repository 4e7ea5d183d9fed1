use Rattle.std.proofs.Common.{◌∙◌}
use Rattle.xpath_values.proofs.strings.chars_at.Goals as goal

pub returns : goal.returns
returns g c = λ t h. c.of.ensures h.nest h.shown h.entry h.holds ∙ h.same
