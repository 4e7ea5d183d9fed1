use Rattle.std.proofs.Common.{◌∙◌, ap}
use Rattle.xpath_values.specs.Numbers.{number_of_text}
use Rattle.xpath_values.proofs.strings.number_seen.Goals as goal

pub returns : goal.returns
returns g c = λ t h. c.number_at.ensures h.nest h.shown h.entry h.holds ∙ ap number_of_text h.same
