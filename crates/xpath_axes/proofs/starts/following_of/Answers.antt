use Rattle.xpath_axes.proofs.AxisLemmas.{following}
use Rattle.xpath_axes.proofs.starts.following_of.Goals as goal

pub returns : goal.returns
returns g c = λ nest s e w. following nest _ s.accepted.document.nests e w.0 c.end_of.result (c.end_of.ensures nest s e w)
