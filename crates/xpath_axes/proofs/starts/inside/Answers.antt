use Rattle.std.proofs.Common.{◌+◌, ap}
use Rattle.xpath_axes.proofs.starts.inside.Goals as goal

pub returns-clause-level : goal.returns-clause-level
returns-clause-level g c = λ nest s e w. ap (λ n. n + 1) (c.level_at.ensures.level nest s e w)
