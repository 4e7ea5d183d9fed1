use Rattle.xpath_steps.proofs.ForwardLemmas.{no_inside}
use Rattle.xpath_steps.proofs.forward.level_inside.Goals as goal

pub returns-in_default : goal.returns-in_default
returns-in_default c = no_inside c.args.kind c.args.level c.in_default.not-Root c.in_default.not-Element
