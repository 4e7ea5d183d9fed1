use Rattle.vtd_words.specs.Table.{IsNodeOf}
use Rattle.xpath_steps.proofs.AboveLemmas.{each_index}
use Rattle.speed_axes.proofs.steps.all_nodes.Goals as goal

pub returns : goal.returns
returns g c = each_index (IsNodeOf _ _) _ c.loop-at.invariant
