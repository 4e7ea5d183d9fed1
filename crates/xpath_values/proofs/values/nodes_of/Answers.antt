use Rattle.std.proofs.Common.{◌∙◌}
use Rattle.xpath_values.proofs.values.nodes_of.Goals as goal

pub returns : goal.returns
returns c = c.as_slice.ensures.value ∙ c.list.view_is
