use Rattle.std.proofs.Common.{ap, sym}
use Rattle.std.specs.Str.{chars}
use Rattle.xpath_values.specs.Values.{truth_text}
use Rattle.xpath_values.proofs.strings.truth_text.Goals as goal

pub returns-then-truth : goal.returns-then-truth
unfolding chars
returns-then-truth c = sym (ap truth_text c.if-truth.true)

pub returns-else-truth : goal.returns-else-truth
unfolding chars
returns-else-truth c = sym (ap truth_text c.if-truth.false)
