use Rattle.xpath_values.proofs.ValueLemmas.{truth_meant}
use Rattle.xpath_values.proofs.values.truth_of.Goals as goal

pub returns : goal.returns
returns c = λ v h. truth_meant c.args.value.now v c.truth_seen.result c.truth_seen.ensures h
