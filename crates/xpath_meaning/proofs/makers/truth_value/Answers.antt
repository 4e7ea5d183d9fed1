use Rattle.xpath_meaning.proofs.MakerLemmas.{truth_is_of}
use Rattle.xpath_meaning.proofs.makers.truth_value.Goals as goal

pub returns-in-Ok-clause-of : goal.returns-in-Ok-clause-of
returns-in-Ok-clause-of g c = truth_is_of _ _
