use Rattle.xpath_meaning.proofs.ArgumentLemmas.{no_values_are}
use Rattle.xpath_meaning.proofs.places.no_values.Goals as goal

pub returns-clause-of : goal.returns-clause-of
returns-clause-of g c = rw c.new.ensures.items (no_values_are _)
