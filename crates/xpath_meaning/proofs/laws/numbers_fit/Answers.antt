use Rattle.xpath_meaning.proofs.NumberLemmas.{meant_fits}
use Rattle.xpath_meaning.proofs.laws.numbers_fit.Goals as goal

pub returns : goal.returns
returns c = meant_fits
