use Rattle.xpath_values.specs.Numbers.{IsNumber}
use Rattle.xpath_meaning.proofs.MakerLemmas.{number_is_of}
use Rattle.xpath_meaning.proofs.makers.number_value.Goals as goal

pub returns-in-Ok-clause-of : goal.returns-in-Ok-clause-of
returns-in-Ok-clause-of g c = let h : IsNumber c.in-Ok.number = rw c.in-Ok.is at c.requires.fits in number_is_of _ _ h
