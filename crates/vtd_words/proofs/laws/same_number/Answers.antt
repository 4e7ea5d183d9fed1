use Rattle.vtd_words.proofs.Back.{same_number}
use Rattle.vtd_words.proofs.laws.same_number.Goals as goal

pub returns : goal.returns
returns c = same_number
