use Rattle.vtd_words.proofs.Back.{words_back}
use Rattle.vtd_words.proofs.laws.bytes_of_words.Goals as goal

pub returns : goal.returns
returns c = words_back
