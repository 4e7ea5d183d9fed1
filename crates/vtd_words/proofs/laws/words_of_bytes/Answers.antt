use Rattle.vtd_words.proofs.Back.{words_there}
use Rattle.vtd_words.proofs.laws.words_of_bytes.Goals as goal

pub returns : goal.returns
returns c = words_there
