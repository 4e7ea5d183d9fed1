use Rattle.xpath_meaning.proofs.MakerLemmas.{text_is_of}
use Rattle.xpath_calls.proofs.answering.text_held.Goals as goal

pub returns-in-Ok-clause-of : goal.returns-in-Ok-clause-of
returns-in-Ok-clause-of g c = text_is_of _ _
