use Rattle.xpath_meaning.proofs.CallLemmas.{context_string}
use Rattle.xpath_meaning.proofs.calls.context_text.Goals as goal

pub returns-in-Ok-clause-text : goal.returns-in-Ok-clause-text
returns-in-Ok-clause-text g c = context_string _ _ _ _ c.in-Ok.ensures.held c.to_text.ensures.text
