use Rattle.xpath_values.specs.Texts as texts
use Rattle.xpath_meaning.proofs.CallLemmas.{one_more_text}
use Rattle.xpath_meaning.proofs.calls.translated.Goals as goal

pub returns-in-Ok-clause-text : goal.returns-in-Ok-clause-text
returns-in-Ok-clause-text g c = one_more_text _ _ _ _ texts.translate c.translated_by.ensures.text c.in-Ok.ensures.text
