use Rattle.xpath_values.specs.Texts as texts
use Rattle.xpath_meaning.proofs.CallLemmas.{two_texts}
use Rattle.xpath_meaning.proofs.calls.translated_by.Goals as goal

pub returns-clause-text : goal.returns-clause-text
returns-clause-text g c = two_texts _ _ 1 2 _ _ _ (texts.translate c.args.text.now) c.translated_in.ensures.text c.in-Ok.ensures.text c.in-Ok-text_at.ensures.text
