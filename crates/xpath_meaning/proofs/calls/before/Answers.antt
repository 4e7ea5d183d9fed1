use Rattle.xpath_values.specs.Texts as texts
use Rattle.xpath_meaning.proofs.CallLemmas.{two_texts}
use Rattle.xpath_meaning.proofs.calls.before.Goals as goal

pub returns-clause-text : goal.returns-clause-text
returns-clause-text g c = two_texts _ _ 0 1 _ _ _ texts.substring_before c.before_in.ensures.text c.in-Ok.ensures.text c.in-Ok-text_at.ensures.text
