use Rattle.xpath_values.specs.Texts as texts
use Rattle.xpath_calls.proofs.PartLemmas.{one_text}
use Rattle.xpath_calls.proofs.parts.part_at.Goals as goal

pub returns-in-Ok-clause-text : goal.returns-in-Ok-clause-text
returns-in-Ok-clause-text g c = one_text _ _ 0 _ _ (λ t. texts.substring t c.args.from c.args.count) c.part_in.ensures.text c.in-Ok.ensures.text
