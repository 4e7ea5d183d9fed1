use Rattle.xpath_meaning.proofs.Meetings.{text_meets}
use Rattle.xpath_meaning.proofs.operators.literal.Goals as goal

pub returns-clause-means : goal.returns-clause-means
returns-clause-means g c = λ document. text_meets document _ c.args.content.now (c.text_value.ensures.text _ c.copied.ensures) c.text_value.ensures.full
