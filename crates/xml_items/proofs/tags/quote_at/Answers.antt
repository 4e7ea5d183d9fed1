use Rattle.xml_items.proofs.StepLemmas.{single_quote, double_quote, no_quote}
use Rattle.xml_items.proofs.tags.quote_at.Goals as goal

pub returns-in-Some-clause-read : goal.returns-in-Some-clause-read
returns-in-Some-clause-read c = single_quote _ _ c.in-Some.ensures.read

pub returns-in_err-rest-clause-read : goal.returns-in_err-rest-clause-read
returns-in_err-rest-clause-read c = rw c.from_residual.ensures (no_quote _ c.in_default.ensures.read c.in_err-rest.ensures.read)

pub returns-clause-read : goal.returns-clause-read
returns-clause-read c = double_quote _ _ c.in_ok-rest.ensures.read
