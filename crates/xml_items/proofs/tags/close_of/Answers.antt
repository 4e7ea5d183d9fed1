use Rattle.xml_items.proofs.TagSpans.{close_empty, close_start, no_close}
use Rattle.xml_items.proofs.tags.close_of.Goals as goal

pub returns-in-Some-clause-read : goal.returns-in-Some-clause-read
returns-in-Some-clause-read c = close_empty _ _ c.in-Some.ensures.read

pub returns-in_err-rest-clause-read : goal.returns-in_err-rest-clause-read
returns-in_err-rest-clause-read c = rw c.from_residual.ensures (no_close _ c.in_default.ensures.read c.in_err-rest.ensures.read)

pub returns-clause-read : goal.returns-clause-read
returns-clause-read c = close_start _ _ c.in_ok-rest.ensures.read
