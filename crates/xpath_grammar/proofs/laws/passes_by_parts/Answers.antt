use Rattle.xpath_grammar.proofs.PassLemmas.{no_refusals_pass, passes_no_refusals}
use Rattle.xpath_grammar.proofs.laws.passes_by_parts.Goals as goal

pub returns : goal.returns
returns c = λ bs e. (no_refusals_pass bs e, passes_no_refusals bs e)
