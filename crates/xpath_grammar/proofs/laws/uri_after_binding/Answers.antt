use Rattle.xpath_grammar.proofs.BoundPrefixes.{uri_bound}
use Rattle.xpath_grammar.proofs.laws.uri_after_binding.Goals as goal

pub returns : goal.returns
returns c = λ bs p u q h. uri_bound bs p u q h
