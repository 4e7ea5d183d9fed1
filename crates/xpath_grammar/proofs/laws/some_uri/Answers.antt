use Rattle.xpath_grammar.proofs.BoundPrefixes.{uri_there}
use Rattle.xpath_grammar.proofs.laws.some_uri.Goals as goal

pub returns : goal.returns
returns c = λ bs p u h k. uri_there bs p u h k
