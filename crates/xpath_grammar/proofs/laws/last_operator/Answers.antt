use Rattle.xpath_grammar.proofs.LastOperator.{last_of}
use Rattle.xpath_grammar.proofs.laws.last_operator.Goals as goal

pub returns : goal.returns
returns c = λ s o us vs t x y is a b. last_of is a b
