use Rattle.xpath_grammar.proofs.Unique.{unique}
use Rattle.xpath_grammar.proofs.laws.one_phrase.Goals as goal

pub returns : goal.returns
returns c = λ s ts e f d g. unique d f g
