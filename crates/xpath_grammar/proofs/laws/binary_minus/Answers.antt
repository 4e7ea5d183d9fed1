use Rattle.std.proofs.Common.{false}
use Rattle.xpath_grammar.proofs.Minus.{minus_law}
use Rattle.xpath_grammar.proofs.laws.binary_minus.Goals as goal

pub returns : goal.returns
returns c = λ s ts e d h. minus_law d false h
