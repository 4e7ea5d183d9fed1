use Rattle.std.proofs.Common.{arith, false}
use Rattle.xpath_grammar.proofs.Clean.{clean}
use Rattle.xpath_grammar.proofs.LastOperator.{first_of}
use Rattle.xpath_grammar.proofs.laws.first_slash.Goals as goal

pub returns : goal.returns
returns c = λ us vs t x y s a b. let k = clean a false tt in first_of us (k.level 0) (k.flat 9 (omega arith))
