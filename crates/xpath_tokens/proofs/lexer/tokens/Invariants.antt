use Rattle.std.proofs.Common.{length}
use Rattle.xpath_tokens.proofs.Splitting.{Lexed}
use Rattle.xpath_tokens.proofs.lexer.tokens.Given as goal

abbrev pub invariant-loop-rest : goal.invariant-loop-rest
invariant-loop-rest l = Lexed l.text l.found.items l.after l.rest

abbrev pub decreases-loop-rest : goal.decreases-loop-rest
decreases-loop-rest l = length l.rest
