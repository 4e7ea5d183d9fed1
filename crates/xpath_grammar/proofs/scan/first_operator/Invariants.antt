use Rattle.std.proofs.Common.{take, false}
use Rattle.xpath_grammar.specs.Cutting.{Free}
use Rattle.xpath_grammar.proofs.Going.{Scanned}
use Rattle.xpath_grammar.proofs.scan.first_operator.Given as goal

abbrev pub invariant-loop-i : goal.invariant-loop-i
invariant-loop-i l = record {
  scanned : Scanned (take l.i l.tokens) l.depth l.after l.i;
  free : Free l.wanted 0 false (take l.i l.tokens);
}
