use Rattle.std.proofs.Common.{take}
use Rattle.xpath_grammar.specs.Cutting.{AreCuts}
use Rattle.xpath_grammar.proofs.Going.{Scanned}
use Rattle.xpath_grammar.proofs.scan.operators.Given as goal

abbrev pub invariant-loop-i : goal.invariant-loop-i
invariant-loop-i l = record {
  scanned : Scanned (take l.i l.tokens) l.depth l.after l.i;
  cuts : AreCuts l.wanted (take l.i l.tokens) l.found.items;
}
