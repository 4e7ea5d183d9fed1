use Rattle.vtd_cursor.specs.Passes.{IsBegunTo}
use Rattle.vtd_cursor.proofs.listed.begun_spans.Given as goal

abbrev pub invariant-loop-node : goal.invariant-loop-node
invariant-loop-node g l = IsBegunTo l.nav.bytes (g.W.Words.lists l.nav.words) l.nodes l.spans.items l.node-index
