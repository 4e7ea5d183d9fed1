use Rattle.vtd_cursor.proofs.ElementLists.{IsElementsTo}
use Rattle.vtd_cursor.proofs.elements.elements_of.Given as goal

abbrev pub invariant-loop-at : goal.invariant-loop-at
invariant-loop-at g l = IsElementsTo l.nav.bytes (g.W.Words.lists l.nav.words) l.nodes.items l.at
