use Rattle.vtd_cursor.proofs.ElementLists.{element_spans_are}
use Rattle.vtd_cursor.proofs.elements.element_spans.Goals as goal

pub returns : goal.returns
returns g c = λ nest s.
    element_spans_are c.args.nav.now.bytes (g.W.Words.lists c.args.nav.now.words) c.in_ok-nodes.nodes.items c.in_ok-spans.spans.items c.in_ok-nodes.ensures.elements
    (rw c.deref.ensures.value at c.in_ok-spans.ensures) nest s
