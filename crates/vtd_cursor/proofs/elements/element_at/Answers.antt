use Rattle.vtd_cursor.proofs.ElementLists.{element_found, other_found}
use Rattle.vtd_cursor.proofs.elements.element_at.Goals as goal

pub returns-in-Element-clause-element : goal.returns-in-Element-clause-element
returns-in-Element-clause-element g c = λ nest s. element_found c.in_ok-node.node _ ((rw c.table.ensures.value at c.in_ok-node.ensures.node) nest s) c.in-Element.is

pub returns-in_default-clause-element : goal.returns-in_default-clause-element
returns-in_default-clause-element g c = λ nest s. other_found c.in_ok-node.node _ ((rw c.table.ensures.value at c.in_ok-node.ensures.node) nest s) c.in_default.not-Element
