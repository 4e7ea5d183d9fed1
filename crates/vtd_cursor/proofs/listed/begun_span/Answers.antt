use Rattle.vtd_cursor.proofs.listed.begun_span.Goals as goal

pub returns-in-Element : goal.returns-in-Element
returns-in-Element g c = λ nest s. record { start = (rw c.table.ensures.value at c.node_start-start.ensures) nest s; end = λ no. absurd (no c.in-Element.is) }
