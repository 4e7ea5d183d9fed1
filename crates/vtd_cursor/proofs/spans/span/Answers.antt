use Rattle.std.proofs.Common.{sym}
use Rattle.vtd_cursor.proofs.SpanLemmas.{root_span}
use Rattle.vtd_cursor.proofs.spans.span.Goals as goal

pub returns-in-Root-clause-start : goal.returns-in-Root-clause-start
returns-in-Root-clause-start g c = λ nest s e w. sym (root_span _ _ c.args.node c.in-Root.is nest s e w).0

pub returns-in-Root-clause-end : goal.returns-in-Root-clause-end
returns-in-Root-clause-end g c = rw (c.bytes.ensures.value, c.table-table.ensures.value) (λ nest s e w. sym (root_span _ _ c.args.node c.in-Root.is nest s e w).1)

pub returns-in_default : goal.returns-in_default
returns-in_default g c = record { start = rw c.table-table.ensures.value at c.node_start.ensures; end = rw c.table-table.ensures.value at c.node_end.ensures }
