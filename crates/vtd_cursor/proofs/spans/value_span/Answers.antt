use Rattle.vtd_cursor.proofs.SpanLemmas.{last_room}
use Rattle.vtd_cursor.proofs.TagLemmas.{value_found, quote_found}
use Rattle.vtd_cursor.proofs.spans.value_span.Goals as goal

pub overflow_sub-end_of : goal.overflow_sub-end_of
overflow_sub-end_of g c = (last_room _ _ c.table-table.ensures.nav.few c.args.node c.requires.node c.end_of.result (rw c.table-table.ensures.value at c.end_of.ensures)).some

pub parts_at-value-requires : goal.parts_at-value-requires
parts_at-value-requires g c =
    rw (c.words.ensures.value, c.table-table.ensures.value) (last_room _ _ c.table-table.ensures.nav.few c.args.node c.requires.node c.end_of.result (rw c.table-table.ensures.value at c.end_of.ensures)).within

pub returns-clause-value : goal.returns-clause-value
returns-clause-value g c =
    value_found _ _ c.table-table.ensures.nav.few c.args.node c.end_of.result (rw c.table-table.ensures.value at c.end_of.ensures) c.parts_at-value.result (rw (c.words.ensures.value, c.table-table.ensures.value) at c.parts_at-value.ensures.parts)

pub returns-clause-quote : goal.returns-clause-quote
returns-clause-quote g c =
    quote_found _ _ c.table-table.ensures.nav.few c.args.node c.requires.attribute c.end_of.result (rw c.table-table.ensures.value at c.end_of.ensures) c.parts_at-value.result (rw (c.words.ensures.value, c.table-table.ensures.value) at c.parts_at-value.ensures.parts)
