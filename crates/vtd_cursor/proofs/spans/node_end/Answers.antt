use Rattle.vtd_words.proofs.Nodes.{at_room}
use Rattle.vtd_cursor.proofs.SpanLemmas.{last_room, element_has, element_found, last_found}
use Rattle.vtd_cursor.proofs.spans.node_end.Goals as goal

pub overflow_sub-last : goal.overflow_sub-last
overflow_sub-last g c = (last_room _ _ c.words-words.ensures.table.few c.args.node c.requires.node c.end_of-last.result c.end_of-last.ensures).some

pub parts_at-requires : goal.parts_at-requires
parts_at-requires g c = rw c.words-words.ensures.value (at_room _ _ c.words-words.ensures.table.few c.args.node c.requires.node)

pub end_of_level-requires-clause-within : goal.end_of_level-requires-clause-within
end_of_level-requires-clause-within g c = rw c.words-words.ensures.value (last_room _ _ c.words-words.ensures.table.few c.args.node c.requires.node c.end_of-last.result c.end_of-last.ensures).within

pub end_of_level-requires-clause-ending : goal.end_of_level-requires-clause-ending
end_of_level-requires-clause-ending g c =
    rw (c.words-words.ensures.value, c.bytes.ensures.value) (element_has _ _ c.words-words.ensures.table.few c.args.node c.requires.node c.in-Element.is c.parts_at.result (rw c.words-words.ensures.value at c.parts_at.ensures.parts) c.end_of-last.result c.end_of-last.ensures)

pub parts_at-requires-in_default : goal.parts_at-requires-in_default
parts_at-requires-in_default g c = rw c.words-words.ensures.value (last_room _ _ c.words-words.ensures.table.few c.args.node c.requires.node c.end_of-last.result c.end_of-last.ensures).within

pub returns-in-Element : goal.returns-in-Element
returns-in-Element g c =
    element_found _ _ c.words-words.ensures.table.few c.args.node c.in-Element.is c.parts_at.result (rw c.words-words.ensures.value at c.parts_at.ensures.parts) c.end_of-last.result c.end_of-last.ensures c.end_of_level.result
    (rw (c.words-words.ensures.value, c.bytes.ensures.value) at c.end_of_level.ensures)

pub returns-in_default : goal.returns-in_default
returns-in_default g c =
    last_found _ _ c.words-words.ensures.table.few c.args.node c.requires.below c.in_default.not-Element c.end_of-last.result c.end_of-last.ensures c.parts_at-in_default.result (rw c.words-words.ensures.value at c.parts_at-in_default.ensures.parts) c.record_end.result c.record_end.ensures
