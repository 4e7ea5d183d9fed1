use Rattle.std.proofs.Common.{arith}
use Rattle.vtd_cursor.proofs.SpanLemmas.{last_room}
use Rattle.vtd_cursor.proofs.neighbours.past_of.Goals as goal

pub returns-else-past-records-clause-past : goal.returns-else-past-records-clause-past
returns-else-past-records-clause-past g c = λ nest s e w.
    let room = (last_room _ _ c.words.ensures.table.few c.args.node c.requires c.end_of-past.result c.end_of-past.ensures).within in
    let many = rw c.words.ensures.value at c.len-records.ensures in
    let same = c.end_of-past.ensures nest s e w in
    omega (arith, room, many, same, c.if-past-records.false)
