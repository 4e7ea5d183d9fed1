use Rattle.vtd_words.proofs.Nodes.{at_room}
use Rattle.vtd_cursor.proofs.SpanLemmas.{start_opens, start_found}
use Rattle.vtd_cursor.proofs.spans.node_start.Goals as goal

pub parts_at-requires : goal.parts_at-requires
parts_at-requires g c = rw c.words.ensures.value (at_room _ _ c.words.ensures.table.few c.args.node c.requires.node)

pub piece_start-requires : goal.piece_start-requires
piece_start-requires g c = start_opens _ _ c.words.ensures.table.few c.args.node c.requires.node c.requires.below c.parts_at.result (rw c.words.ensures.value at c.parts_at.ensures.parts)

pub returns : goal.returns
returns g c = start_found _ _ c.words.ensures.table.few c.args.node c.requires.below c.parts_at.result (rw c.words.ensures.value at c.parts_at.ensures.parts) c.piece_start.result c.piece_start.ensures
