use Rattle.vtd_words.proofs.Nodes.{at_room}
use Rattle.vtd_cursor.proofs.TagLemmas.{name_found}
use Rattle.vtd_cursor.proofs.spans.name_span.Goals as goal

pub parts_at-name-requires : goal.parts_at-name-requires
parts_at-name-requires g c =
    rw (c.words.ensures.value, c.table-table.ensures.value) (at_room _ _ c.table-table.ensures.nav.few c.args.node c.requires.node)

pub returns : goal.returns
returns g c =
    name_found _ _ c.table-table.ensures.nav.few c.args.node c.parts_at-name.result
    (rw (c.words.ensures.value, c.table-table.ensures.value) at c.parts_at-name.ensures.parts)
