use Rattle.vtd_words.proofs.Nodes.{at_room}
use Rattle.vtd_cursor.proofs.TagLemmas.{tag_has, empty_tags, two_tags, has_end_tag}
use Rattle.vtd_cursor.proofs.spans.tags_of.Goals as goal

pub tag_of-tag-requires-clause-within : goal.tag_of-tag-requires-clause-within
tag_of-tag-requires-clause-within g c = rw (c.words.ensures.value, c.table-table.ensures.value) (at_room _ _ c.table-table.ensures.nav.few c.args.node c.requires.node)

pub tag_of-tag-requires-clause-tag : goal.tag_of-tag-requires-clause-tag
tag_of-tag-requires-clause-tag g c = rw (c.words.ensures.value, c.bytes.ensures.value, c.table-table.ensures.value) (tag_has _ _ c.table-table.ensures.nav.few c.args.node c.requires.node c.requires.element)

pub inside_end-requires : goal.inside_end-requires
inside_end-requires g c = rw c.table-table.ensures.value (record {
  node = c.requires.node;
  element = has_end_tag _ _ c.table-table.ensures.nav.few c.args.node c.requires.node c.requires.element c.tag_of-tag.result (rw (c.words.ensures.value, c.bytes.ensures.value, c.table-table.ensures.value) at c.tag_of-tag.ensures) c.in_default.not-EmptyTag;
})

pub returns-in-EmptyTag : goal.returns-in-EmptyTag
returns-in-EmptyTag g c =
    empty_tags _ _ c.table-table.ensures.nav.few c.args.node c.tag_of-tag.result (rw (c.words.ensures.value, c.bytes.ensures.value, c.table-table.ensures.value) at c.tag_of-tag.ensures) c.in-EmptyTag.is

pub returns-in_default : goal.returns-in_default
returns-in_default g c =
    two_tags _ _ c.table-table.ensures.nav.few c.args.node c.tag_of-tag.result (rw (c.words.ensures.value, c.bytes.ensures.value, c.table-table.ensures.value) at c.tag_of-tag.ensures) c.in_default.not-EmptyTag c.inside_end.result
    (rw c.table-table.ensures.value at c.inside_end.ensures)
