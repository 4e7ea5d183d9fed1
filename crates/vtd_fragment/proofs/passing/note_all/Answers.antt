use Rattle.std.proofs.Common.{◌∙◌, ◌+◌, [], refl, sym, ap, arith}
use Rattle.std.specs.List.{slice_index_or}
use Rattle.xml_model.specs.Items.{first_place}
use Rattle.xml_model.specs.Records.{records}
use Rattle.vtd_words.proofs.Fitting.{nest_shown}
use Rattle.vtd_words.proofs.Nodes.{at_room}
use Rattle.vtd_namespaces.proofs.OpenLemmas.{tags_within}
use Rattle.vtd_fragment.proofs.PassLemmas.{noted_begin, noted_more, holder_attributes}
use Rattle.vtd_fragment.proofs.PushLemmas.{tag_of_level}
use Rattle.vtd_fragment.proofs.passing.note_all.Goals as goal

pub loop-level-init : goal.loop-level-init
loop-level-init g c = λ nest s e w near far is many. noted_begin c.new-prefixes.result c.new-prefixes.ensures.empty far many

pub note-requires : goal.note-requires
note-requires g c =
    rw (c.words-words.ensures.value, c.tag_at-tag.ensures)
    (record { room = tags_within c.args.table.now.bytes (g.W.Words.lists c.args.table.now.words) c.words-words.ensures.table c.args.open_tags.now (c.args.node.at + 1) (omega (arith, at_room _ _ c.words-words.ensures.table.few c.args.node c.requires.node)) c.requires.opened c.loop-level.level })

pub loop-level-preserved : goal.loop-level-preserved
loop-level-preserved g c = λ nest s e w.
    let bytes = c.args.table.now.bytes in
    let rs = records nest (first_place bytes) in
    let shown = nest_shown bytes (g.W.Words.lists c.args.table.now.words) nest c.words-words.ensures.table.few s in
    noted_more c.loop-level.prefixes c.note.new.prefixes e.holders c.loop-level.level (c.loop-level.invariant nest s e w) (λ near far x is many.
    let tag = c.tag_at-tag.ensures ∙ ap (λ k. slice_index_or c.args.open_tags.now k 0) (sym many)
    ∙ tag_of_level bytes (g.W.Words.lists c.args.table.now.words) nest c.args.node s c.requires.element e w c.args.open_tags.now (c.requires.opened rs shown) (omega (arith, c.level_at-count.ensures.level nest s e w, c.level_at-count.ensures.small)) near far x is in
    let place = holder_attributes bytes nest s.accepted.document e w.0 near far x is c.tag_at-tag.result tag in
    (rw (c.words-words.ensures.value, c.bytes-bytes.ensures.value) at c.in_ok-note.ensures) rs shown place.0 x.tag place.1)

pub returns : goal.returns
returns g c = λ nest s e w. c.loop-level.invariant nest s e w [] e.holders refl (omega (arith, c.loop-level-test.false, c.loop-level.auto.level-end, c.level_at-count.ensures.level nest s e w))
