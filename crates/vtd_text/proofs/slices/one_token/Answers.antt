use Rattle.std.proofs.Common.{arith}
use Rattle.vtd_words.specs.Packed.{record_of}
use Rattle.vtd_words.proofs.Nodes.{text_room}
use Rattle.vtd_text.proofs.NodeFacts.{row_within}
use Rattle.vtd_text.proofs.RawFacts.{run_after, text_written, text_unwritten}
use Rattle.vtd_text.proofs.slices.one_token.Goals as goal

pub parts_at-first-requires : goal.parts_at-first-requires
parts_at-first-requires g c = rw c.words-words.ensures.value (text_room _ _ c.words-words.ensures.table.few c.args.node c.requires.node c.requires.text)

pub whole_from-whole-requires-clause-next : goal.whole_from-whole-requires-clause-next
whole_from-whole-requires-clause-next g c = omega (arith, c.after_first.ensures.index, run_after _ _ c.args.node c.run_end-past.result c.requires.node c.run_end-past.ensures)

pub whole_from-whole-requires-clause-past : goal.whole_from-whole-requires-clause-past
whole_from-whole-requires-clause-past g c = rw c.words-words.ensures.value (row_within _ _ c.words-words.ensures.table.few c.args.node c.run_end-past.result c.requires.node c.run_end-past.ensures)

pub returns-then-whole-past : goal.returns-then-whole-past
returns-then-whole-past g c = λ nest s e w.
    let p = rw c.words-words.ensures.value at c.parts_at-first.ensures.parts in
    let f = rw (c.words-words.ensures.value, c.after_first.ensures.index) at c.whole_from-whole.ensures.whole in
    text_written _ _ c.words-words.ensures.table.few c.args.node.kind c.args.node.at c.run_end-past.result (record_of c.parts_at-first.result) (record_of c.whole_from-whole.result.parts) c.whole_from-whole.result.next c.requires.text
    (record { first = p; in_run = c.whole_from-whole.ensures.past; whole = f }) c.if-whole-past.true nest s e w (c.run_end-past.ensures nest s e w)

pub returns-else-whole-past : goal.returns-else-whole-past
returns-else-whole-past g c = λ nest s e w.
    let p = rw c.words-words.ensures.value at c.parts_at-first.ensures.parts in
    let f = rw (c.words-words.ensures.value, c.after_first.ensures.index) at c.whole_from-whole.ensures.whole in
    text_unwritten _ _ c.words-words.ensures.table.few c.args.node.kind c.args.node.at c.run_end-past.result (record_of c.parts_at-first.result) (record_of c.whole_from-whole.result.parts) c.whole_from-whole.result.next c.requires.text
    (record { first = p; in_run = c.whole_from-whole.ensures.past; whole = f }) c.if-whole-past.false nest s e w (c.run_end-past.ensures nest s e w)
