use Rattle.std.proofs.Common.{arith}
use Rattle.vtd_cursor.proofs.PassSteps.{top_ends, at_last, last_within, has_last, closing_starts, tags_there, number_fits, closing_on, passed_record}
use Rattle.vtd_cursor.proofs.listed.end_open.Goals as goal

pub returns-then-bound-level-clause-pass : goal.returns-then-bound-level-clause-pass
returns-then-bound-level-clause-pass g c = λ nodes done p.
    passed_record c.args.table.now.bytes (g.W.Words.lists c.args.table.now.words) nodes c.args.spans.now c.args.elements.now.slots c.args.elements.now.bound done c.args.at c.args.level
    c.words-words.ensures.table.few c.requires.level c.requires.within (omega (arith, c.if-bound-level.true, c.bound.ensures)) p

pub overflow_sub-at : goal.overflow_sub-at
overflow_sub-at g c =
    let top = top_ends c.args.table.now.bytes (g.W.Words.lists c.args.table.now.words) c.args.spans.now c.args.elements.now.slots c.args.elements.now.bound c.args.at c.args.level
    c.words-words.ensures.table c.requires.level c.requires.pass (omega (arith, c.if-bound-level.false, c.bound.ensures)) in
    omega (arith, at_last _ _ c.args.elements.now.bound c.args.at top)

pub last_piece-piece-requires-clause-within : goal.last_piece-piece-requires-clause-within
last_piece-piece-requires-clause-within g c =
    let top = top_ends c.args.table.now.bytes (g.W.Words.lists c.args.table.now.words) c.args.spans.now c.args.elements.now.slots c.args.elements.now.bound c.args.at c.args.level
    c.words-words.ensures.table c.requires.level c.requires.pass (omega (arith, c.if-bound-level.false, c.bound.ensures)) in
    rw c.words-words.ensures.value (last_within (g.W.Words.lists c.args.table.now.words).records c.args.at (at_last _ _ c.args.elements.now.bound c.args.at top) c.requires.within)

pub last_piece-piece-requires-clause-piece : goal.last_piece-piece-requires-clause-piece
last_piece-piece-requires-clause-piece g c =
    let top = top_ends c.args.table.now.bytes (g.W.Words.lists c.args.table.now.words) c.args.spans.now c.args.elements.now.slots c.args.elements.now.bound c.args.at c.args.level
    c.words-words.ensures.table c.requires.level c.requires.pass (omega (arith, c.if-bound-level.false, c.bound.ensures)) in
    rw (c.words-words.ensures.value, c.bytes-bytes.ensures.value)
    (has_last c.args.table.now.bytes (g.W.Words.lists c.args.table.now.words) c.args.elements.now.bound c.args.at top)

pub ends-init : goal.ends-init
ends-init g c =
    closing_starts c.args.table.now.bytes (g.W.Words.lists c.args.table.now.words) c.args.spans.now c.args.elements.now.slots c.args.elements.now.bound c.args.at c.args.level
    c.last_piece-piece.result.opened c.last_piece-piece.result.end c.words-words.ensures.table c.requires.level c.requires.pass (omega (arith, c.if-bound-level.false, c.bound.ensures))
    (rw (c.words-words.ensures.value, c.bytes-bytes.ensures.value) at c.last_piece-piece.ensures.end)
    (rw (c.words-words.ensures.value, c.bytes-bytes.ensures.value) at c.last_piece-piece.ensures.opened)

pub after_end_tags-end-requires-clause-tags : goal.after_end_tags-end-requires-clause-tags
after_end_tags-end-requires-clause-tags g c =
    rw (c.bound-opened.ensures, c.bytes-bytes.ensures.value) (tags_there c.args.table.now.bytes (g.W.Words.lists c.args.table.now.words) c.args.spans.now c.args.elements.now.slots
    c.args.elements.now.bound c.ends.spans c.ends.elements.slots c.ends.elements.bound c.args.at c.ends.piece.opened c.ends.piece.end c.args.level
    c.words-words.ensures.table c.requires.level c.ends.invariant (omega (arith, c.ends-test.true, c.bound-in-ends.ensures)))

pub write_end-requires : goal.write_end-requires
write_end-requires g c =
    rw c.pop-number.ensures.number (number_fits c.args.table.now.bytes (g.W.Words.lists c.args.table.now.words) c.ends.spans c.ends.elements.slots c.ends.elements.bound c.args.at
    c.words-words.ensures.table c.ends.invariant.has (omega (arith, c.ends-test.true, c.bound-in-ends.ensures))).1

pub ends-preserved : goal.ends-preserved
ends-preserved g c =
    rw (c.pop-number.ensures.slots, c.pop-number.ensures.bound, c.bound-opened.ensures) (closing_on c.args.table.now.bytes (g.W.Words.lists c.args.table.now.words) c.args.spans.now
    c.args.elements.now.slots c.args.elements.now.bound c.ends.spans c.write_end.new.spans c.ends.elements.slots c.ends.elements.bound c.args.at c.ends.piece.opened c.ends.piece.end c.args.level
    c.after_end_tags-end.result c.words-words.ensures.table c.requires.level c.ends.invariant (omega (arith, c.ends-test.true, c.bound-in-ends.ensures))
    (rw (c.bound-opened.ensures, c.bytes-bytes.ensures.value) at c.after_end_tags-end.ensures) (rw c.pop-number.ensures.number at c.write_end.ensures))

pub returns-clause-pass : goal.returns-clause-pass
returns-clause-pass g c = λ nodes done p.
    passed_record c.args.table.now.bytes (g.W.Words.lists c.args.table.now.words) nodes c.ends.spans c.ends.elements.slots c.ends.elements.bound done c.args.at c.args.level
    c.words-words.ensures.table.few c.requires.level c.requires.within (omega (arith, c.ends-test.false, c.bound-in-ends.ensures)) (c.ends.invariant.kept nodes done p)
