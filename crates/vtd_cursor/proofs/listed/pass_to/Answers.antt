use Rattle.std.proofs.Common.{arith}
use Rattle.vtd_words.proofs.Nodes.{level_shown}
use Rattle.vtd_cursor.proofs.PassSteps.{skipped, passing_on, passed_to}
use Rattle.vtd_cursor.proofs.listed.pass_to.Goals as goal

pub returns-then-bound-eq0 : goal.returns-then-bound-eq0
returns-then-bound-eq0 g c = λ nodes done p.
    skipped c.args.table.now.bytes (g.W.Words.lists c.args.table.now.words) nodes c.loop-at.spans c.loop-at.elements.slots c.loop-at.elements.bound done c.loop-at.at c.args.to
    (omega (arith, c.if-bound-eq0.true, c.bound.ensures)) (c.loop-at.invariant.kept nodes done p)

pub end_open-requires-clause-level : goal.end_open-requires-clause-level
end_open-requires-clause-level g c = λ nest s.
    level_shown c.args.table.now.bytes (g.W.Words.lists c.args.table.now.words) c.words-words.ensures.table.few c.loop-at.at c.level_of-level.result c.parts_at.result
    (rw c.words-words.ensures.value at c.parts_at.ensures.parts) c.level_of-level.ensures nest s

pub loop-at-preserved : goal.loop-at-preserved
loop-at-preserved g c =
    passing_on c.args.table.now.bytes (g.W.Words.lists c.args.table.now.words) c.args.spans.now c.args.elements.now.slots c.args.elements.now.bound c.args.from c.loop-at.spans c.end_open.new.spans
    c.loop-at.elements.slots c.end_open.new.elements.slots c.loop-at.elements.bound c.end_open.new.elements.bound c.loop-at.at c.loop-at.invariant c.end_open.ensures.pass

pub returns : goal.returns
returns g c = λ nodes done p.
    passed_to c.args.table.now.bytes (g.W.Words.lists c.args.table.now.words) nodes c.loop-at.spans c.loop-at.elements.slots c.loop-at.elements.bound done c.loop-at.at c.args.to
    (omega (arith, c.loop-at-test.false, c.loop-at.auto.at-end, c.requires.order)) (c.loop-at.invariant.kept nodes done p)
