use Rattle.std.proofs.Common.{arith}
use Rattle.vtd_cursor.specs.Moves.{root_node}
use Rattle.vtd_cursor.proofs.PassSteps.{none_passed, begins_on, has_pass, level_of_node, element_passed, other_passed, past_all, all_spans}
use Rattle.vtd_cursor.proofs.listed.end_all.Goals as goal

pub loop-i-init : goal.loop-i-init
loop-i-init g c =
    none_passed c.args.table.now.bytes (g.W.Words.lists c.args.table.now.words) c.args.nodes.now c.args.spans.now c.new-elements.result.slots c.new-elements.result.bound
    c.new-elements.ensures.slots c.new-elements.ensures.bound c.requires.begun

pub pass_to-requires-clause-order : goal.pass_to-requires-clause-order
pass_to-requires-clause-order g c =
    begins_on c.args.table.now.bytes (g.W.Words.lists c.args.table.now.words) c.args.nodes.now c.loop-i.spans c.loop-i.elements.slots c.loop-i.elements.bound c.loop-i.i c.loop-i.next
    c.requires.order c.loop-i.invariant (omega (arith, c.loop-i-test.true))

pub pass_to-requires-clause-pass : goal.pass_to-requires-clause-pass
pass_to-requires-clause-pass g c =
    has_pass c.args.table.now.bytes (g.W.Words.lists c.args.table.now.words) c.args.nodes.now c.loop-i.spans c.loop-i.elements.slots c.loop-i.elements.bound c.loop-i.i c.loop-i.next
    c.requires.nodes c.loop-i.invariant.pass

pub end_open-requires-clause-level : goal.end_open-requires-clause-level
end_open-requires-clause-level g c =
    level_of_node c.args.table.now.bytes (g.W.Words.lists c.args.table.now.words) _ c.level_at-level.result c.words-words.ensures.table.few
    (c.requires.nodes c.loop-i.i root_node (omega (arith, c.loop-i-test.true))) c.level_at-level.ensures.level

pub end_open-requires-clause-pass : goal.end_open-requires-clause-pass
end_open-requires-clause-pass g c =
    has_pass c.args.table.now.bytes (g.W.Words.lists c.args.table.now.words) c.args.nodes.now c.pass_to.new.spans c.pass_to.new.elements.slots c.pass_to.new.elements.bound c.loop-i.i _
    c.requires.nodes (c.pass_to.ensures c.args.nodes.now c.loop-i.i c.loop-i.invariant.pass)

pub loop-i-preserved : goal.loop-i-preserved
loop-i-preserved g c =
    element_passed c.args.table.now.bytes (g.W.Words.lists c.args.table.now.words) c.args.nodes.now c.end_open.new.spans c.end_open.new.elements.slots c.push.new.self.slots
    c.end_open.new.elements.bound c.push.new.self.bound c.loop-i.i c.level_at-level.result c.after_first-next.result
    (c.end_open.ensures.pass c.args.nodes.now c.loop-i.i (c.pass_to.ensures c.args.nodes.now c.loop-i.i c.loop-i.invariant.pass))
    (omega (arith, c.loop-i-test.true)) c.in-Element.is
    (level_of_node c.args.table.now.bytes (g.W.Words.lists c.args.table.now.words) _ c.level_at-level.result c.words-words.ensures.table.few
    (c.requires.nodes c.loop-i.i root_node (omega (arith, c.loop-i-test.true))) c.level_at-level.ensures.level)
    c.end_open.ensures.bound c.level_at-level.ensures.small c.level_at-level.ensures.within c.push.ensures.slots c.push.ensures.bound c.after_first-next.ensures.index

pub loop-i-preserved-in_default : goal.loop-i-preserved-in_default
loop-i-preserved-in_default g c =
    other_passed c.args.table.now.bytes (g.W.Words.lists c.args.table.now.words) c.args.nodes.now c.loop-i.spans c.loop-i.elements.slots c.loop-i.elements.bound c.loop-i.i c.loop-i.next
    c.requires.order c.loop-i.invariant (omega (arith, c.loop-i-test.true)) c.in_default.not-Element

pub end_open-requires-2-clause-pass : goal.end_open-requires-2-clause-pass
end_open-requires-2-clause-pass g c =
    has_pass c.args.table.now.bytes (g.W.Words.lists c.args.table.now.words) c.args.nodes.now c.pass_to-2.new.spans c.pass_to-2.new.elements.slots c.pass_to-2.new.elements.bound c.loop-i.i _
    c.requires.nodes (c.pass_to-2.ensures c.args.nodes.now c.loop-i.i c.loop-i.invariant.pass)

pub returns : goal.returns
returns g c =
    let many = rw c.words-words.ensures.value at c.len-records.ensures in
    all_spans c.args.table.now.bytes (g.W.Words.lists c.args.table.now.words) c.args.nodes.now c.end_open-2.new.spans c.end_open-2.new.elements.slots c.end_open-2.new.elements.bound c.loop-i.i _
    c.words-words.ensures.table (c.end_open-2.ensures.pass c.args.nodes.now c.loop-i.i (c.pass_to-2.ensures c.args.nodes.now c.loop-i.i c.loop-i.invariant.pass))
    (omega (arith, c.loop-i-test.false)) (past_all _ _ many)
