use Rattle.std.proofs.Common.{ℕ, List, ◌++◌, ap, ◌∙◌, subst, arith}
use Rattle.vtd_edits.specs.Turns.{IsDone}
use Rattle.vtd_edits.proofs.Turning.{all_done, begin_done, done_within, next_done, turn_room}
use Rattle.vtd_edits.proofs.splicing.spliced.Goals as goal

pub loop-i-init : goal.loop-i-init
loop-i-init c =
    begin_done c.args.bytes.now c.args.edits.now c.in-Ok.out.items c.turns-i-end.ensures.edits c.turns-i-end.ensures.few c.requires c.in-Ok.ensures.items

pub turn_of-turn-requires : goal.turn_of-turn-requires
turn_of-turn-requires c =
    let room = turn_room c.args.bytes.now c.args.edits.now.splices c.loop-i.i c.loop-i.done c.loop-i.out.items c.splice.result.now c.turns-i-end.ensures.few
    (omega (arith, c.turns-i-end.ensures.value)) c.loop-i.invariant c.splice.ensures in
    record { after = room.after; within = room.within }

pub loop-i-preserved : goal.loop-i-preserved
loop-i-preserved c =
    next_done c.args.bytes.now c.args.edits.now.splices c.loop-i.i c.loop-i.done _ c.loop-i.out.items c.turn_of-turn.result.kept.now
    c.turn_of-turn.result.text.now _
    c.splice.result.now c.turns-i-end.ensures.few (omega (arith, c.turns-i-end.ensures.value)) c.loop-i.invariant c.splice.ensures
    c.turn_of-turn.ensures.kept c.turn_of-turn.ensures.text c.turn_of-turn.ensures.end
    (c.in_ok-push_all-2.ensures ∙ ap (λ (xs : List ℕ). xs ++ c.turn_of-turn.result.text.now) c.in_ok-push_all.ensures)

pub rest_of-requires : goal.rest_of-requires
rest_of-requires c = done_within c.args.bytes.now c.args.edits.now.splices c.loop-i.i c.loop-i.done c.loop-i.out.items c.loop-i.invariant

pub returns : goal.returns
returns c =
    let done = subst (λ (n : ℕ). IsDone c.args.bytes.now c.args.edits.now.splices n c.loop-i.done c.loop-i.out.items)
    (omega (arith, c.turns-i-end.ensures.value)) c.loop-i.invariant in
    c.in_ok-push_all-3.ensures
    ∙ ap (λ (xs : List ℕ). c.loop-i.out.items ++ xs) c.rest_of.ensures
    ∙ all_done c.args.bytes.now c.args.edits.now.splices c.loop-i.done c.loop-i.out.items (omega (arith, c.turns-i-end.ensures.few)) done
