use Rattle.std.proofs.Common.{arith}
use Rattle.vtd_edits.proofs.Turning.{done_within, turn_room}
use Rattle.vtd_writing.proofs.Joins.{joining_starts, joining_on, joining_cut, joining_last_cut, joining_ends}
use Rattle.vtd_writing.proofs.writing.append_new.Goals as goal

pub loop-i-init : goal.loop-i-init
loop-i-init g c =
    joining_starts _ c.new-joined.result.items c.args.bytes.now c.args.edits.now c.requires.writing c.new-joined.ensures c.turns-i-end.ensures.edits
    c.turns-i-end.ensures.few c.requires.length

pub turn_of-turn-requires-clause-after : goal.turn_of-turn-requires-clause-after
turn_of-turn-requires-clause-after g c =
    let room = turn_room c.args.bytes.now c.args.edits.now.splices c.loop-i.i c.loop-i.done c.loop-i.invariant.out c.splice.result.now c.turns-i-end.ensures.few
    (omega (arith, c.turns-i-end.ensures.value)) c.loop-i.invariant.is_done c.splice.ensures in
    room.after

pub turn_of-turn-requires-clause-within : goal.turn_of-turn-requires-clause-within
turn_of-turn-requires-clause-within g c =
    let room = turn_room c.args.bytes.now c.args.edits.now.splices c.loop-i.i c.loop-i.done c.loop-i.invariant.out c.splice.result.now c.turns-i-end.ensures.few
    (omega (arith, c.turns-i-end.ensures.value)) c.loop-i.invariant.is_done c.splice.ensures in
    room.within

pub returns-in-Err : goal.returns-in-Err
returns-in-Err g c =
    joining_cut c.args.bytes.now c.args.edits.now.splices c.loop-i.i c.loop-i.done c.turn_of-turn.result.end c.turn_of-turn.result.kept.now
    c.turn_of-turn.result.text.now c.splice.result.now
    c.turns-i-end.ensures.few (omega (arith, c.turns-i-end.ensures.value)) c.splice.ensures c.turn_of-turn.ensures.kept c.turn_of-turn.ensures.text
    c.turn_of-turn.ensures.end
    _ _ _ c.loop-i.joined.items c.join_turn.new.joined.items c.in-Err.failed c.loop-i.invariant c.in-Err.ensures

pub loop-i-preserved : goal.loop-i-preserved
loop-i-preserved g c =
    joining_on c.args.bytes.now c.args.edits.now.splices c.loop-i.i c.loop-i.done c.turn_of-turn.result.end c.turn_of-turn.result.kept.now
    c.turn_of-turn.result.text.now c.splice.result.now
    c.turns-i-end.ensures.few (omega (arith, c.turns-i-end.ensures.value)) c.splice.ensures c.turn_of-turn.ensures.kept c.turn_of-turn.ensures.text
    c.turn_of-turn.ensures.end
    _ _ _ c.loop-i.joined.items c.join_turn.new.joined.items c.in_default.field-0 c.loop-i.invariant c.in_default.ensures

pub rest_of-requires : goal.rest_of-requires
rest_of-requires g c = done_within c.args.bytes.now c.args.edits.now.splices c.loop-i.i c.loop-i.done c.loop-i.invariant.out c.loop-i.invariant.is_done

pub returns-in-Err-join : goal.returns-in-Err-join
returns-in-Err-join g c =
    joining_last_cut _ _ _ c.loop-i.joined.items c.join.new.joined.items c.rest_of.result.now c.args.bytes.now c.args.edits.now.splices c.loop-i.i c.loop-i.done
    c.in-Err-join.failed
    c.turns-i-end.ensures.few (omega (arith, c.turns-i-end.ensures.value)) c.rest_of.ensures c.loop-i.invariant c.in-Err-join.ensures

pub returns : goal.returns
returns g c =
    joining_ends _ _ _ _ c.loop-i.joined.items c.join.new.joined.items c.rest_of.result.now c.args.bytes.now c.args.edits.now.splices c.loop-i.i c.loop-i.done
    c.in_default-join.field-0 c.flush.result
    c.turns-i-end.ensures.few (omega (arith, c.turns-i-end.ensures.value)) c.rest_of.ensures c.loop-i.invariant c.in_default-join.ensures c.flush.ensures.adds
