use Rattle.vtd_writing.proofs.Joins.{joins_cut, joins_then}
use Rattle.vtd_writing.proofs.joining.join_turn.Goals as goal

pub returns-in-Err : goal.returns-in-Err
returns-in-Err g c =
    joins_cut _ _ c.args.joined.now.items c.join.new.joined.items c.join.new.joined.items c.args.turn.now.kept.now c.args.turn.now.text.now c.in-Err.failed
    c.in-Err.ensures

pub returns : goal.returns
returns g c =
    joins_then _ _ _ c.args.joined.now.items c.join.new.joined.items c.join-2.new.joined.items c.args.turn.now.kept.now c.args.turn.now.text.now
    c.in_default.field-0 c.join-2.result
    c.in_default.ensures c.join-2.ensures
