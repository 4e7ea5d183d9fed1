use Rattle.std.proofs.Common.{arith}
use Rattle.vtd_words.proofs.Nodes.{at_room}
use Rattle.vtd_words.proofs.table.Table.after_first.Goals as goal

pub index_after-requires : goal.index_after-requires
index_after-requires g c = let n = rw (← c.self.view_is) at c.requires in at_room _ _ c.self.invariant.few c.args.node n

pub returns-clause-within : goal.returns-clause-within
returns-clause-within g c =
    let n = rw (← c.self.view_is) at c.requires in
    let room = at_room _ _ c.self.invariant.few c.args.node n in
    rw (← c.self.view_is) (omega (arith, room, c.index_after.ensures))
