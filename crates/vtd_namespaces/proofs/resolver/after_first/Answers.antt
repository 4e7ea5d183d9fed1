use Rattle.std.proofs.Common.{arith}
use Rattle.vtd_words.proofs.Nodes.{at_room}
use Rattle.vtd_namespaces.proofs.resolver.after_first.Goals as goal

pub prove-unreachable-requires : goal.prove-unreachable-requires
prove-unreachable-requires g c =
    let len = rw c.words.ensures.value at c.len-records.ensures in
    omega (arith, len, at_room _ _ c.words.ensures.table.few _ c.requires, c.if-prove.true)
