use Rattle.vtd_edits.proofs.Held.{held_none}
use Rattle.vtd_edits.proofs.edits.Edits.new.Goals as goal

pub invariant_of-result : goal.invariant_of-result
invariant_of-result c = held_none c.args.length _ _ c.requires c.new.ensures.items c.new-2.ensures.items
