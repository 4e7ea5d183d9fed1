use Rattle.vtd_edits.proofs.Held.{held_none}
use Rattle.vtd_edits.proofs.edits.Edits.clear.Goals as goal

pub invariant_of-self : goal.invariant_of-self
invariant_of-self c = held_none c.self.inside.len _ _ c.self.invariant.small c.clear.ensures.items c.clear-2.ensures.items
