use Rattle.vtd_cursor.proofs.CursorLemmas.{root_beside}
use Rattle.vtd_cursor.proofs.cursor.Cursor.to_root.Goals as goal

pub invariant_of-self : goal.invariant_of-self
invariant_of-self g c = record { holds = root_beside _ _ c.self.inside.node c.self.invariant.holds; kept = c.self.invariant.kept; inline = c.self.invariant.inline }
