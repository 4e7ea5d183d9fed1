use Rattle.std.proofs.Common.{arith}
use Rattle.vtd_words.specs.Table.{IsNodeOf}
use Rattle.vtd_cursor.specs.declared.cursor.Place.{Place}
use Rattle.vtd_cursor.proofs.CursorLemmas.{last_saved}
use Rattle.vtd_cursor.proofs.cursor.Cursor.pop.Goals as goal

pub invariant_of-self : goal.invariant_of-self
invariant_of-self g c =
    let items = rw c.in-Some.is at c.pop.ensures.items in
    let kept = last_saved {X = Place} (IsNodeOf c.self.inside.table.now.bytes (g.W.Words.lists c.self.inside.table.now.words)) (λ p. p.node) _ c.pop.new.self.items c.in-Some.place items c.self.invariant.kept in
    record { holds = kept.0; kept = kept.1; inline = omega (arith, c.pop.ensures.capacity, c.self.invariant.inline) }
