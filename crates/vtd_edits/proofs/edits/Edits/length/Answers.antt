use Rattle.std.proofs.Common.{length, sym, ap, ◌∙◌}
use Rattle.vtd_edits.specs.Splices.{spliced, Staged}
use Rattle.vtd_edits.proofs.Held.{held_length, held_room}
use Rattle.vtd_edits.proofs.edits.Edits.length.Goals as goal

pub overflow_sub-result : goal.overflow_sub-result
overflow_sub-result c = let x = c.self.inside in held_room x.len x.staged.items x.order.items x.text x.taken c.self.invariant

pub returns : goal.returns
returns c = λ bytes e.
    let x = c.self.inside in
    held_length x.len x.staged.items x.order.items x.text x.taken c.self.invariant bytes (e ∙ sym (ap (λ (s : Staged). s.len) c.self.view_is))
    ∙ ap (λ (s : Staged). length (spliced bytes s.splices)) c.self.view_is
