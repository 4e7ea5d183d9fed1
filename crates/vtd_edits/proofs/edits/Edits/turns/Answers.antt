use Rattle.std.proofs.Common.{ap, arith}
use Rattle.vtd_edits.specs.Splices.{Staged}
use Rattle.vtd_edits.proofs.Turning.{held_turns}
use Rattle.vtd_edits.proofs.edits.Edits.turns.Goals as goal

pub returns-clause-value : goal.returns-clause-value
returns-clause-value c =
    let x = c.self.inside in
    let e = held_turns x.len x.staged.items c.args.self.now.splices x.order.items x.text x.taken c.self.invariant
    (ap (λ (s : Staged). s.splices) c.self.view_is) in
    omega (arith, c.len.ensures, x.order.ok, e)
