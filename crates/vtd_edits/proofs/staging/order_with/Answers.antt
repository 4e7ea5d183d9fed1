use Rattle.std.proofs.Common.{arith}
use Rattle.vtd_edits.proofs.Staged.{order_with}
use Rattle.vtd_edits.proofs.staging.order_with.Goals as goal

pub returns-in-Ok-clause-order : goal.returns-in-Ok-clause-order
returns-in-Ok-clause-order c =
    order_with c.args.staged.now c.args.list.now c.args.order.now _ c.requires.sorted (omega arith) c.in-Ok.ensures.same c.in-Ok.ensures.rises
