use Rattle.std.proofs.Common.{◌≡◌, ◌++◌, take}
use Rattle.vtd_edits.specs.Order.{keys_from}
use Rattle.vtd_edits.proofs.staging.push_keys.Given as goal

abbrev pub invariant-loop-i : goal.invariant-loop-i
invariant-loop-i l = l.order.items ≡ l.fn.order.items ++ keys_from l.first (take l.i l.list)
