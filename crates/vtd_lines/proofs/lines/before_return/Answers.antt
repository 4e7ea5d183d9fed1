use Rattle.vtd_lines.proofs.LineLemmas.{before_feed, no_return}
use Rattle.vtd_lines.proofs.lines.before_return.Goals as goal
use Rattle.vtd_lines.proofs.lines.before_return.Goals.{else-from-end-via-then-from-end+else-script-end-eq13, else-from-end-via-else-from-end}
use Rattle.std.proofs.Common.{arith}

pub returns-then-script-end-eq13 : goal.returns-then-script-end-eq13
returns-then-script-end-eq13 c = before_feed c.args.script.now c.args.from c.args.end c.requires c.if-from-end.true c.if-script-end-eq13.true

pub returns-else-from-end : goal.returns-else-from-end
returns-else-from-end c = no_return c.args.script.now c.args.from c.args.end c.requires (λ h e. elim c.else-from-end.branch [
  | else-from-end-via-then-from-end+else-script-end-eq13 w ↦ w.if-script-end-eq13.false e
  | else-from-end-via-else-from-end w ↦ (let l = w.if-from-end.false in omega arith)
])
