use Rattle.std.proofs.Common.{rules}
use Rattle.vtd_outside.proofs.Adds.{append_more}
use Rattle.vtd_outside.proofs.writing.append_all.Goals as goal

pub loop-sent-preserved : goal.loop-sent-preserved
loop-sent-preserved g c =
    let e = c.in_ok-sent.ensures in
    append_more _ _ _ c.args.bytes.now c.loop-sent.sent c.in_ok-sent.field-0 c.loop-sent.invariant (search rules) e.bytes e.known e.same_file e.ok e.cause
