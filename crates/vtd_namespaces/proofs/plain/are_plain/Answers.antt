use Rattle.std.proofs.Common.{arith}
use Rattle.vtd_words.proofs.Shown.{shown_length}
use Rattle.vtd_namespaces.proofs.PlainLemmas.{plain_more}
use Rattle.vtd_namespaces.proofs.plain.are_plain.Goals as goal

pub loop-at-init : goal.loop-at-init
loop-at-init g c = λ rs s n l. absurd (omega (arith, l))

pub loop-at-preserved : goal.loop-at-preserved
loop-at-preserved g c = λ rs s. plain_more c.args.bytes.now rs c.loop-at.at c.parts_at.result (c.parts_at.ensures.parts rs s) (c.is_plain.ensures c.if-not-is_plain.false) (c.loop-at.invariant rs s)

pub returns : goal.returns
returns g c = λ rs s e n l. c.loop-at.invariant rs s n (omega (arith, l, shown_length _ rs s, c.len-records.ensures, c.loop-at-test.false))
