use Rattle.std.proofs.Common.{◌+◌, ◌-◌, arith}
use Rattle.xpath_values.proofs.KeptLemmas.{more_single}
use Rattle.xpath_values.proofs.normal.single_len.Goals as goal

pub loop-start-preserved : goal.loop-start-preserved
loop-start-preserved c = record {
  within = omega arith;
  single =
      more_single c.args.bytes.now c.loop-start.start 64 (c.loop-start.start + 64 + 1 - c.loop-start.start) (omega arith) (omega arith)
      c.loop-start.invariant.single (c.are_single.ensures c.if-not-are_single.false);
}
