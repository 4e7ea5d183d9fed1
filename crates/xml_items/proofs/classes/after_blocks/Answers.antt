use Rattle.std.proofs.Common.{◌∙◌, sym, arith}
use Rattle.xml_items.specs.Runs.{goes_on}
use Rattle.xml_items.proofs.ByteRuns.{run_block}
use Rattle.xml_items.proofs.classes.after_blocks.Goals as goal

pub loop-rest-preserved : goal.loop-rest-preserved
loop-rest-preserved c = record {
  run = run_block (goes_on c.args.stops) c.args.bytes.now c.loop-rest.rest.now c.split_at.result.0.now c.split_at.result.1.now 32 (omega arith) c.loop-rest.invariant.shorter c.split_at.ensures.front c.split_at.ensures.back (sym c.is_run.ensures ∙ c.if-not-is_run.false) c.loop-rest.invariant.run;
  shorter = omega (arith, c.split_at.ensures.back_len, c.loop-rest.invariant.shorter);
}
