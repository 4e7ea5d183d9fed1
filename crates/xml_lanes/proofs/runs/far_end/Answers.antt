use Rattle.std.proofs.Common.{◌∙◌, arith}
use Rattle.xml_lanes.proofs.RunLemmas.{run_ends, run_goes}
use Rattle.xml_lanes.proofs.runs.far_end.Goals as goal

pub returns-then-run-lt-LANES-clause-value : goal.returns-then-run-lt-LANES-clause-value
returns-then-run-lt-LANES-clause-value g c =
    run_ends (g.C.ByteClass.has c.args.class.now) c.args.bytes.now c.loop-place.place 16 c.run_len-run.result c.run_len-run.ensures.run c.if-run-lt-LANES.true ∙ c.loop-place.invariant.1

pub loop-place-preserved : goal.loop-place-preserved
loop-place-preserved g c =
    (omega (arith, c.loop-place-test.true), run_goes (g.C.ByteClass.has c.args.class.now) c.args.bytes.now c.loop-place.place 16 c.run_len-run.result c.run_len-run.ensures.run (omega (arith, c.if-run-lt-LANES.false, c.run_len-run.ensures.few)) ∙ c.loop-place.invariant.1)
