use Rattle.std.proofs.Common.{◌∙◌, arith}
use Rattle.xml_lanes.proofs.RunLemmas.{run_goes}
use Rattle.xml_lanes.proofs.runs.run_end.Goals as goal

pub returns-else-run-lt-LANES-clause-value : goal.returns-else-run-lt-LANES-clause-value
returns-else-run-lt-LANES-clause-value g c =
    c.far_end.ensures.value ∙ run_goes (g.C.ByteClass.has c.args.class.now) c.args.bytes.now c.args.at 16 c.run_len-run.result c.run_len-run.ensures.run (omega (arith, c.if-run-lt-LANES.false, c.run_len-run.ensures.few))
