use Rattle.std.proofs.Common.{◌∙◌, arith}
use Rattle.vtd_builder.specs.Cuts.{is_other}
use Rattle.xml_lanes.proofs.RunLemmas.{run_goes}
use Rattle.vtd_builder.proofs.tags.next_byte.Goals as goal

pub returns-clause-value : goal.returns-clause-value
returns-clause-value c =
    c.far_byte-2.ensures.value ∙ run_goes (is_other c.args.byte) c.args.bytes.now c.args.at 16 c.run_len-run.result c.run_len-run.ensures.run (omega (arith, c.if-run-lt-LANES.false, c.run_len-run.ensures.few))
