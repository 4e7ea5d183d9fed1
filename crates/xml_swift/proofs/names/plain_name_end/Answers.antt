use Rattle.std.proofs.Common.{◌+◌, sym, ◌∙◌, arith}
use Rattle.xml_lanes.specs.Classes.{is_name_byte}
use Rattle.xml_lanes.proofs.RunLemmas.{run_ends}
use Rattle.xml_swift.proofs.FrontLemmas.{name_there}
use Rattle.xml_swift.proofs.names.plain_name_end.Goals as goal

pub returns-clause-name : goal.returns-clause-name
returns-clause-name c =
    name_there c.args.bytes.now c.args.at (c.args.at + c.run_len-run.result) (omega (arith, c.requires.room)) (sym c.is_plain_start.ensures ∙ c.if-not-is_plain_start.false)
    (run_ends is_name_byte c.args.bytes.now c.args.at 16 c.run_len-run.result c.run_len-run.ensures.run (omega (arith, c.if-run-ge-LANES.false)))
