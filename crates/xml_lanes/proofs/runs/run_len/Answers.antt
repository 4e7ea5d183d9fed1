use Rattle.xml_lanes.proofs.Masks.{run_of, run_few}
use Rattle.xml_lanes.proofs.runs.run_len.Goals as goal

pub returns-clause-run : goal.returns-clause-run
returns-clause-run g c = run_of _ c.args.bytes.now c.args.at c.outside.result c.first_set.result c.requires c.outside.ensures c.first_set.ensures

pub returns-clause-few : goal.returns-clause-few
returns-clause-few g c = run_few _ c.args.bytes.now c.args.at c.outside.result c.first_set.result c.requires c.outside.ensures c.first_set.ensures
