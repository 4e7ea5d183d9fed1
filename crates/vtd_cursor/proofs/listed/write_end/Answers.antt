use Rattle.vtd_cursor.proofs.PassLemmas.{end_written}
use Rattle.vtd_cursor.proofs.listed.write_end.Goals as goal

pub returns : goal.returns
returns c = end_written c.args.spans.now c.args.place c.args.end c.requires
