use Rattle.vtd_lines.proofs.LineLemmas.{found_feed, no_feed_found}
use Rattle.vtd_lines.proofs.lines.line_feed.Goals as goal

pub returns-in-Some-clause-found : goal.returns-in-Some-clause-found
returns-in-Some-clause-found c = found_feed c.args.script.now c.args.from c.in-Some.length c.in-Some.ensures

pub returns-in-None-clause-none : goal.returns-in-None-clause-none
returns-in-None-clause-none c = no_feed_found c.args.script.now c.args.from c.in-None.ensures
