use Rattle.std.proofs.Common.{arith}
use Rattle.vtd_lines.proofs.LineLemmas.{unended_line, ended_line}
use Rattle.vtd_lines.proofs.lines.next_line.Goals as goal

pub returns-in_default-clause-line : goal.returns-in_default-clause-line
returns-in_default-clause-line c = unended_line c.args.script.now c.args.at (omega arith) c.in_default.ensures.none

pub returns-clause-line : goal.returns-clause-line
returns-clause-line c = ended_line c.args.script.now c.args.at c.in-Some.end c.before_return.result c.in-Some.ensures.found c.before_return.ensures
