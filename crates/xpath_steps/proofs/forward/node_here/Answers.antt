use Rattle.std.proofs.Common.{sym, ◌∙◌}
use Rattle.xpath_steps.proofs.ForwardLemmas.{begins_here, none_begins}
use Rattle.xpath_steps.proofs.forward.node_here.Goals as goal

pub returns-in_default-clause-none : goal.returns-in_default-clause-none
returns-in_default-clause-none g c = λ nest s.
    none_begins c.args.table.now.bytes nest c.args.at (sym c.in_default.is ∙ c.node_at.ensures.node nest s)

pub returns-clause-here : goal.returns-clause-here
returns-clause-here g c = λ nest s.
    begins_here c.args.table.now.bytes nest c.args.at c.in-Some.node (sym c.in-Some.is ∙ c.node_at.ensures.node nest s)
    c.level_at.result (c.level_at.ensures.level nest s)
