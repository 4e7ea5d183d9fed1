use Rattle.std.proofs.Common.{sym, ◌∙◌}
use Rattle.xpath_steps.proofs.AboveLemmas.{no_node, not_over, is_over}
use Rattle.xpath_steps.proofs.above.holder_at.Goals as goal

pub returns-in_default-clause-holder : goal.returns-in_default-clause-holder
returns-in_default-clause-holder g c = λ nest s. no_node _ _ nest s c.args.back c.args.at (sym c.in_default.is ∙ c.node_from.ensures.node nest s)

pub returns-then-goes_on-clause-holder : goal.returns-then-goes_on-clause-holder
returns-then-goes_on-clause-holder g c = λ nest s.
    is_over _ _ nest s c.args.back c.args.at c.args.parts (c.requires.record nest s) c.level_of.result c.level_of.ensures (c.requires.back nest s)
    c.requires.before c.in-Some.node (sym c.in-Some.is ∙ c.node_from.ensures.node nest s) c.goes_on.result c.goes_on.ensures c.if-goes_on.true

pub returns-else-goes_on-clause-holder : goal.returns-else-goes_on-clause-holder
returns-else-goes_on-clause-holder g c = λ nest s.
    not_over _ _ nest s c.args.back c.args.at c.args.parts (c.requires.record nest s) c.level_of.result c.level_of.ensures (c.requires.back nest s)
    c.requires.before c.in-Some.node (sym c.in-Some.is ∙ c.node_from.ensures.node nest s) c.goes_on.result c.goes_on.ensures c.if-goes_on.false
