use Rattle.std.proofs.Common.{sym, ◌∙◌}
use Rattle.xpath_axes.specs.Tests.{node_test}
use Rattle.xpath_axes.proofs.WalkLemmas.{other_token, other_level, no_node, other_kind, sought_fails, sought_found}
use Rattle.xpath_axes.proofs.walk.sought_at.Goals as goal

pub returns-then-not-may_begin-clause-found : goal.returns-then-not-may_begin-clause-found
returns-then-not-may_begin-clause-found g c = λ nest s.
    other_token _ _ nest s c.args.walk (node_test c.args.test.now) c.args.at c.args.parts c.may_begin.result (c.requires.record nest s)
    c.may_begin.ensures c.if-not-may_begin.true

pub returns-then-not-is_level-clause-found : goal.returns-then-not-is_level-clause-found
returns-then-not-is_level-clause-found g c = λ nest s.
    other_level _ _ nest s c.args.walk (node_test c.args.test.now) c.args.at c.level_of.result c.args.parts c.is_level.result (c.requires.record nest s)
    c.level_of.ensures c.is_level.ensures c.if-not-is_level.true

pub returns-in_default-clause-found : goal.returns-in_default-clause-found
returns-in_default-clause-found g c = λ nest s.
    no_node _ nest c.args.walk (node_test c.args.test.now) c.args.at (sym c.in_default.is ∙ c.node_from.ensures.node nest s)

pub returns-then-not-is_kind-clause-found : goal.returns-then-not-is_kind-clause-found
returns-then-not-is_kind-clause-found g c = λ nest s.
    other_kind _ _ nest s c.args.walk (node_test c.args.test.now) c.args.at c.in-Some.node c.is_kind.result
    (sym c.in-Some.is ∙ c.node_from.ensures.node nest s) c.is_kind.ensures c.if-not-is_kind.true

pub returns-then-passes-clause-found : goal.returns-then-passes-clause-found
returns-then-passes-clause-found g c = λ nest s.
    sought_found _ _ nest s c.args.walk (node_test c.args.test.now) c.args.at c.level_of.result c.args.parts c.in-Some.node c.is_level.result
    c.is_kind.result c.passes.result (c.requires.record nest s) c.level_of.ensures c.is_level.ensures c.if-not-is_level.false
    (sym c.in-Some.is ∙ c.node_from.ensures.node nest s) c.is_kind.ensures c.if-not-is_kind.false (c.passes.ensures.passes nest s) c.if-passes.true

pub returns-else-passes-clause-found : goal.returns-else-passes-clause-found
returns-else-passes-clause-found g c = λ nest s.
    sought_fails _ _ nest s c.args.walk (node_test c.args.test.now) c.args.at c.in-Some.node c.passes.result
    (sym c.in-Some.is ∙ c.node_from.ensures.node nest s) (c.passes.ensures.passes nest s) c.if-passes.false
