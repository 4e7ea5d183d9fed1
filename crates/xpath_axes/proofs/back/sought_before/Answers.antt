use Rattle.std.proofs.Common.{sym, ◌∙◌}
use Rattle.xpath_axes.specs.Tests.{node_test}
use Rattle.xpath_axes.proofs.BackLemmas.{other_token, other_level, no_node, not_over, not_passed, passed}
use Rattle.xpath_axes.proofs.back.sought_before.Goals as goal

pub returns-then-not-may_begin-clause-found : goal.returns-then-not-may_begin-clause-found
returns-then-not-may_begin-clause-found g c = λ nest s.
    other_token _ _ nest s c.args.back (node_test c.args.test.now) c.args.at c.args.parts (c.requires.record nest s) c.may_begin.result
    c.may_begin.ensures c.if-not-may_begin.true

pub returns-then-not-is_level-clause-found : goal.returns-then-not-is_level-clause-found
returns-then-not-is_level-clause-found g c = λ nest s.
    other_level _ _ nest s c.args.back (node_test c.args.test.now) c.args.at c.args.parts (c.requires.record nest s) c.level_of-level.result
    c.is_level.result c.level_of-level.ensures c.is_level.ensures c.if-not-is_level.true

pub returns-in_default-clause-found : goal.returns-in_default-clause-found
returns-in_default-clause-found g c = λ nest s.
    no_node _ _ nest s c.args.back (node_test c.args.test.now) c.args.at c.args.parts (c.requires.record nest s)
    (sym c.in_default.is ∙ c.node_from.ensures.node nest s)

pub returns-then-not-is_over-clause-found : goal.returns-then-not-is_over-clause-found
returns-then-not-is_over-clause-found g c = λ nest s.
    not_over _ _ nest s c.args.back (node_test c.args.test.now) c.args.at c.args.parts (c.requires.record nest s) c.level_of-level.result
    c.level_of-level.ensures (c.requires.back nest s) c.requires.after_root c.requires.before c.in-Some.node
    (sym c.in-Some.is ∙ c.node_from.ensures.node nest s) c.is_over.result c.is_over.ensures c.if-not-is_over.true

pub returns-then-passes-clause-found : goal.returns-then-passes-clause-found
returns-then-passes-clause-found g c = λ nest s.
    passed _ _ nest s c.args.back (node_test c.args.test.now) c.args.at c.args.parts (c.requires.record nest s) c.level_of-level.result
    c.level_of-level.ensures (c.requires.back nest s) c.requires.after_root c.requires.before c.in-Some.node
    (sym c.in-Some.is ∙ c.node_from.ensures.node nest s) c.is_level.result c.is_over.result c.passes.result c.is_level.ensures c.if-not-is_level.false
    c.is_over.ensures c.if-not-is_over.false (c.passes.ensures.passes nest s) c.if-passes.true

pub returns-else-passes-clause-found : goal.returns-else-passes-clause-found
returns-else-passes-clause-found g c = λ nest s.
    not_passed _ _ nest s c.args.back (node_test c.args.test.now) c.args.at c.args.parts (c.requires.record nest s) c.level_of-level.result
    c.level_of-level.ensures (c.requires.back nest s) c.requires.after_root c.requires.before c.in-Some.node
    (sym c.in-Some.is ∙ c.node_from.ensures.node nest s) c.passes.result (c.passes.ensures.passes nest s) c.if-passes.false
