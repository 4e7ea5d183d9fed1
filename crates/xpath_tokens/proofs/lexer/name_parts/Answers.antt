use Rattle.std.proofs.Common.{sym, ◌∙◌, ◌+◌}
use Rattle.std.proofs.lemmas.List.{take_rest}
use Rattle.xpath_tokens.proofs.Spaces.{prefix_before, local_after, prefix_none, local_none}
use Rattle.xpath_tokens.proofs.lexer.name_parts.Goals as goal

pub returns-then-count-word-clause-prefix : goal.returns-then-count-word-clause-prefix
returns-then-count-word-clause-prefix c = sym (prefix_before c.args.word.now c.run_before-count.result c.run_before-count.ensures.count c.if-count-word.true)

pub returns-then-count-word-clause-local : goal.returns-then-count-word-clause-local
returns-then-count-word-clause-local c = take_rest c.args.word.now (c.run_before-count.result + 1) ∙ sym (local_after c.args.word.now c.run_before-count.result c.run_before-count.ensures.count c.if-count-word.true)

pub returns-else-count-word-clause-prefix : goal.returns-else-count-word-clause-prefix
returns-else-count-word-clause-prefix c = sym (prefix_none c.args.word.now c.run_before-count.result c.run_before-count.ensures.count c.if-count-word.false)

pub returns-else-count-word-clause-local : goal.returns-else-count-word-clause-local
returns-else-count-word-clause-local c = sym (local_none c.args.word.now c.run_before-count.result c.run_before-count.ensures.count c.if-count-word.false)
