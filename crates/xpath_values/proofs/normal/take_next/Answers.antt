use Rattle.std.proofs.Common.{string_bytes, sym, ◌∙◌}
use Rattle.xpath_values.proofs.NormalLemmas.{space_taken, char_taken}
use Rattle.xpath_values.proofs.normal.take_next.Goals as goal

pub returns-then-is_space : goal.returns-then-is_space
returns-then-is_space c =
    space_taken (string_bytes c.args.held.now) c.args.passed.some c.args.passed.gap c.args.c (sym c.is_space.ensures ∙ c.if-is_space.true)

pub returns : goal.returns
returns c =
    char_taken (string_bytes c.args.held.now) _ _ c.due.result.now c.args.passed.some c.args.passed.gap c.args.c (sym c.is_space.ensures
    ∙ c.if-is_space.false)
    c.due.ensures c.in_ok-push_str.ensures.bytes c.in_ok-push.ensures.bytes
