use Rattle.std.proofs.Common.{subst}
use Rattle.xpath_grammar.specs.TokenParse.{ParsesTokens}
use Rattle.xpath_grammar.proofs.Whole.{text_refused}
use Rattle.xpath_grammar.proofs.WellFormedLemmas.{formed_parse}
use Rattle.xpath_grammar.proofs.entry.parse.Goals as goal

pub returns-in-Ok-clause-refusal : goal.returns-in-Ok-clause-refusal
returns-in-Ok-clause-refusal c =
    text_refused c.args.text.now c.in-Ok.tokens.items c.parse_tokens.result c.if-text-gt-LONGEST.false c.in-Ok.ensures.tokens
    (subst (λ z. ParsesTokens z c.parse_tokens.result) c.as_slice.ensures.value c.parse_tokens.ensures)

pub returns-in-Ok-clause-formed : goal.returns-in-Ok-clause-formed
returns-in-Ok-clause-formed c =
    formed_parse c.in-Ok.tokens.items c.parse_tokens.result c.in-Ok.ensures.tokens
    (subst (λ z. ParsesTokens z c.parse_tokens.result) c.as_slice.ensures.value c.parse_tokens.ensures)
