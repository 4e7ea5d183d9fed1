use Rattle.xpath_grammar.proofs.Depths.{deep_is, deep_not}
use Rattle.xpath_grammar.proofs.Whole.{token_refused}
use Rattle.xpath_grammar.proofs.entry.parse_tokens.Goals as goal

pub returns-then-is_deep : goal.returns-then-is_deep
returns-then-is_deep c = deep_is c.args.tokens.now c.is_deep.ensures c.if-is_deep.true

pub returns-in-Ok : goal.returns-in-Ok
returns-in-Ok c = record { shallow = deep_not c.args.tokens.now c.is_deep.ensures c.if-is_deep.false; derived = c.in-Ok.ensures }

pub returns-in-Err : goal.returns-in-Err
returns-in-Err c = token_refused c.args.tokens.now c.in-Err.fault c.fault_of.result c.fault_of.ensures (deep_not c.args.tokens.now c.is_deep.ensures c.if-is_deep.false) c.in-Err.ensures
