use Rattle.std.proofs.Common.{◌≡◌, ◌≤◌, drop}
use Rattle.xpath_grammar.specs.TokenParse.{deep_from}
use Rattle.xpath_grammar.proofs.entry.is_deep.Given as goal

abbrev pub invariant-loop-token : goal.invariant-loop-token
invariant-loop-token l = record {
  few_opened : l.opened ≤ l.token-index;
  few_closed : l.closed ≤ l.token-index;
  same : deep_from 0 0 l.tokens ≡ deep_from l.opened l.closed (drop l.token-index l.tokens);
}
