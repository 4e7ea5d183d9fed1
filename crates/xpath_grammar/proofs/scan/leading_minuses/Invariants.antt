use Rattle.std.proofs.Common.{◌≡◌, ◌+◌, ◌-◌, ◌≤◌, length, drop}
use Rattle.xpath_grammar.specs.Cutting.{leading_minuses}
use Rattle.xpath_grammar.proofs.scan.leading_minuses.Given as goal

abbrev pub invariant-loop-count : goal.invariant-loop-count
invariant-loop-count l = record {
  within : l.count ≤ length l.tokens;
  same : leading_minuses l.tokens ≡ l.count + leading_minuses (drop l.count l.tokens);
}

abbrev pub decreases-loop-count : goal.decreases-loop-count
decreases-loop-count l = length l.tokens - l.count
