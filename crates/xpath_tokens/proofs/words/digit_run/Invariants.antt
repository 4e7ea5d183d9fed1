use Rattle.std.proofs.Common.{◌≡◌, ◌+◌, ◌-◌, ◌≤◌, length, drop}
use Rattle.xpath_tokens.specs.Tokens.{is_decimal_digit}
use Rattle.xpath_tokens.specs.Words.{run}
use Rattle.xpath_tokens.proofs.words.digit_run.Given as goal

abbrev pub invariant-loop-count : goal.invariant-loop-count
invariant-loop-count l = record {
  within : l.count ≤ length l.chars;
  same : run is_decimal_digit l.chars ≡ l.count + run is_decimal_digit (drop l.count l.chars);
}

abbrev pub decreases-loop-count : goal.decreases-loop-count
decreases-loop-count l = length l.chars - l.count
