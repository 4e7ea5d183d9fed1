use Rattle.std.proofs.Common.{◌≡◌, ◌+◌, ◌-◌, ◌≤◌, length, drop}
use Rattle.xpath_tokens.specs.Words.{run, is_other}
use Rattle.xpath_tokens.proofs.words.run_before.Given as goal

abbrev pub invariant-loop-count : goal.invariant-loop-count
invariant-loop-count l = record {
  within : l.count ≤ length l.chars;
  same : run (is_other l.stop) l.chars ≡ l.count + run (is_other l.stop) (drop l.count l.chars);
}

abbrev pub decreases-loop-count : goal.decreases-loop-count
decreases-loop-count l = length l.chars - l.count
