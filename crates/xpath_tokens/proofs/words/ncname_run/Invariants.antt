use Rattle.std.proofs.Common.{◌≡◌, ◌+◌, ◌-◌, ◌≤◌, length, drop}
use Rattle.xpath_tokens.specs.Words.{run, is_ncname_char}
use Rattle.xpath_tokens.proofs.words.ncname_run.Given as goal

abbrev pub invariant-loop-count : goal.invariant-loop-count
invariant-loop-count l = record {
  within : l.count ≤ length l.chars;
  same : run is_ncname_char l.chars ≡ l.count + run is_ncname_char (drop l.count l.chars);
}

abbrev pub decreases-loop-count : goal.decreases-loop-count
decreases-loop-count l = length l.chars - l.count
