use Rattle.std.proofs.Common.{◌≡◌, ◌+◌, ◌-◌, ◌≤◌, length, drop}
use Rattle.xml_model.specs.Chars.{is_space}
use Rattle.xpath_tokens.specs.Words.{run}
use Rattle.xpath_tokens.proofs.words.space_run.Given as goal

abbrev pub invariant-loop-count : goal.invariant-loop-count
invariant-loop-count l = record {
  within : l.count ≤ length l.chars;
  same : run is_space l.chars ≡ l.count + run is_space (drop l.count l.chars);
}

abbrev pub decreases-loop-count : goal.decreases-loop-count
decreases-loop-count l = length l.chars - l.count
