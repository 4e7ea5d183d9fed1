use Rattle.std.proofs.Common.{length}
use Rattle.xpath_tokens.proofs.text.+same.Given as goal

abbrev pub decreases-same : goal.decreases-same
decreases-same l = length l.chars.now
