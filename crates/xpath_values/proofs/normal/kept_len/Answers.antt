use Rattle.std.proofs.lemmas.Str.{IsCharBoundary-start}
use Rattle.xpath_values.proofs.normal.kept_len.Goals as goal

pub returns-then-not-passed-clause-place : goal.returns-then-not-passed-clause-place
returns-then-not-passed-clause-place c = IsCharBoundary-start c.args.text.now c.utf8.text

pub returns-then-passed-clause-place : goal.returns-then-passed-clause-place
returns-then-passed-clause-place c = IsCharBoundary-start c.args.text.now c.utf8.text
