use Rattle.std.proofs.lemmas.Str.{IsCharBoundary-start}
use Rattle.conformance.proofs.characters.whole.Goals as goal

pub returns-clause-start : goal.returns-clause-start
returns-clause-start c = IsCharBoundary-start c.as_bytes.result.now c.as_bytes.ensures.utf8
