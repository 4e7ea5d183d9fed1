use Rattle.std.specs.List.{AllByRecursion}
use Rattle.vtd_words.specs.Table.{IsNodeOf}
use Rattle.speed_values.proofs.documents.texts_of.Given as goal

abbrev pub invariant-loop-at : goal.invariant-loop-at
invariant-loop-at g l = AllByRecursion (λ x. IsNodeOf l.table.bytes (g.W.Words.lists l.table.words) x) l.held.items
