use Rattle.std.specs.List.{AllByRecursion}
use Rattle.vtd_words.specs.Table.{IsNodeOf}
use Rattle.conformance_documents.proofs.values.nodes_in.Given as goal

abbrev pub invariant-loop-word : goal.invariant-loop-word
invariant-loop-word g l = AllByRecursion (λ x. IsNodeOf l.table.bytes (g.W.Words.lists l.table.words) x) l.held.items
