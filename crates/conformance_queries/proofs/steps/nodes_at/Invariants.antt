use Rattle.std.specs.List.{AllByRecursion}
use Rattle.vtd_words.specs.Table.{IsNodeOf}
use Rattle.conformance_queries.proofs.steps.nodes_at.Given as goal

abbrev pub invariant-loop-word : goal.invariant-loop-word
invariant-loop-word g l = AllByRecursion (IsNodeOf l.table.bytes (g.W.Words.lists l.table.words)) l.nodes.items
