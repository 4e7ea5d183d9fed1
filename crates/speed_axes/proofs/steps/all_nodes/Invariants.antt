use Rattle.std.specs.List.{AllByRecursion}
use Rattle.vtd_words.specs.Table.{IsNodeOf}
use Rattle.speed_axes.proofs.steps.all_nodes.Given as goal

abbrev pub invariant-loop-at : goal.invariant-loop-at
invariant-loop-at g l = AllByRecursion (IsNodeOf l.table.bytes (g.W.Words.lists l.table.words)) l.nodes.items
