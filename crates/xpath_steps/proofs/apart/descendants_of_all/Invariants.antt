use Rattle.std.proofs.Common.{◌≡◌, ◌++◌, drop}
use Rattle.vtd_words.specs.Table.{nodes_of}
use Rattle.xpath_axes.specs.Tests.{node_test}
use Rattle.xpath_steps.specs.Steps.{ForEachContexts}
use Rattle.xpath_steps.proofs.StepLemmas.{below}
use Rattle.xpath_steps.proofs.apart.descendants_of_all.Given as goal

abbrev pub invariant-loop-context : goal.invariant-loop-context
invariant-loop-context g l = record {
  names : g.N.Names.knows l.names l.table;
  so_far : ForEachContexts l.table.bytes (g.W.Words.lists l.table.words) l.contexts (λ nest cs.
      below (node_test l.test) (nodes_of l.table.bytes nest) 0 cs
      ≡ l.held.items ++ below (node_test l.test) (nodes_of l.table.bytes nest) l.low (drop l.context-index cs));
}
