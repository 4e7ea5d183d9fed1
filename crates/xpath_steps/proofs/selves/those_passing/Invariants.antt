use Rattle.std.proofs.Common.{◌≡◌, ◌++◌, List, false, map, filter, drop}
use Rattle.xml_model.specs.Names.{passes}
use Rattle.xml_model.specs.Tree.{Entry}
use Rattle.vtd_words.specs.Table.{ForEachNest, node_of, nodes_of}
use Rattle.xpath_axes.specs.Tests.{node_test}
use Rattle.xpath_steps.specs.Steps.{AreAmong}
use Rattle.xpath_steps.proofs.selves.those_passing.Given as goal

abbrev pub invariant-loop-node : goal.invariant-loop-node
invariant-loop-node g l = record {
  names : g.N.Names.knows l.names l.table;
  so_far : ForEachNest l.table.bytes (g.W.Words.lists l.table.words) (λ nest. (cs : List Entry) → map node_of cs ≡ l.nodes →
      AreAmong cs (nodes_of l.table.bytes nest) →
      map node_of (filter (passes (node_test l.test) false) cs)
      ≡ l.held.items ++ map node_of (filter (passes (node_test l.test) false) (drop l.node-index cs)));
}
