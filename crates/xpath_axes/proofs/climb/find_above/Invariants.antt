use Rattle.std.proofs.Common.{◌≡◌, ◌≤◌}
use Rattle.vtd_words.specs.Table.{ForEachNest, IdentifiesInEach, IsNodeOf, nodes_of}
use Rattle.xpath_axes.specs.Climbs.{nodes_above}
use Rattle.xpath_axes.specs.Tests.{node_test}
use Rattle.xpath_axes.proofs.climb.find_above.Given as goal

abbrev pub invariant-loop-owner : goal.invariant-loop-owner
invariant-loop-owner g l = record {
  names : g.N.Names.knows l.names l.table;
  node : IsNodeOf l.table.bytes (g.W.Words.lists l.table.words) l.at;
  each : IdentifiesInEach l.table.bytes (g.W.Words.lists l.table.words) l.at;
  low : l.at.at ≤ l.fn.node.at;
  same : ForEachNest l.table.bytes (g.W.Words.lists l.table.words) (λ nest.
      nodes_above l.fn.node.at (node_test l.test) (nodes_of l.table.bytes nest) ≡ nodes_above l.at.at (node_test l.test) (nodes_of l.table.bytes nest));
}

abbrev pub decreases-loop-owner : goal.decreases-loop-owner
decreases-loop-owner g l = l.at.at
