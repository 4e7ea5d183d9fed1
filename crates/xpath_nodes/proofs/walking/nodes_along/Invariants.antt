use Rattle.std.proofs.Common.{◌≡◌, ◌+◌, ◌++◌, length}
use Rattle.vtd_words.specs.Table.{ForEachEntry, nodes_of}
use Rattle.xpath_axes.specs.Iters.{one_first, records_left, to_come}
use Rattle.xpath_axes.specs.Tests.{node_test, nodes_on}
use Rattle.xpath_nodes.proofs.walking.nodes_along.Given as goal

abbrev pub invariant-loop-found : goal.invariant-loop-found
invariant-loop-found g l = record {
  bytes : l.left.bytes ≡ l.fn.nav.bytes;
  words : l.left.words ≡ l.fn.nav.words;
  so_far : ForEachEntry l.fn.nav.bytes (g.W.Words.lists l.fn.nav.words) l.fn.node (λ nest e.
      nodes_on l.fn.axis (node_test l.fn.test) e (nodes_of l.fn.nav.bytes nest) ≡ l.held.items ++ to_come l.left nest);
  names : g.N.Names.knows l.names (record { bytes = l.fn.nav.bytes; words = l.fn.nav.words });
}

abbrev pub decreases-loop-found : goal.decreases-loop-found
decreases-loop-found g l = one_first l.left.first + records_left (length (g.W.Words.lists l.fn.nav.words).records) l.left.rest
