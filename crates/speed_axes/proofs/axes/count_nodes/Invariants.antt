use Rattle.std.proofs.Common.{◌≡◌, ◌+◌, length}
use Rattle.xpath_axes.specs.Iters.{one_first, records_left}
use Rattle.speed_axes.proofs.axes.count_nodes.Given as goal

abbrev pub invariant-loop-node : goal.invariant-loop-node
invariant-loop-node g l = record {
  bytes : l.nodes.bytes ≡ l.fn.nav.bytes;
  words : l.nodes.words ≡ l.fn.nav.words;
  names : g.N.Names.knows l.names l.fn.nav;
}

abbrev pub decreases-loop-node : goal.decreases-loop-node
decreases-loop-node g l = one_first l.nodes.first + records_left (length (g.W.Words.lists l.fn.nav.words).records) l.nodes.rest
