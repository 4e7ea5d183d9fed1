use Rattle.std.proofs.Common.{◌≡◌, ◌++◌, ◌-◌, length}
use Rattle.xml_model.specs.Items.{first_place}
use Rattle.xml_model.specs.Records.{records}
use Rattle.vtd_words.specs.Table.{ForEachNest, nodes_of}
use Rattle.xpath_axes.specs.Tests.{node_test}
use Rattle.xpath_axes.specs.Walks.{nodes_left, stop_of}
use Rattle.xpath_steps.proofs.gather.append_walk.Given as goal

abbrev pub invariant-loop-node : goal.invariant-loop-node
invariant-loop-node g l = record {
  names : g.N.Names.knows l.names l.table;
  so_far : ForEachNest l.table.bytes (g.W.Words.lists l.table.words) (λ nest.
      l.initial.held.items ++ nodes_left l.fn.walk (node_test l.test) (records nest (first_place l.table.bytes)) (nodes_of l.table.bytes nest)
      ≡ l.held.items ++ nodes_left l.rest (node_test l.test) (records nest (first_place l.table.bytes)) (nodes_of l.table.bytes nest));
  stops : ForEachNest l.table.bytes (g.W.Words.lists l.table.words) (λ nest.
      stop_of l.fn.walk (records nest (first_place l.table.bytes)) ≡ stop_of l.rest (records nest (first_place l.table.bytes)));
}

abbrev pub decreases-loop-node : goal.decreases-loop-node
decreases-loop-node g l = length (g.W.Words.lists l.table.words).records - l.rest.at
