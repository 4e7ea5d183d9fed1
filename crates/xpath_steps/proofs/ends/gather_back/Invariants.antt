use Rattle.std.proofs.Common.{◌≡◌, ◌++◌}
use Rattle.xml_model.specs.Items.{first_place}
use Rattle.xml_model.specs.Records.{records}
use Rattle.std.specs.List.{AllByRecursion}
use Rattle.vtd_words.specs.Table.{ForEachNest, IsNodeOf, nodes_of}
use Rattle.xpath_axes.specs.Backs.{nodes_before, IsBack}
use Rattle.xpath_axes.specs.Tests.{node_test}
use Rattle.xpath_steps.proofs.ends.gather_back.Given as goal

abbrev pub invariant-loop-node : goal.invariant-loop-node
invariant-loop-node g l = record {
  names : g.N.Names.knows l.names l.table;
  back : ForEachNest l.table.bytes (g.W.Words.lists l.table.words) (λ nest. IsBack (records nest (first_place l.table.bytes))
      (nodes_of l.table.bytes nest) l.rest);
  nodes : AllByRecursion (IsNodeOf l.table.bytes (g.W.Words.lists l.table.words)) l.held.items;
  so_far : ForEachNest l.table.bytes (g.W.Words.lists l.table.words) (λ nest.
      nodes_before l.fn.back (node_test l.test) (records nest (first_place l.table.bytes)) (nodes_of l.table.bytes nest)
      ≡ l.held.items ++ nodes_before l.rest (node_test l.test) (records nest (first_place l.table.bytes)) (nodes_of l.table.bytes nest));
}

abbrev pub decreases-loop-node : goal.decreases-loop-node
decreases-loop-node g l = l.rest.at
