use Rattle.std.proofs.Common.{◌≡◌, ◌≤◌}
use Rattle.xml_model.specs.Items.{first_place}
use Rattle.xml_model.specs.Records.{records}
use Rattle.vtd_words.specs.Table.{ForEachNest, nodes_of}
use Rattle.xpath_axes.specs.Backs.{nodes_before, IsBack}
use Rattle.xpath_axes.specs.Tests.{node_test}
use Rattle.xpath_axes.proofs.back.find_before.Given as goal

abbrev pub invariant-loop-rest : goal.invariant-loop-rest
invariant-loop-rest g l = record {
  names : g.N.Names.knows l.names l.table;
  back : ForEachNest l.table.bytes (g.W.Words.lists l.table.words) (λ nest. IsBack (records nest (first_place l.table.bytes))
      (nodes_of l.table.bytes nest) l.rest);
  same : ForEachNest l.table.bytes (g.W.Words.lists l.table.words) (λ nest.
      nodes_before l.fn.back (node_test l.test) (records nest (first_place l.table.bytes)) (nodes_of l.table.bytes nest)
      ≡ nodes_before l.rest (node_test l.test) (records nest (first_place l.table.bytes)) (nodes_of l.table.bytes nest));
  passed : l.rest.at ≤ l.fn.back.at;
}

abbrev pub decreases-loop-rest : goal.decreases-loop-rest
decreases-loop-rest g l = l.rest.at
