use Rattle.std.proofs.Common.{◌≡◌}
use Rattle.xml_model.specs.Items.{first_place}
use Rattle.xml_model.specs.Nest.{Forest}
use Rattle.xml_model.specs.Records.{records}
use Rattle.vtd_words.specs.Table.{IsNestOf, nodes_of}
use Rattle.xpath_axes.specs.Tests.{node_test}
use Rattle.xpath_axes.specs.Walks.{nodes_left, stop_of}
use Rattle.xpath_axes.proofs.walk.find.Given as goal

abbrev pub invariant-loop-at : goal.invariant-loop-at
invariant-loop-at g l = g.N.Names.knows l.names l.table × ((nest : Forest) → IsNestOf l.table.bytes (g.W.Words.lists l.table.words) nest →
    (nodes_left l.walk (node_test l.test) (records nest (first_place l.table.bytes)) (nodes_of l.table.bytes nest)
    ≡ nodes_left (record l.walk { at = l.at }) (node_test l.test) (records nest (first_place l.table.bytes)) (nodes_of l.table.bytes nest))
    × (stop_of l.walk (records nest (first_place l.table.bytes)) ≡ stop_of (record l.walk { at = l.at }) (records nest (first_place l.table.bytes))))
