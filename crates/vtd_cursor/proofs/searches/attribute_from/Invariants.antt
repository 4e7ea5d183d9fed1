use Rattle.xml_model.specs.Items.{first_place}
use Rattle.xml_model.specs.Laws.{is_attribute_thing}
use Rattle.xml_model.specs.Nest.{Forest}
use Rattle.xml_model.specs.Records.{records}
use Rattle.vtd_words.specs.Table.{IsNestOf, nodes_of}
use Rattle.xml_model.specs.Scan.{is_attribute_part}
use Rattle.vtd_cursor.proofs.SearchLemmas.{PassedFrom}
use Rattle.vtd_cursor.proofs.searches.attribute_from.Given as goal

abbrev pub invariant-loop-at : goal.invariant-loop-at
invariant-loop-at g l = (nest : Forest) → IsNestOf l.table.bytes (g.W.Words.lists l.table.words) nest →
    PassedFrom (is_attribute_part l.level) is_attribute_thing l.level (records nest (first_place l.table.bytes)) (nodes_of l.table.bytes nest) l.from l.at
