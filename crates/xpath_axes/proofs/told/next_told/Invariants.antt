use Rattle.std.proofs.Common.{◌≡◌, ◌≤◌, length}
use Rattle.xml_model.specs.Items.{first_place}
use Rattle.xml_model.specs.Records.{records}
use Rattle.vtd_location.specs.Children.{left_in}
use Rattle.vtd_words.specs.Table.{ForEachNest, nodes_of}
use Rattle.xpath_axes.specs.Tests.{node_test}
use Rattle.xpath_axes.specs.Told.{Tells}
use Rattle.xpath_axes.specs.Walks.{nodes_left}
use Rattle.xpath_axes.proofs.told.next_told.Given as goal

abbrev pub invariant-loop-next : goal.invariant-loop-next
invariant-loop-next g l = record {
  names : g.N.Names.knows l.names l.fn.nav;
  lists : l.meter.lists ≡ g.W.Words.lists l.fn.nav.words;
  told : Tells l.fn.nav.bytes (g.W.Words.lists l.fn.nav.words) (node_test l.fn.test) (record l.fn.walk { at = l.next }) l.told;
  later : l.fn.walk.at ≤ l.next;
  same : ForEachNest l.fn.nav.bytes (g.W.Words.lists l.fn.nav.words) (λ nest.
      nodes_left l.fn.walk (node_test l.fn.test) (records nest (first_place l.fn.nav.bytes)) (nodes_of l.fn.nav.bytes nest)
      ≡ nodes_left (record l.fn.walk { at = l.next }) (node_test l.fn.test) (records nest (first_place l.fn.nav.bytes)) (nodes_of l.fn.nav.bytes nest));
}

abbrev pub decreases-loop-next : goal.decreases-loop-next
decreases-loop-next g l = length (left_in (g.W.Words.lists l.fn.nav.words) l.told)
