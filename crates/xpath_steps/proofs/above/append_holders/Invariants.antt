use Rattle.std.proofs.Common.{◌≡◌, ◌++◌, map}
use Rattle.std.specs.List.{AllByRecursion}
use Rattle.xml_model.specs.Items.{first_place}
use Rattle.xml_model.specs.Records.{records}
use Rattle.vtd_words.specs.Table.{ForEachNest, IsNodeOf, node_of, nodes_of}
use Rattle.xpath_axes.specs.Backs.{IsBack}
use Rattle.xpath_steps.specs.Holders.{holders_left}
use Rattle.xpath_steps.proofs.above.append_holders.Given as goal

abbrev pub invariant-loop-rest : goal.invariant-loop-rest
invariant-loop-rest g l = record {
  back : ForEachNest l.table.bytes (g.W.Words.lists l.table.words) (λ nest. IsBack (records nest (first_place l.table.bytes))
      (nodes_of l.table.bytes nest) l.rest);
  nodes : AllByRecursion (IsNodeOf l.table.bytes (g.W.Words.lists l.table.words)) l.held.items;
  so_far : ForEachNest l.table.bytes (g.W.Words.lists l.table.words) (λ nest.
      l.initial.held.items ++ map node_of (holders_left l.fn.back l.stop (nodes_of l.table.bytes nest))
      ≡ l.held.items ++ map node_of (holders_left l.rest l.stop (nodes_of l.table.bytes nest)));
}

abbrev pub decreases-loop-rest : goal.decreases-loop-rest
decreases-loop-rest g l = l.rest.at
