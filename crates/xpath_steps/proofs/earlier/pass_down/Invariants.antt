use Rattle.std.proofs.Common.{◌≤◌, List}
use Rattle.std.specs.List.{AllByRecursion}
use Rattle.xml_model.specs.Tree.{Entry}
use Rattle.vtd_words.specs.Table.{ForEachNest, IsNodeOf, nodes_of}
use Rattle.xpath_steps.specs.Earlier.{Earlier}
use Rattle.xpath_steps.specs.Waits.{flagged}
use Rattle.xpath_steps.proofs.earlier.pass_down.Given as goal

abbrev pub invariant-loop-rest : goal.invariant-loop-rest
invariant-loop-rest g l = record {
  sooner : l.rest ≤ l.from;
  range : l.to ≤ l.from → l.to ≤ l.rest;
  nodes : AllByRecursion (IsNodeOf l.table.bytes (g.W.Words.lists l.table.words)) l.held.items;
  gathered : ForEachNest l.table.bytes (g.W.Words.lists l.table.words) (λ nest. (ds : List Entry) → l.to ≤ l.from →
      Earlier (nodes_of l.table.bytes nest) ds l.from (flagged l.initial.waiting) l.initial.held.items →
      Earlier (nodes_of l.table.bytes nest) ds l.rest (flagged l.waiting) l.held.items);
}

abbrev pub decreases-loop-rest : goal.decreases-loop-rest
decreases-loop-rest g l = l.rest
