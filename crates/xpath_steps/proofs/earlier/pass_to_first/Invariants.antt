use Rattle.std.proofs.Common.{◌≤◌, drop, length}
use Rattle.std.specs.List.{AllByRecursion}
use Rattle.vtd_words.specs.Table.{IsNodeOf, nodes_of}
use Rattle.xpath_steps.specs.Earlier.{children_among, Earlier}
use Rattle.xpath_steps.specs.Holders.{index_before}
use Rattle.xpath_steps.specs.Steps.{ForEachContexts}
use Rattle.xpath_steps.specs.Waits.{flagged}
use Rattle.xpath_steps.proofs.earlier.pass_to_first.Given as goal

abbrev pub invariant-loop-rest : goal.invariant-loop-rest
invariant-loop-rest g l = record {
  within : l.rest ≤ length l.contexts;
  some : 1 ≤ l.rest;
  nodes : AllByRecursion (IsNodeOf l.table.bytes (g.W.Words.lists l.table.words)) l.held.items;
  gathered : ForEachContexts l.table.bytes (g.W.Words.lists l.table.words) l.contexts (λ nest cs.
      Earlier (nodes_of l.table.bytes nest) (children_among (drop l.rest cs)) (index_before l.contexts l.rest) (flagged l.waiting) l.held.items);
}

abbrev pub decreases-loop-rest : goal.decreases-loop-rest
decreases-loop-rest g l = l.rest
