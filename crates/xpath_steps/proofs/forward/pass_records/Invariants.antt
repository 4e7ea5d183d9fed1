use Rattle.std.proofs.Common.{◌≡◌, ℕ, ◌≤◌, ◌<◌, ◌-◌, List, false}
use Rattle.xml_model.specs.Contexts.{is_index_of, AreContexts}
use Rattle.xml_model.specs.Tree.{Entry}
use Rattle.vtd_words.specs.Table.{ForEachNest, nodes_of}
use Rattle.xpath_axes.specs.Tests.{node_test}
use Rattle.xpath_steps.specs.Forward.{Passed}
use Rattle.xpath_steps.specs.Waits.{flagged}
use Rattle.xpath_steps.proofs.forward.pass_records.Given as goal

abbrev pub invariant-loop-at : goal.invariant-loop-at
invariant-loop-at g l = record {
  names : g.N.Names.knows l.names l.table;
  later : l.from ≤ l.at;
  range : l.from ≤ l.to → l.at ≤ l.to;
  passed : ForEachNest l.table.bytes (g.W.Words.lists l.table.words) (λ nest. (cs : List Entry) → AreContexts cs (nodes_of l.table.bytes nest) →
      l.from ≤ l.to → ((k : ℕ) → l.from ≤ k → k < l.to → is_index_of cs k ≡ false) →
      Passed l.sought cs (nodes_of l.table.bytes nest) (node_test l.test) l.from (flagged l.initial.flags) l.initial.held.items →
      Passed l.sought cs (nodes_of l.table.bytes nest) (node_test l.test) l.at (flagged l.flags) l.held.items);
}

abbrev pub decreases-loop-at : goal.decreases-loop-at
decreases-loop-at g l = l.to - l.at
