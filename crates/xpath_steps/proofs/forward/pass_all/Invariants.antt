use Rattle.std.proofs.Common.{◌≡◌, ℕ, ◌≤◌, drop, length}
use Rattle.std.specs.List.{AllByRecursion}
use Rattle.xml_model.specs.Contexts.{is_index_of}
use Rattle.xml_model.specs.Items.{first_place}
use Rattle.xml_model.specs.Records.{records}
use Rattle.vtd_words.specs.Table.{nodes_of}
use Rattle.xpath_axes.specs.Tests.{node_test}
use Rattle.xpath_steps.specs.Forward.{Passed}
use Rattle.xpath_steps.specs.Steps.{ForEachContexts}
use Rattle.xpath_steps.specs.Waits.{flagged}
use Rattle.xpath_steps.proofs.forward.pass_all.Given as goal

abbrev pub invariant-loop-context : goal.invariant-loop-context
invariant-loop-context g l = record {
  names : g.N.Names.knows l.names l.table;
  so_far : ForEachContexts l.table.bytes (g.W.Words.lists l.table.words) l.contexts (λ nest cs. record {
    ahead : AllByRecursion (λ c. l.at ≤ c.index) (drop l.context-index cs);
    asked : (k : ℕ) → l.at ≤ k → is_index_of cs k ≡ is_index_of (drop l.context-index cs) k;
    within : l.at ≤ length (records nest (first_place l.table.bytes));
    passed : Passed l.sought cs (nodes_of l.table.bytes nest) (node_test l.test) l.at (flagged l.flags) l.held.items;
  });
}
