use Rattle.std.proofs.Common.{◌≡◌, ◌++◌, drop}
use Rattle.xml_model.specs.declared.Axis.TheVariants as axes
use Rattle.vtd_words.specs.Table.{nodes_of}
use Rattle.xpath_axes.specs.Tests.{node_test}
use Rattle.xpath_steps.specs.Steps.{ForEachContexts}
use Rattle.xpath_steps.proofs.StepLemmas.{each_of}
use Rattle.xpath_steps.proofs.apart.attributes_of_all.Given as goal

abbrev pub invariant-loop-context : goal.invariant-loop-context
invariant-loop-context g l = record {
  names : g.N.Names.knows l.names l.table;
  so_far : ForEachContexts l.table.bytes (g.W.Words.lists l.table.words) l.contexts (λ nest cs.
      each_of axes.Attribute (node_test l.test) (nodes_of l.table.bytes nest) cs
      ≡ l.held.items ++ each_of axes.Attribute (node_test l.test) (nodes_of l.table.bytes nest) (drop l.context-index cs));
}
