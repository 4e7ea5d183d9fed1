use Rattle.std.proofs.Common.{◌≤◌}
use Rattle.xml_model.specs.Nest.{Forest}
use Rattle.xml_model.specs.Tree.{Entry, Identifies}
use Rattle.vtd_words.specs.Table.{IsNestOf, nodes_of}
use Rattle.vtd_fragment.specs.Prefixes.{AreNoted, ArePassed}
use Rattle.vtd_fragment.proofs.passing.pass_names.Given as goal

abbrev pub invariant-loop-at : goal.invariant-loop-at
invariant-loop-at g l = record {
  low : l.fn.node.at ≤ l.at;
  passed : (nest : Forest) → IsNestOf l.table.bytes (g.W.Words.lists l.table.words) nest → (e : Entry) → Identifies l.fn.node.kind l.fn.node.at e (nodes_of l.table.bytes nest) → AreNoted l.initial.prefixes e.holders →
      ArePassed l.prefixes (nodes_of l.table.bytes nest) e l.at l.at;
}
