use Rattle.std.proofs.Common.{◌≡◌, List}
use Rattle.xml_model.specs.Nest.{Forest}
use Rattle.xml_model.specs.Tree.{Holder}
use Rattle.xml_model.specs.Laws.{holder_index}
use Rattle.vtd_words.specs.Table.{IsNestOf, nodes_of}
use Rattle.vtd_namespaces.specs.Scope.{Chain}
use Rattle.vtd_namespaces.specs.Reach.{IsElementAt}
use Rattle.xpath_nodes.proofs.LanguageLemmas.{LeftAbove}
use Rattle.xpath_nodes.proofs.languages.language_above.Given as goal

abbrev pub invariant-loop-at : goal.invariant-loop-at
invariant-loop-at g l = record {
  element : (l.at ≡ 0 → ⊥) → IsElementAt l.table.bytes (g.W.Words.lists l.table.words) l.at;
  above : (nest : Forest) → IsNestOf l.table.bytes (g.W.Words.lists l.table.words) nest → (hs : List Holder) → Chain (nodes_of l.table.bytes nest) hs →
      holder_index hs ≡ l.tag → LeftAbove (nodes_of l.table.bytes nest) hs l.at;
}

abbrev pub decreases-loop-at : goal.decreases-loop-at
decreases-loop-at g l = l.at
