use Rattle.xml_model.specs.Nest.{Forest}
use Rattle.xml_model.specs.Accepted.{repeats}
use Rattle.vtd_words.specs.Table.{IsNestOf, nodes_of}
use Rattle.vtd_namespaces.proofs.FaultLemmas.{NoneBefore}
use Rattle.vtd_namespaces.proofs.repeats.first_repeat.Given as goal

abbrev pub invariant-loop-at : goal.invariant-loop-at
invariant-loop-at g l = (nest : Forest) → IsNestOf l.bytes (g.W.Words.lists l.words) nest → NoneBefore repeats l.at (nodes_of l.bytes nest)
