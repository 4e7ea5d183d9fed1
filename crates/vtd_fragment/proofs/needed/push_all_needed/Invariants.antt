use Rattle.xml_model.specs.Nest.{Forest}
use Rattle.xml_model.specs.Tree.{Entry, Identifies}
use Rattle.xml_model.specs.Accepted.{Accepted}
use Rattle.vtd_words.specs.Table.{IsNestOf, nodes_of}
use Rattle.xml_fragments.specs.Fragment.{subtree}
use Rattle.vtd_fragment.proofs.PushLemmas.{PushedTo}
use Rattle.vtd_fragment.proofs.needed.push_all_needed.Given as goal

abbrev pub invariant-loop-level : goal.invariant-loop-level
invariant-loop-level g l =
    (nest : Forest) → IsNestOf l.table.bytes (g.W.Words.lists l.table.words) nest → (e : Entry) → Identifies l.fn.node.kind l.fn.node.at e (nodes_of l.table.bytes nest) → Accepted 8 l.table.bytes nest →
    PushedTo (subtree e.path (nodes_of l.table.bytes nest)) e.holders l.level l.initial.out.items l.out.items
