use Rattle.std.proofs.Common.{◌≡◌, ◌++◌, List, length}
use Rattle.xml_model.specs.Nest.{Forest}
use Rattle.xml_model.specs.Tree.{Entry, Holder, Identifies}
use Rattle.vtd_words.specs.Table.{IsNestOf, nodes_of}
use Rattle.vtd_fragment.specs.Prefixes.{AreNoted}
use Rattle.vtd_fragment.proofs.passing.note_all.Given as goal

abbrev pub invariant-loop-level : goal.invariant-loop-level
invariant-loop-level g l =
    (nest : Forest) → IsNestOf l.fn.table.bytes (g.W.Words.lists l.fn.table.words) nest → (e : Entry) → Identifies l.fn.node.kind l.fn.node.at e (nodes_of l.fn.table.bytes nest) →
    (near far : List Holder) → e.holders ≡ near ++ far → length far ≡ l.level → AreNoted l.prefixes far
