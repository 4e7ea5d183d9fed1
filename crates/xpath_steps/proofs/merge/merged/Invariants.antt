use Rattle.std.proofs.Common.{◌≡◌, ◌+◌, ◌-◌, Bool, List, drop, length, map, filter}
use Rattle.xml_model.specs.Contexts.{Rises}
use Rattle.xml_model.specs.Tree.{Entry}
use Rattle.vtd_words.specs.Table.{node_of}
use Rattle.xpath_steps.proofs.MergeLemmas.{either, Left}
use Rattle.xpath_steps.proofs.merge.merged.Given as goal

abbrev pub invariant-loop-node : goal.invariant-loop-node
invariant-loop-node l =
    (es : List Entry) → Rises es → (P Q : Entry → Bool) → l.one ≡ map node_of (filter P es) → l.other ≡ map node_of (filter Q es) →
    Left P Q (either P Q es) l.held.items (drop l.at l.one) (drop l.from l.other)

abbrev pub decreases-loop-node : goal.decreases-loop-node
decreases-loop-node l = (length l.one - l.at) + (length l.other - l.from)
