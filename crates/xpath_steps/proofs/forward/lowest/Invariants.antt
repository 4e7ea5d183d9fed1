use Rattle.std.proofs.Common.{◌≡◌, ℕ, ◌≤◌, ◌⊎◌, true, drop, length}
use Rattle.std.specs.List.{Contains}
use Rattle.xml_model.specs.Laws.{is_child_thing}
use Rattle.xml_model.specs.Tree.{Entry}
use Rattle.vtd_words.specs.Table.{nodes_of}
use Rattle.xpath_steps.specs.Forward.{is_asked}
use Rattle.xpath_steps.specs.Steps.{ForEachContexts}
use Rattle.xpath_steps.proofs.forward.lowest.Given as goal

abbrev pub invariant-loop-context : goal.invariant-loop-context
invariant-loop-context g l = ForEachContexts l.table.bytes (g.W.Words.lists l.table.words) l.contexts (λ nest cs.
    (y : Entry) (m : ℕ) → Contains (nodes_of l.table.bytes nest) y → is_child_thing y.what ≡ true → is_asked l.sought cs m y ≡ true →
    (l.floor ≤ length y.holders) ⊎ (is_asked l.sought (drop l.context-index cs) m y ≡ true))
